-- The rule of a wire that goes by a policy.
use Rattle.std.specs.Prelude.{◌≡◌}
use Rattle.wire.specs.Wire.{Wire}
use Rattle.wire.specs.Choices.{Choice, numbered, told, wished, nothing}
use Rattle.wires.specs.Orders.{poster, ByOrder}
use Rattle.wires.specs.declared.policy.Policy.{Ghosts as Policy}

-- By the wire and the policy before a call, the choice in it, and the policy after it:
abbrev pub GoesBy : {P : Type 0} → Policy P → Wire → P → Choice → P → Type 0
-- a numbered batch is the first of the order for the definitive list, and its poster is served
GoesBy policy w p (numbered b) q = ByOrder (policy.numbers p w.posts w.definitive) b q (policy.served p (poster w.posts b))
-- a told batch is the first of the order for the room's tentative list, and is heard
GoesBy policy w p (told room b) q = ByOrder (policy.tells p w.posts (w.tentative room) room) b q (policy.heard p)
-- a wish is taken to the policy
GoesBy policy w p (wished b) q = q ≡ policy.wished p b
-- where nothing is chosen or wished for, the policy stays
GoesBy policy w p nothing q = q ≡ p
