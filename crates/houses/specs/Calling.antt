-- A call of an open house.
use Rattle.std.specs.Prelude.{◌≡◌}
use Rattle.wires.specs.Rule.{GoesBy}
use Rattle.houses.specs.Rules.{any_policy}
use Rattle.agreement.specs.Calls.{Call, Answer}
use Rattle.house.specs.Choices.{choice_of}
use Rattle.house.specs.Listing.{SameIfRefused}
use Rattle.house.specs.Views.{Steps}
use Rattle.houses.specs.Homes.{Home, KeepsPromise}

-- a call, its answer, and the house before and after it
pub record Made (h : Home) (call : Call) (answer : Answer) (k : Home) : Type 0 where
  -- it was made as it is defined, whatever calls the house had before
  pub steps : Steps h.parts call answer k.parts
  -- what the wire chose, it chose by its rule
  pub choice : GoesBy any_policy h.parts.wire h.policy (choice_of call answer) k.policy
  -- a refused call changes nothing
  pub same : SameIfRefused answer (k ≡ h)
  pub opening : k.opening ≡ h.opening
  -- the house keeps the promise
  pub promise : KeepsPromise k
