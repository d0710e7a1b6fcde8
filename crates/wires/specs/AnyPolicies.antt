-- A policy that is one of the three: each does what it does.
use Rattle.std.specs.Prelude.{ℕ, ◌+◌, ◌%◌, List, Some, None}
use Rattle.wire.specs.Wire.{Posted}
use Rattle.wires.specs.declared.any_policy.AnyPolicy.{AnyPolicy}
use Rattle.wires.specs.declared.any_policy.AnyPolicy.TheVariants.{Sequenced, Turn, Directed}
use Rattle.wires.specs.declared.kind.WireKind.{WireKind}
use Rattle.wires.specs.declared.kind.WireKind.TheVariants as kind
use Rattle.wires.specs.Orders.{left, left_round, own_first, wish_first}

-- the order for the definitive list
abbrev pub any_numbers : AnyPolicy → List Posted → List ℕ → List ℕ
any_numbers (Sequenced p) posts list = left posts list
any_numbers (Turn p) posts list = left_round posts list p.turn
any_numbers (Directed p) posts list = wish_first p.wish posts list

-- the order for a room's tentative list
abbrev pub any_tells : AnyPolicy → List Posted → List ℕ → ℕ → List ℕ
any_tells (Sequenced p) posts list room = own_first posts list room
any_tells (Turn p) posts list room = left_round posts list room
any_tells (Directed p) posts list room = wish_first p.wish posts list

-- the policy after a batch that a room posted was numbered
abbrev pub any_served : AnyPolicy → ℕ → AnyPolicy
any_served (Sequenced p) room = Sequenced p
any_served (Turn p) room = Turn (record { turn = (room + 1) % 8 })
any_served (Directed p) room = Directed (record { wish = None })

-- the policy after a batch was told
abbrev pub any_heard : AnyPolicy → AnyPolicy
any_heard (Sequenced p) = Sequenced p
any_heard (Turn p) = Turn p
any_heard (Directed p) = Directed (record { wish = None })

-- the policy after a wish
abbrev pub any_wished : AnyPolicy → ℕ → AnyPolicy
any_wished (Sequenced p) batch = Sequenced p
any_wished (Turn p) batch = Turn p
any_wished (Directed p) batch = Directed (record { wish = Some batch })

-- the policy of a new wire of each kind
abbrev pub any_fresh : WireKind → AnyPolicy
any_fresh kind.Sequenced = Sequenced (record {})
any_fresh kind.Turn = Turn (record { turn = 0 })
any_fresh kind.Directed = Directed (record { wish = None })
