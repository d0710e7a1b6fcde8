-- The rule of a wire of any kind: it goes by the policy of its kind.
use Rattle.wires.specs.declared.policy.Policy.{Ghosts}
use Rattle.wires.specs.AnyPolicies.{any_numbers, any_tells, any_fresh, any_served, any_heard, any_wished}
use Rattle.wires.specs.declared.any_policy.AnyPolicy.{AnyPolicy}
use Rattle.wires.specs.declared.kind.WireKind.TheVariants.{Sequenced}

abbrev pub any_policy : Ghosts AnyPolicy
any_policy = record { numbers = any_numbers; tells = any_tells; fresh = any_fresh Sequenced; served = any_served; heard = any_heard; wished = any_wished }
