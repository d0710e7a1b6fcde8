-- A house in use stays in use: opened, it is, and each call leaves it so.
use Rattle.std.proofs.Common.{[]}
use mathlib.Core.Logic.{∥∥₁_map}
use Rattle.agreement.specs.Houses.{Given}
use Rattle.agreement.specs.Calls.{Call, Answer}
use Rattle.house.specs.Views.{Parts, Held, Steps, InUse}

pub in_use_first : (g : Given) (p : Parts) → Held g [] p → InUse p
in_use_first g p held = ∣ (g, ([], held)) ∣₁

pub in_use_next : (p q : Parts) (call : Call) (answer : Answer) → Steps p call answer q → InUse p → InUse q
in_use_next p q call answer steps used = ∥∥₁_map used (λ u. (u.0, (_, (steps u.0 u.1.0 u.1.1).held)))
