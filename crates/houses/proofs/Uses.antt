-- A house in use stays in use: opened, no call led to it yet; and each call that it has is one more. Whatever the calls were, it
-- keeps the promise after them.
use Rattle.std.proofs.Common.{List, [], sym, subst}
use mathlib.Core.Logic.{∥∥₁_map}
use Rattle.plan.specs.Plan.{Plan}
use Rattle.stock.specs.Stock.{Amounts}
use Rattle.agreement.specs.Calls.{Call, Answer}
use Rattle.agreement.proofs.Kept.{promise-kept}
use Rattle.house.specs.Views.{Parts, view, Held, Steps}
use Rattle.houses.specs.Led.{given, Led, Promised}

-- the calls that led to a house keep its plan
led_by : (opening : Amounts) (plan : Plan) (p : Parts) (calls : List (Call × Answer)) → Held (given plan opening) calls p → Led opening p
led_by opening plan p calls held = (calls, subst (λ (P : Plan). Held (given P opening) calls p) (sym held.plan) held)

pub first_use : (opening : Amounts) (plan : Plan) (p : Parts) → ∥ Held (given plan opening) [] p ∥₁ → ∥ Led opening p ∥₁
first_use opening plan p held = ∥∥₁_map held (led_by opening plan p [])

pub next_use : (opening : Amounts) (p q : Parts) (call : Call) (answer : Answer) → Steps p call answer q → ∥ Led opening p ∥₁ → ∥ Led opening q ∥₁
next_use opening p q call answer steps used = ∥∥₁_map used (λ u. led_by opening p.plan q _ (steps (given p.plan opening) u.0 u.1).held)

pub keeps-promise : (opening : Amounts) (p : Parts) → ∥ Led opening p ∥₁ → ∥ Promised opening p ∥₁
keeps-promise opening p used = ∥∥₁_map used (λ u. (u.0, (u.1, promise-kept (given p.plan opening) u.0 (view (given p.plan opening) p) u.1.performed)))
