use Rattle.std.proofs.Common.{◌≡◌, ◌<◌, Err, refl, rules}
use Rattle.refusals.specs.declared.refusal.Refusal.TheVariants.{OutOfRange}
use Rattle.plan.specs.Plans.{plan_of}
use Rattle.house.proofs.Steps.{outside}
use Rattle.house.proofs.Moves.{pick-steps}
use Rattle.house.proofs.house.House.pick.Goals as goal

pub returns-in_err-place : goal.returns-in_err-place
returns-in_err-place g c =
    let e : c.from_residual.result ≡ Err OutOfRange = search rules in
    record { steps = rw e (outside _ c.args.room _ _ (λ _. refl) c.in_err-place.ensures.cases.1) }

pub returns : goal.returns
returns g c =
    let h = c.args.self.now in
    let k = c.in_ok-place.place in
    let low : k < (plan_of h.plan).rooms = rw c.in_ok-place.ensures.cases.0 c.in_ok-place.ensures.cases.1 in
    record { steps = rw (← c.in_ok-place.ensures.cases.0) (pick-steps g.W.Wire.meaning g.B.Book.holds h k low _ c.index.ensures c.pick.result c.pick.ensures.value) }
