use Rattle.std.proofs.Common.{◌≡◌, ◌<◌, Err, refl, ◌∙◌, rules}
use Rattle.refusals.specs.declared.refusal.Refusal.TheVariants.{OutOfRange}
use Rattle.plan.specs.Plans.{plan_of}
use Rattle.house.proofs.Places.{numbered-still, number_is}
use Rattle.house.proofs.Chosen.{told-choice}
use Rattle.house.proofs.Steps.{outside}
use Rattle.house.proofs.Moves.{hear-number, hear-steps, hear-same}
use Rattle.house.proofs.house.House.hear.Goals as goal

pub returns-in_err-place-clause-steps : goal.returns-in_err-place-clause-steps
returns-in_err-place-clause-steps g c =
    let e : c.from_residual.result ≡ Err OutOfRange = search rules in
    rw e (outside _ c.args.room _ _ (λ _. refl) c.in_err-place.ensures.cases.1)

pub invariant_of-self-clause-numbered : goal.invariant_of-self-clause-numbered
invariant_of-self-clause-numbered g c =
    let h = c.args.self.now in
    let k = c.in_ok-place.place in
    let low : k < (plan_of h.plan).rooms = rw c.in_ok-place.ensures.cases.0 c.in_ok-place.ensures.cases.1 in
    numbered-still g.W.Wire.meaning g.B.Book.holds h k low _ c.index_mut.ensures.value _ (hear-number g.W.Wire.meaning g.B.Book.holds h k low _ c.index_mut.ensures.value _ _ c.hear.result c.hear.ensures.cases)

pub returns-clause-steps : goal.returns-clause-steps
returns-clause-steps g c =
    let h = c.args.self.now in
    let k = c.in_ok-place.place in
    let low : k < (plan_of h.plan).rooms = rw c.in_ok-place.ensures.cases.0 c.in_ok-place.ensures.cases.1 in
    rw (← c.in_ok-place.ensures.cases.0) (hear-steps g.W.Wire.meaning g.B.Book.holds h k low _ c.index_mut.ensures.value _ _ c.hear.result c.hear.ensures.cases)

pub returns-clause-choice : goal.returns-clause-choice
returns-clause-choice g c =
    let h = c.args.self.now in
    let k = c.in_ok-place.place in
    let low : k < (plan_of h.plan).rooms = rw c.in_ok-place.ensures.cases.0 c.in_ok-place.ensures.cases.1 in
    told-choice g.W.Wire.chooses _ _ c.args.room _ (number_is g.W.Wire.meaning g.B.Book.holds h k low _ c.index_mut.ensures.value ∙ c.in_ok-place.ensures.cases.0) c.hear.result c.hear.ensures.choice

pub returns-clause-same : goal.returns-clause-same
returns-clause-same g c =
    let h = c.args.self.now in
    let k = c.in_ok-place.place in
    let low : k < (plan_of h.plan).rooms = rw c.in_ok-place.ensures.cases.0 c.in_ok-place.ensures.cases.1 in
    hear-same g.W.Wire.meaning g.B.Book.holds h k low _ c.index_mut.ensures.value _ _ c.hear.result c.hear.ensures.cases _ refl refl refl refl
