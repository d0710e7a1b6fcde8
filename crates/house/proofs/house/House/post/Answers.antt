use Rattle.std.proofs.Common.{◌≡◌, true, false, Err, refl, rules}
use Rattle.refusals.specs.declared.refusal.Refusal.TheVariants.{OutOfRange, SetUnplanned}
use Rattle.plan.specs.Plan.{planned}
use Rattle.plan.specs.Plans.{plan_of}
use Rattle.batches.specs.Sealed.{batch_of}
use Rattle.house.proofs.Steps.{outside, unplanned, post_steps}
use Rattle.house.proofs.house.House.post.Goals as goal

pub returns-in_err-place_of-clause-steps : goal.returns-in_err-place_of-clause-steps
returns-in_err-place_of-clause-steps g c =
    let e : c.from_residual.result ≡ Err OutOfRange = search rules in
    rw e (outside _ c.args.room _ _ (λ _. refl) c.in_err-place_of.ensures.cases.1)

pub returns-in_err-ok_or-clause-steps : goal.returns-in_err-ok_or-clause-steps
returns-in_err-ok_or-clause-steps g c =
    let h = c.args.self.now in
    let e : c.from_residual-in_err-ok_or.result ≡ Err SetUnplanned = search rules in
    let none : planned (plan_of h.plan).lines (batch_of c.args.batch).set ≡ false = search rules in
    rw e (unplanned _ c.args.room c.in_ok-place_of.ensures.cases.1 (batch_of c.args.batch) none)

pub returns-clause-steps : goal.returns-clause-steps
returns-clause-steps g c =
    let h = c.args.self.now in
    let some : planned (plan_of h.plan).lines (batch_of c.args.batch).set ≡ true = search rules in
    post_steps _ c.args.room c.in_ok-place_of.ensures.cases.1 (batch_of c.args.batch) some c.args.batch.right _ c.post.result c.post.ensures.cases
