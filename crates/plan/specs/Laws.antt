-- What the answers of a sealed plan rest on: its lines, and nothing else.
use Rattle.std.specs.Prelude.{◌≡◌, ℕ, ◌<◌, length, Some, None, slice_index_or}
use Rattle.plan.specs.declared.line.PlanLine.{PlanLine}
use Rattle.plan.specs.declared.sealed.SealedPlan.{SealedPlan}
use Rattle.plan.specs.Plan.{Plan, master_in}
use Rattle.plan.specs.Plans.{plan_of}

-- no set stands at two places; the master of each line's set is that line's; a set that stands in no line has none;
-- and every master is one of the rooms
pub record Follows (p : Plan) : Type 0 where
  pub once : (i j : ℕ) (l : PlanLine) → i < length p.lines → j < length p.lines → (slice_index_or p.lines i l).set ≡ (slice_index_or p.lines j l).set → i ≡ j
  pub there : (i : ℕ) (l : PlanLine) → i < length p.lines → master_in p.lines (slice_index_or p.lines i l).set ≡ Some (slice_index_or p.lines i l).master
  pub missing : (set : ℕ) → ((i : ℕ) (l : PlanLine) → i < length p.lines → (slice_index_or p.lines i l).set ≡ set → ⊥) → master_in p.lines set ≡ None
  pub room : (set master : ℕ) → master_in p.lines set ≡ Some master → master < p.rooms

-- what every sealed plan answers follows its lines
abbrev pub AnswersFollowLines : Type 0
AnswersFollowLines = (p : SealedPlan) → Follows (plan_of p)
