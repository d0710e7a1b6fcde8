-- The plans of the code, as plans: the lines taken, in their order.
use Rattle.plan.specs.declared.draft.PlanDraft.{PlanDraft}
use Rattle.plan.specs.declared.sealed.SealedPlan.{SealedPlan}
use Rattle.plan.specs.Plan.{Plan}

-- the plan that a sealed one stands for
abbrev pub plan_of : SealedPlan → Plan
plan_of p = record { rooms = p.rooms; lines = p.lines.items }

-- the plan that is written so far
abbrev pub draft_of : PlanDraft → Plan
draft_of d = plan_of d
