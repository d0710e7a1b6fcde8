-- The rule of a run: what a batch does to stock.
use Rattle.std.specs.Prelude.{ℕ, suc, ◌+◌, ◌-◌, cond, List, [], ◌∷◌, Ok, Err, Result, nat_lt}
use Rattle.lists.specs.Words.{updated}
use Rattle.stock.specs.Stock.{Amounts}
use Rattle.batches.specs.declared.outcome.Failed.{Failed}
use Rattle.batches.specs.declared.outcome.Failure.{Failure}
use Rattle.batches.specs.declared.outcome.Failure.TheVariants.{Short as too_little, Over as too_much}
use Rattle.batches.specs.declared.outcome.Outcome.{Outcome}
use Rattle.batches.specs.declared.outcome.Outcome.TheVariants.{Done, Short, Over}
use Rattle.batches.specs.declared.step.Step.{Step}
use Rattle.batches.specs.declared.step.Step.TheVariants.{Add, Draw, Move}
use Rattle.batches.specs.Batches.{Batch}

-- the number of each outcome
abbrev pub outcome_number : Outcome → ℕ
outcome_number Done = 1
outcome_number Short = 2
outcome_number Over = 3

-- what a step comes to: short where it would take more than there is, over where it would pass 1,000,000,000;
-- in one move short comes first
abbrev pub step_outcome : Step → Amounts → Outcome
step_outcome (Add base amount) m = cond (nat_lt 1000000000 (m base + amount)) Over Done
step_outcome (Draw base amount) m = cond (nat_lt (m base) amount) Short Done
step_outcome (Move from to amount) m = cond (nat_lt (m from) amount) Short (cond (nat_lt 1000000000 (m to + amount)) Over Done)

-- the amounts that a step leaves where it is done
abbrev pub step_after : Step → Amounts → Amounts
step_after (Add base amount) m = updated m base (m base + amount)
step_after (Draw base amount) m = updated m base (m base - amount)
step_after (Move from to amount) m = updated (updated m from (m from - amount)) to (m to + amount)

-- what a run gives: its outcome, the failing step's place counted from 1, or 0, and the amounts after it
pub record Ran : Type 0 where
  pub outcome : Outcome
  pub step : ℕ
  pub after : Amounts

-- the step at a place, from 0, came to an outcome: go on where it is done, else the run fails there and no amount changes
abbrev pub go_on : Outcome → ℕ → Amounts → Ran → Ran
go_on Done place start rest = rest
go_on Short place start rest = record { outcome = Short; step = suc place; after = start }
go_on Over place start rest = record { outcome = Over; step = suc place; after = start }

-- the steps from a place on, where the run began at one stock and has come to another
abbrev pub run_from : List Step → ℕ → Amounts → Amounts → Ran
run_from [] place start m = record { outcome = Done; step = 0; after = m }
run_from (t ∷ ts) place start m = go_on (step_outcome t m) place start (run_from ts (suc place) start (step_after t m))

-- a run takes the steps in order
abbrev pub run : Batch → Amounts → Ran
run b m = run_from b.steps 0 m m

-- the outcome where a step fails
abbrev pub failed_outcome : Failure → Outcome
failed_outcome too_little = Short
failed_outcome too_much = Over

-- the run of the rule that the code's answer and the amounts after it stand for
abbrev pub ran : Result Unit Failed → Amounts → Ran
ran (Ok _) m = record { outcome = Done; step = 0; after = m }
ran (Err f) m = record { outcome = failed_outcome f.failure; step = f.step; after = m }
