-- What a batch is, the rules that its steps keep, and how it is written.
use Rattle.std.specs.Prelude.{◌≡◌, ℕ, Bool, not, ◌&&◌, ◌||◌, List, [], ◌∷◌, ◌++◌, length, Option, Result, IfOk, ◌==◌, nat_le, nat_lt}
use Rattle.std.specs.Result.{result_err}
use Rattle.lists.specs.Words.{all, member}
use Rattle.lists.specs.Gaps.{without_at}
use Rattle.refusals.specs.Causes.{first_cause}
use Rattle.refusals.specs.declared.refusal.Refusal.{Refusal}
use Rattle.refusals.specs.declared.refusal.Refusal.TheVariants.{SetSize, StepRule, StepCount}
use Rattle.sets.specs.Sets.{bases, sized}
use Rattle.batches.specs.declared.step.Step.{Step}
use Rattle.batches.specs.declared.step.StepNumbers.{StepNumbers}
use Rattle.batches.specs.declared.step.Step.TheVariants.{Add, Draw, Move}

-- a batch: its set of bases, and its steps in order
pub record Batch : Type 0 where
  pub set : ℕ
  pub steps : List Step

-- an amount that a step may have: 1 to 1,000,000 grams
abbrev pub amount_right : ℕ → Bool
amount_right amount = nat_le 1 amount && nat_le amount 1000000

-- the rule of a step of a batch for a set: its bases are in the set, a move's differ, and its amount is right
abbrev pub step_right : ℕ → Step → Bool
step_right set (Add base amount) = member base (bases set) && amount_right amount
step_right set (Draw base amount) = member base (bases set) && amount_right amount
step_right set (Move from to amount) = (member from (bases set) && member to (bases set)) && (not (from == to) && amount_right amount)

-- the bases of a step are bases at all: below 32
abbrev pub step_low : Step → Bool
step_low (Add base amount) = nat_lt base 32
step_low (Draw base amount) = nat_lt base 32
step_low (Move from to amount) = nat_lt from 32 && nat_lt to 32

-- what a sealed batch keeps: one to eight bases, and one to six steps that keep their rule
abbrev pub batch_right : Batch → Bool
batch_right b = sized b.set && ((nat_le 1 (length b.steps) && nat_le (length b.steps) 6) && all (step_right b.set) b.steps)

-- the numbers that a step is written as
abbrev pub written : Step → StepNumbers
written (Add base amount) = record { kind = 1; first = base; second = 0; amount = amount }
written (Draw base amount) = record { kind = 2; first = base; second = 0; amount = amount }
written (Move from to amount) = record { kind = 3; first = from; second = to; amount = amount }

-- numbers that some step is written as: kind 1 or 2 without a second base, or kind 3
abbrev pub reads : StepNumbers → Bool
reads n = ((n.kind == 1 || n.kind == 2) && n.second == 0) || n.kind == 3

-- why numbers are not read: no step is written so
abbrev pub read_cause : StepNumbers → Option Refusal
read_cause n = first_cause ((not (reads n), StepRule) ∷ [])

-- what reading numbers gives: the step that is written as they are, or why there is none
pub record StepRead (n : StepNumbers) (r : Result Step Refusal) : Type 0 where
  pub refused : result_err r ≡ read_cause n
  pub made : IfOk r (λ step. written step ≡ n)

-- why no batch is begun: its set does not have one to eight bases
abbrev pub batch_cause : ℕ → Option Refusal
batch_cause set = first_cause ((not (sized set), SetSize) ∷ [])

-- why a step is not taken: it breaks its rule, or it would be the seventh
abbrev pub step_cause : Batch → Step → Option Refusal
step_cause b step = first_cause ((not (step_right b.set step), StepRule) ∷ (nat_le 6 (length b.steps), StepCount) ∷ [])

-- why no step is struck: there is none at that place
abbrev pub strike_cause : Batch → ℕ → Option Refusal
strike_cause b place = first_cause ((nat_le (length b.steps) place, StepCount) ∷ [])

-- why a batch is not sealed: it has no step
abbrev pub seal_cause : Batch → Option Refusal
seal_cause b = first_cause (((length b.steps == 0), StepCount) ∷ [])

-- a batch with one more step, at the end
abbrev pub with_step : Batch → Step → Batch
with_step b step = record { set = b.set; steps = b.steps ++ step ∷ [] }

-- a batch without the step at a place, the rest in order
abbrev pub without_step : Batch → ℕ → Batch
without_step b place = record { set = b.set; steps = without_at place b.steps }
