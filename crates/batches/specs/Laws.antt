-- The law of written steps; the laws of a run, said without its steps being made one by one; and five worked runs.
use Rattle.std.specs.Prelude.{◌≡◌, ℕ, zero, suc, ◌+◌, ◌<◌, ◌≤◌, true, false, cond, List, [], ◌∷◌, length, take, ◌==◌, ◌≢◌, slice_index_or}
use Rattle.lists.specs.Words.{member}
use Rattle.sets.specs.Sets.{bases}
use Rattle.stock.specs.Stock.{Amounts}
use Rattle.batches.specs.declared.outcome.Outcome.{Outcome}
use Rattle.batches.specs.declared.outcome.Outcome.TheVariants.{Done, Short, Over}
use Rattle.batches.specs.declared.step.Step.{Step}
use Rattle.batches.specs.declared.step.Step.TheVariants.{Add, Draw, Move}
use Rattle.batches.specs.Batches.{Batch, batch_right, written, reads}
use Rattle.batches.specs.Runs.{Ran, step_outcome, run}

-- the numbers that a step is written as can be read
abbrev pub WrittenRead : Type 0
WrittenRead = (t : Step) → reads (written t) ≡ true

-- a run changes no base outside the batch's set
abbrev pub OthersStay : Type 0
OthersStay = (b : Batch) → batch_right b ≡ true → (m : Amounts) (x : ℕ) → member x (bases b.set) ≡ false → (run b m).after x ≡ m x

-- two stocks agree on a set's bases
abbrev pub Alike : ℕ → Amounts → Amounts → Type 0
Alike set m n = (x : ℕ) → member x (bases set) ≡ true → m x ≡ n x

-- two runs come to the same on a set's bases
pub record SameRun (set : ℕ) (r q : Ran) : Type 0 where
  pub outcome : r.outcome ≡ q.outcome
  pub step : r.step ≡ q.step
  pub after : Alike set r.after q.after

-- what a run does on the bases of the batch's set depends on these alone
abbrev pub OwnBasesCount : Type 0
OwnBasesCount = (b : Batch) → batch_right b ≡ true → (m n : Amounts) → Alike b.set m n → SameRun b.set (run b m) (run b n)

-- amounts within the limit stay within it
abbrev pub LimitHolds : Type 0
LimitHolds = (b : Batch) (m : Amounts) → ((x : ℕ) → m x ≤ 1000000000) → (x : ℕ) → (run b m).after x ≤ 1000000000

-- a batch with its first k steps only
abbrev pub front : ℕ → Batch → Batch
front k b = record { set = b.set; steps = take k b.steps }

-- a run fails at the step at place k: the steps before it are done, it is not, and no amount changes
pub record Fails (b : Batch) (m : Amounts) (k : ℕ) : Type 0 where
  pub there : k < length b.steps
  pub done : (run (front k b) m).outcome ≡ Done
  pub outcome : (t : Step) → step_outcome (slice_index_or b.steps k t) (run (front k b) m).after ≡ (run b m).outcome
  pub step : (run b m).step ≡ suc k
  pub after : (run b m).after ≡ m

-- a run is done, and tells no step, or it fails at one of the steps
abbrev pub DoneOrFails : Type 0
DoneOrFails = (b : Batch) (m : Amounts) → ((run b m).outcome ≡ Done → (run b m).step ≡ 0) × (((run b m).outcome ≢ Done) → (k : ℕ) × Fails b m k)

-- the stock of all bases below a number
abbrev pub stock_below : ℕ → Amounts → ℕ
stock_below zero m = 0
stock_below (suc n) m = stock_below n m + m n

-- the stock of all 32 bases
unfoldable pub total : Amounts → ℕ
total m = stock_below 32 m

-- what steps add, and what they draw; a move does neither
abbrev pub added : List Step → ℕ
added [] = 0
added (Add base amount ∷ ts) = amount + added ts
added (Draw base amount ∷ ts) = added ts
added (Move from to amount ∷ ts) = added ts

abbrev pub drawn : List Step → ℕ
drawn [] = 0
drawn (Add base amount ∷ ts) = drawn ts
drawn (Draw base amount ∷ ts) = amount + drawn ts
drawn (Move from to amount ∷ ts) = drawn ts

-- a run that is done changes the total stock by what was added less what was drawn
abbrev pub TotalFollows : Type 0
TotalFollows = (b : Batch) → batch_right b ≡ true → (m : Amounts) → (run b m).outcome ≡ Done → total (run b m).after + drawn b.steps ≡ total m + added b.steps

-- the run of steps for base 0, of which there is so much, and of the others nothing
abbrev pub run_of : List Step → ℕ → Ran
run_of steps held = run (record { set = 1; steps = steps }) (λ x. cond (x == 0) held 0)

-- five worked runs: to an outcome, at a step, leaving so much of base 0
pub record ComesTo (r : Ran) (outcome : Outcome) (step left : ℕ) : Type 0 where
  pub outcome_is : r.outcome ≡ outcome
  pub step_is : r.step ≡ step
  pub left_is : r.after 0 ≡ left

pub record WorkedRuns : Type 0 where
  pub draws_all : ComesTo (run_of (Draw 0 700 ∷ []) 700) Done 0 0
  pub draws_too_much : ComesTo (run_of (Draw 0 701 ∷ []) 700) Short 1 700
  pub draws_twice : ComesTo (run_of (Draw 0 300 ∷ Draw 0 500 ∷ []) 700) Short 2 700
  pub fills_up : ComesTo (run_of (Add 0 1 ∷ []) 999999999) Done 0 1000000000
  pub overflows : ComesTo (run_of (Add 0 2 ∷ []) 999999999) Over 1 999999999
