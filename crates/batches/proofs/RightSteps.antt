-- The steps of a sealed batch are right, and so their bases are below 32.
use Rattle.std.proofs.Common.{◌≡◌, ℕ, true, ltb, List, [], ◌∷◌, refl, arith}
use Rattle.std.proofs.lemmas.Bool.{lt-ltb}
use Rattle.lists.specs.Words.{all, member}
use Rattle.sets.specs.Sets.{bases}
use Rattle.sets.proofs.Bases.{base_below}
use Rattle.batches.specs.declared.step.Step.{Step}
use Rattle.batches.specs.declared.step.Step.TheVariants.{Add, Draw, Move}
use Rattle.batches.specs.Batches.{Batch, step_right, step_low, batch_right}

-- the bases of a right step are below 32, since they are in its set
base_low : (set x : ℕ) → member x (bases set) ≡ true → ltb x 32 ≡ true
base_low set x h = lt-ltb x 32 (base_below set x h)

low_step : (set : ℕ) (t : Step) → step_right set t ≡ true → step_low t ≡ true
low_step set (Add b n) h = let low = base_low set b in grind arith
low_step set (Draw b n) h = let low = base_low set b in grind arith
low_step set (Move b c n) h = let low = base_low set b in let low_too = base_low set c in grind arith

low_steps : (set : ℕ) (ts : List Step) → all (step_right set) ts ≡ true → all step_low ts ≡ true
low_steps set [] h = refl
low_steps set (t ∷ ts) h = let one = low_step set t in let rest = low_steps set ts in grind arith

pub steps-right : (b : Batch) → batch_right b ≡ true → all (step_right b.set) b.steps ≡ true
steps-right b h = grind arith

pub steps_low : (b : Batch) → batch_right b ≡ true → all step_low b.steps ≡ true
steps_low b h = low_steps b.set b.steps (steps-right b h)
