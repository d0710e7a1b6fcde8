-- A batch being written: where a step is struck, the steps that stay are right as they were.
use Rattle.std.proofs.Common.{◌≡◌, ℕ, zero, suc, ◌<◌, ◌≤◌, Bool, true, List, [], ◌∷◌, ◌++◌, length, take, drop, Some, None, Option, MatchOption, refl, add-one, arith}
use Rattle.lists.specs.Words.{all}
use Rattle.lists.specs.Gaps.{without_at}
use Rattle.batches.specs.declared.step.Step.{Step}
use Rattle.batches.specs.declared.steps.Steps.{Steps}
use Rattle.batches.specs.Batches.{step_right}
use Rattle.batches.specs.Steps.{taken}

all_left : {X : Type 0} (p : X → Bool) (xs : List X) (at : ℕ) → all p xs ≡ true → all p (take at xs ++ drop (suc at) xs) ≡ true
all_left p [] zero h = refl
all_left p [] (suc at) h = refl
all_left p (x ∷ xs) zero h = grind arith
all_left p (x ∷ xs) (suc at) h = let rest = all_left p xs at in grind arith

pub right_removed : (set place : ℕ) (old new : Steps) (r : Option Step) → all (step_right set) (taken old) ≡ true → MatchOption r ((length (taken old) ≤ place) × (new ≡ old)) (λ _. (place < length (taken old)) × (taken new ≡ without_at place (taken old))) → all (step_right set) (taken new) ≡ true
right_removed set place old new None h k = rw k.1 h
right_removed set place old new (Some t) h k = rw (k.1, add-one) (all_left (step_right set) (taken old) place h)
