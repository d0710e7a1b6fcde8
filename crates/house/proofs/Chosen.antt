-- What a wire's rule had a say in, told by the answer of the house's call in place of the result of the wire's.
use Rattle.std.proofs.Common.{◌≡◌, ℕ, Ok, Err, Result, subst}
use Rattle.refusals.specs.declared.refusal.Refusal.{Refusal}
use Rattle.wire.specs.Choices.{Choice, numbering, telling}
use Rattle.agreement.specs.Calls.{number, hear}
use Rattle.house.specs.Choices.{choice_of}
use Rattle.house.specs.Views.{answered, as_batch}

module _ {W : Type 0} (chooses : W → Choice → W → Type 0) (w v : W) where
  pub numbered-choice : (r : Result ℕ Refusal) → chooses w (numbering r) v → chooses w (choice_of number (answered as_batch r)) v
  numbered-choice (Ok b) c = c
  numbered-choice (Err e) c = c

  pub told-choice : (k n : ℕ) → n ≡ k → (r : Result ℕ Refusal) → chooses w (telling n r) v → chooses w (choice_of (hear k) (answered as_batch r)) v
  told-choice k n is (Ok b) c = subst (λ m. chooses w (telling m (Ok b)) v) is c
  told-choice k n is (Err e) c = c
