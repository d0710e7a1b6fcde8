-- Lists of amounts: what zeros give, and one amount replaced.
use Rattle.std.proofs.Common.{◌≡◌, ℕ, zero, suc, Bool, true, false, cond, ltb, List, [], ◌∷◌, get_or, set, replicate, refl}
use mathlib.Core.Path.{fun_ext}
use Rattle.std.proofs.lemmas.Bool.{or_parts, or_from}
use Rattle.lists.specs.Words.{any}
use Rattle.stock.specs.Stock.{Amounts, amounts_in}

nothing : (n x : ℕ) → ◌≡◌ {A = ℕ} (get_or (replicate n 0) x 0) 0
nothing zero x = refl
nothing (suc n) zero = refl
nothing (suc n) (suc x) = nothing n x

-- a list of zeros gives no base any amount
pub amounts-none : ◌≡◌ {A = Amounts} (amounts_in (replicate 32 0)) (λ _. 0)
amounts-none = fun_ext (λ x. both (ltb x 32) (get_or (replicate 32 0) x 0) (nothing 32 x))
  where
    both : (b : Bool) (n : ℕ) → n ≡ 0 → cond b n 0 ≡ 0
    both true n e = e
    both false n e = refl

-- one amount is noted, and it is small
pub small-set : (p : ℕ → Bool) (xs : List ℕ) (i v : ℕ) → any p xs ≡ false → p v ≡ false → any p (set xs i v) ≡ false
small-set p [] i v h e = h
small-set p (x ∷ xs) zero v h e = or_from (p v) (any p xs) e (or_parts (p x) (any p xs) h).1
small-set p (x ∷ xs) (suc i) v h e = or_from (p x) (any p (set xs i v)) (or_parts (p x) (any p xs) h).0 (small-set p xs i v (or_parts (p x) (any p xs) h).1 e)
