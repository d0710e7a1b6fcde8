-- The two tests by masks say what the definitions say by bases: by induction over the bits, from the lowest on.
use Rattle.std.proofs.Common.{◌≡◌, ℕ, zero, suc, ◌+◌, ◌*◌, ◌/◌, ◌%◌, ◌^◌, ◌<◌, min, Bool, cond, not, ◌&&◌, ◌||◌, eqb, sym, ap, ◌∙◌, inl, inr, div-one, arith}
use lib.Bits.{bit_and, and_step}
use Rattle.std.proofs.lemmas.Bool.{cases_Bool}
use Rattle.lists.specs.Words.{any, all, keep, rising}
use Rattle.sets.specs.Sets.{has, bases, within, shares}
use Rattle.sets.proofs.Walks.{half_pow, half_lt}

-- what is left of a mask when the bases below x are done
abbrev from : ℕ → ℕ → ℕ
from x set = set / 2 ^ x

from_lt : (k x set : ℕ) → from x set < 2 ^ suc k → from (suc x) set < 2 ^ k
from_lt k x set h = rw (half_pow set x) at (half_lt k (from x set) h)

step : (x a b : ℕ) → bit_and (from x a) (from x b) ≡ bit_and (from (suc x) a) (from (suc x) b) * 2 + min (from x a % 2) (from x b % 2)
step x a b = and_step (from x a) (from x b) ∙ rw (half_pow a x, half_pow b x)

within-from : (k x a b : ℕ) → from x a < 2 ^ k → eqb (bit_and (from x a) (from x b)) (from x a) ≡ all (has b) (keep (has a) (rising x k))
within-from zero x a b h = let z : from x a ≡ 0 = omega arith in rw z
within-from (suc k) x a b h =
    let rest = within-from k (suc x) a b (from_lt k x a h) in
    low (from x a) (from x b) (from (suc x) a) (bit_and (from (suc x) a) (from (suc x) b)) (bit_and (from x a) (from x b)) (sym (half_pow a x)) (step x a b)
    ∙ elim (cases_Bool (has a x)) [
      | inl t ↦ rw (t, rest)
      | inr f ↦ rw (f, rest)
    ]
  where
    low : (a b half u v : ℕ) → half ≡ a / 2 → v ≡ u * 2 + min (a % 2) (b % 2) → eqb v a ≡ cond (eqb (a % 2) 1) (eqb (b % 2) 1 && eqb u half) (eqb u half)
    low a b half u v e f = grind arith

shares-from : (k x a b : ℕ) → from x a < 2 ^ k → not (eqb (bit_and (from x a) (from x b)) 0) ≡ any (has b) (keep (has a) (rising x k))
shares-from zero x a b h = let z : from x a ≡ 0 = omega arith in rw z
shares-from (suc k) x a b h =
    let rest = shares-from k (suc x) a b (from_lt k x a h) in
    low (from x a) (from x b) (bit_and (from (suc x) a) (from (suc x) b)) (bit_and (from x a) (from x b)) (step x a b)
    ∙ elim (cases_Bool (has a x)) [
      | inl t ↦ rw (t, rest)
      | inr f ↦ rw (f, rest)
    ]
  where
    low : (a b u v : ℕ) → v ≡ u * 2 + min (a % 2) (b % 2) → not (eqb v 0) ≡ cond (eqb (a % 2) 1) (eqb (b % 2) 1 || not (eqb u 0)) (not (eqb u 0))
    low a b u v f = grind arith

from_start : (f : ℕ → ℕ → Bool) (a b : ℕ) → f a b ≡ f (from 0 a) (from 0 b)
from_start f a b = sym (ap (λ n. f n (from 0 b)) (div-one a) ∙ ap (f a) (div-one b))

pub within_mask : (a b : ℕ) → a < 2 ^ 32 → eqb (bit_and a b) a ≡ within a b
unfolding bases
within_mask a b h = from_start (λ m n. eqb (bit_and m n) m) a b ∙ within-from 32 0 a b (omega (arith, div-one a))

pub shares_mask : (a b : ℕ) → a < 2 ^ 32 → not (eqb (bit_and a b) 0) ≡ shares a b
unfolding bases
shares_mask a b h = from_start (λ m n. not (eqb (bit_and m n) 0)) a b ∙ shares-from 32 0 a b (omega (arith, div-one a))
