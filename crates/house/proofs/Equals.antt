-- Books that hold the same: two by all their bases, and a list by each of its places. Sound books that hold the same of each base
-- hold the same altogether, since what is no base has nothing.
use Rattle.std.proofs.Common.{◌≡◌, ℕ, zero, suc, ◌+◌, ◌<◌, ◌≤◌, Bool, true, false, ◌&&◌, ◌||◌, slice_get, add-one, eqb, ltb, leb, List, [], ◌∷◌, map, length, get_or, Some, sym, refl, ◌∙◌, inl, inr, arith}
use mathlib.Core.Path.{fun_ext}
use Rattle.std.specs.List.{range_with_len}
use Rattle.std.proofs.lemmas.Bool.{cases_lt, and_parts, eqb-true, le-ltb}
use Rattle.lists.specs.Words.{all, rising}
use Rattle.lists.proofs.Members.{all_at, member-rising}
use Rattle.stock.specs.Stock.{Stock, Sound}
use Rattle.house.specs.Openings.{same_amounts}

-- a test of each number below a bound
module _ (f : ℕ → Bool) (n : ℕ) where
  pub each_below : all f (rising 0 n) ≡ true → (x : ℕ) → x < n → f x ≡ true
  each_below h x low = all_at f (rising 0 n) h x (member-rising x 0 n ∙ there x low)
    where
      there : (x : ℕ) → x < n → (leb 0 x && ltb x (0 + n)) ≡ true
      there x low = grind arith

-- a test of each element of a list, by its place
module _ {X : Type 0} (f : X → Bool) (d : X) where
  pub each_place : (l : List X) → all f l ≡ true → (k : ℕ) → k < length l → f (get_or l k d) ≡ true
  each_place [] h k low = absurd (omega (arith, low))
  each_place (x ∷ l) h zero low = (and_parts (f x) (all f l) h).0
  each_place (x ∷ l) h (suc k) low = each_place l (and_parts (f x) (all f l) h).1 k (omega (arith, low))

pub same_each : (a b : Stock) → same_amounts a b ≡ true → (x : ℕ) → x < 32 → a.amounts x ≡ b.amounts x
unfolding same_amounts
same_each a b h x low = eqb-true (a.amounts x) (b.amounts x) (each_below (λ x. eqb (a.amounts x) (b.amounts x)) 32 h x low)

-- of sound books
pub same_whole : (a b : Stock) → Sound a → Sound b → same_amounts a b ≡ true → a.amounts ≡ b.amounts
same_whole a b s t h = fun_ext (λ x. elim (cases_lt x 32) [ inl low ↦ same_each a b h x low | inr high ↦ s.none_above x (omega (arith, high)) ∙ sym (t.none_above x (omega (arith, high))) ])

-- of what is a base, an answer is the amount
bases_alike : (f : ℕ → Bool) (start n : ℕ) → start + n ≤ 32 → all (λ x. ltb 31 x || f x) (range_with_len start n) ≡ all f (rising start n)
bases_alike f start zero low = refl
bases_alike f start (suc n) low =
    let ih : all (λ x. ltb 31 x || f x) (range_with_len (start + 1) n) ≡ all f (rising (suc start) n) = rw add-one (bases_alike f (suc start) n (omega (arith, low))) in
    let base : ltb 31 start ≡ false = le-ltb 31 start (omega (arith, low)) in
    cc

pub told_alike : (a b : Stock) → all (λ x. ltb 31 x || eqb (a.amounts x) (b.amounts x)) (range_with_len 0 32) ≡ same_amounts a b
unfolding same_amounts
told_alike a b = bases_alike (λ x. eqb (a.amounts x) (b.amounts x)) 0 32 (omega arith)

-- what the first book of a list holds
pub first_held : {B S : Type 0} (holds : B → S) (none : S) (books : List B) (b : B) → Some b ≡ slice_get books 0 → holds b ≡ get_or (map holds books) 0 none
first_held holds none [] b e = let z : ◌≡◌ {A = ℕ} 0 1 = cc in absurd (omega arith)
first_held holds none (x ∷ books) b e = cc
