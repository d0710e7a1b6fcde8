-- A set is walked from its lowest base up: the lowest base is the number of trailing zeros, and taking the lowest bit
-- off leaves the set without it. `walk` is that walk by halving; `bases` is shown to be the same list.
use Rattle.std.proofs.Common.{◌≡◌, ℕ, zero, suc, ◌+◌, ◌-◌, ◌*◌, ◌/◌, ◌%◌, ◌^◌, ◌<◌, cond, eqb, ◌⊎◌, List, [], ◌∷◌, length, sym, refl, ap, ◌∙◌, inl, inr, pow-suc, div-one, arith}
use native.Mathlib.Nat.{div-div-eq-div-mul}
use lib.Bits.{bit_and, and_step, and_self}
use lib.Count.{ones, count_trailing_zeros, ones_step}
use Rattle.lists.specs.Words.{keep, rising}
use Rattle.sets.specs.Sets.{has, bases}

-- the bases of the k lowest bits, the lowest of which stands for base x
abbrev walk : ℕ → ℕ → ℕ → List ℕ
walk zero x set = []
walk (suc k) x set = cond (eqb (set % 2) 1) (x ∷ walk k (suc x) (set / 2)) (walk k (suc x) (set / 2))

pub parity : (n : ℕ) → (n % 2 ≡ 0) ⊎ (n % 2 ≡ 1)
parity n = two (n % 2) (omega arith)
  where
    two : (x : ℕ) → x < 2 → (x ≡ 0) ⊎ (x ≡ 1)
    two zero h = inl refl
    two (suc zero) h = inr refl
    two (suc (suc x)) h = absurd (omega arith)

pub half_lt : (k set : ℕ) → set < 2 ^ suc k → set / 2 < 2 ^ k
half_lt k set h = omega (arith, pow-suc 2 k)

pub half_pow : (set x : ℕ) → set / 2 ^ x / 2 ≡ set / 2 ^ suc x
half_pow set x = div-div-eq-div-mul set (2 ^ x) 2 ∙ ap (λ n. set / n) (sym (pow-suc 2 x))

walk_is : (k x set : ℕ) → keep (has set) (rising x k) ≡ walk k x (set / 2 ^ x)
walk_is zero x set = refl
walk_is (suc k) x set =
    let t : List ℕ = walk k (suc x) (set / 2 ^ x / 2) in
    let e : keep (has set) (rising (suc x) k) ≡ t = walk_is k (suc x) set ∙ ap (walk k (suc x)) (sym (half_pow set x)) in
    ap (λ l. cond (has set x) (x ∷ l) l) e

bases-walk : (set : ℕ) → bases set ≡ walk 32 0 set
unfolding bases
bases-walk set = walk_is 32 0 set ∙ ap (walk 32 0) (div-one set)

walk_odd : (k x set : ℕ) → set % 2 ≡ 1 → walk (suc k) x set ≡ x ∷ walk k (suc x) (set / 2)
walk_odd k x set e = rw e

walk_even : (k x set : ℕ) → set % 2 ≡ 0 → walk (suc k) x set ≡ walk k (suc x) (set / 2)
walk_even k x set e = rw e

walk_double : (k x set half : ℕ) → set ≡ half * 2 → walk (suc k) x set ≡ walk k (suc x) half
walk_double k x set half e =
    let z : set % 2 ≡ 0 = omega arith in
    let h : set / 2 ≡ half = omega arith in
    walk_even k x set z ∙ ap (walk k (suc x)) h

trailing_odd : (k set : ℕ) → set % 2 ≡ 1 → count_trailing_zeros (suc k) set ≡ 0
unfolding count_trailing_zeros
trailing_odd k set e = rw e

trailing_even : (k set : ℕ) → set % 2 ≡ 0 → count_trailing_zeros (suc k) set ≡ suc (count_trailing_zeros k (set / 2))
unfolding count_trailing_zeros
trailing_even k set e = rw e

rest_odd : (set : ℕ) → set % 2 ≡ 1 → bit_and set (set - 1) ≡ set / 2 * 2
rest_odd set e =
    let h : (set - 1) / 2 ≡ set / 2 = omega arith in
    let same : bit_and (set / 2) ((set - 1) / 2) ≡ set / 2 = rw h (and_self (set / 2)) in
    omega (arith, and_step set (set - 1), same)

rest_even : (set : ℕ) → 0 < set → set % 2 ≡ 0 → bit_and set (set - 1) ≡ bit_and (set / 2) (set / 2 - 1) * 2
rest_even set p e =
    let h : (set - 1) / 2 ≡ set / 2 - 1 = omega arith in
    let same : bit_and (set / 2) ((set - 1) / 2) ≡ bit_and (set / 2) (set / 2 - 1) = ap (bit_and (set / 2)) h in
    omega (arith, and_step set (set - 1), same)

walk_lowest : (k x set : ℕ) → 0 < set → set < 2 ^ k → walk k x set ≡ (x + count_trailing_zeros k set) ∷ walk k x (bit_and set (set - 1))
walk_lowest zero x set p h = absurd (omega arith)
walk_lowest (suc k) x set p h =
    elim (parity set) [
      | inl e ↦
          let below : walk k (suc x) (set / 2) ≡ (suc x + count_trailing_zeros k (set / 2)) ∷ walk k (suc x) (bit_and (set / 2) (set / 2 - 1)) = walk_lowest k (suc x) (set / 2) (omega arith) (half_lt k set h) in
          let t : suc x + count_trailing_zeros k (set / 2) ≡ x + count_trailing_zeros (suc k) set = omega (arith, trailing_even k set e) in
          walk_even k x set e ∙ below ∙ ap (λ y. y ∷ walk k (suc x) (bit_and (set / 2) (set / 2 - 1))) t
          ∙ ap (λ ys. (x + count_trailing_zeros (suc k) set) ∷ ys) (sym (walk_double k x (bit_and set (set - 1)) (bit_and (set / 2) (set / 2 - 1)) (rest_even set p e)))
      | inr e ↦
          let t : x ≡ x + count_trailing_zeros (suc k) set = omega (arith, trailing_odd k set e) in
          walk_odd k x set e ∙ ap (λ y. y ∷ walk k (suc x) (set / 2)) t
          ∙ ap (λ ys. (x + count_trailing_zeros (suc k) set) ∷ ys) (sym (walk_double k x (bit_and set (set - 1)) (set / 2) (rest_odd set e)))
    ]

-- the lowest base of a set, and the set without it
pub bases_lowest : (set : ℕ) → 0 < set → set < 2 ^ 32 → bases set ≡ count_trailing_zeros 32 set ∷ bases (bit_and set (set - 1))
bases_lowest set p h =
    let z : 0 + count_trailing_zeros 32 set ≡ count_trailing_zeros 32 set = omega arith in
    bases-walk set ∙ walk_lowest 32 0 set p h ∙ ap (λ x. x ∷ walk 32 0 (bit_and set (set - 1))) z
    ∙ ap (λ l. count_trailing_zeros 32 set ∷ l) (sym (bases-walk (bit_and set (set - 1))))

trailing_below : (k set : ℕ) → 0 < set → set < 2 ^ k → count_trailing_zeros k set < k
trailing_below zero set p h = absurd (omega arith)
trailing_below (suc k) set p h =
    elim (parity set) [
      | inl e ↦ omega (arith, trailing_even k set e, trailing_below k (set / 2) (omega arith) (half_lt k set h))
      | inr e ↦ omega (arith, trailing_odd k set e)
    ]

pub lowest_lt : (set : ℕ) → 0 < set → set < 2 ^ 32 → count_trailing_zeros 32 set < 32
lowest_lt set p h = trailing_below 32 set p h

walk_none : (k x : ℕ) → walk k x 0 ≡ []
walk_none zero x = refl
walk_none (suc k) x = walk_none k (suc x)

pub bases-none : bases 0 ≡ []
bases-none = bases-walk 0 ∙ walk_none 32 0

ones_none : ones 0 ≡ 0
unfolding ones
ones_none = refl

walk_ones : (k x set : ℕ) → set < 2 ^ k → length (walk k x set) ≡ ones set
walk_ones zero x set h = let z : set ≡ 0 = omega arith in rw z (sym ones_none)
walk_ones (suc k) x set h =
    elim (parity set) [
      | inl e ↦ omega (arith, ap length (walk_even k x set e), walk_ones k (suc x) (set / 2) (half_lt k set h), ones_step set)
      | inr e ↦ omega (arith, ap length (walk_odd k x set e), walk_ones k (suc x) (set / 2) (half_lt k set h), ones_step set)
    ]

-- a set has as many bases as bits
pub size_ones : (set : ℕ) → set < 2 ^ 32 → length (bases set) ≡ ones set
size_ones set h = ap length (bases-walk set) ∙ walk_ones 32 0 set h
