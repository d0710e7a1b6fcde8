-- An order by two keys, as a test: by the first, and where the first keys are equal by the second.
use Rattle.std.proofs.Common.{◌≡◌, ℕ, ◌+◌, ◌<◌, ◌≤◌, Bool, true, false, ◌&&◌, ◌||◌, eqb, ltb, ◌⊎◌, arith}

pub not_less : (n : ℕ) → ltb n n ≡ false
not_less n = grind arith

-- the test comes out as a comparison of places does
pub keys_less : (x y s t : ℕ) (u : Bool) → x < y → s < t → ltb x y ≡ (ltb s t || (eqb s t && u))
keys_less x y s t u h k = grind arith

pub keys_more : (x y s t : ℕ) (u : Bool) → y ≤ x → t < s → ltb x y ≡ (ltb s t || (eqb s t && u))
keys_more x y s t u h k = grind arith

pub keys_same : (n x y s t : ℕ) (u : Bool) → s ≡ t → ltb x y ≡ u → ltb (n + x) (n + y) ≡ (ltb s t || (eqb s t && u))
keys_same n x y s t u h k = grind arith

-- what makes it true, and what makes it false
pub by_first : (s t : ℕ) (u : Bool) → s < t → (ltb s t || (eqb s t && u)) ≡ true
by_first s t u h = grind arith

pub by_second : (s t u v : ℕ) → s ≡ t → u < v → (ltb s t || (eqb s t && ltb u v)) ≡ true
by_second s t u v h k = grind arith

pub by_keys : (s t u v : ℕ) → (ltb s t || (eqb s t && ltb u v)) ≡ true → (s < t) ⊎ ((s ≡ t) × (u < v))
by_keys s t u v h = grind arith

pub not-sooner : (s t u v : ℕ) → t ≤ s → v ≤ u → (ltb s t || (eqb s t && ltb u v)) ≡ false
not-sooner s t u v h k = grind arith
