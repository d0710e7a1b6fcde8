-- Words on lists. A batch and a base are numbers, so most lists here are lists of numbers.
-- A test is a Bool, so that a law about tests is an equation.
use Rattle.std.specs.Prelude.{◌≡◌, ℕ, zero, suc, Bool, false, cond, not, ◌&&◌, ◌||◌, List, [], ◌∷◌, ◌==◌, nat_eq, nat_lt, filter}
use Rattle.std.specs.List.{list_any, list_all}

module _ {X : Type 0} where
  -- some element passes the test
  abbrev pub any : (X → Bool) → List X → Bool
  any p xs = list_any p xs

  -- every element passes the test
  abbrev pub all : (X → Bool) → List X → Bool
  all p xs = list_all p xs

  -- the elements that pass the test, in their order
  abbrev pub keep : (X → Bool) → List X → List X
  keep p xs = filter p xs

  -- the place, from 0, of the first element that passes the test; the length where none does
  abbrev pub first : (X → Bool) → List X → ℕ
  first p [] = zero
  first p (x ∷ xs) = cond (p x) zero (suc (first p xs))

  -- a function of numbers with one value replaced
  abbrev pub updated : (ℕ → X) → ℕ → X → ℕ → X
  updated f at value n = cond (n == at) value (f n)

-- a stands in the list
abbrev pub member : ℕ → List ℕ → Bool
member a [] = false
member a (x ∷ xs) = a == x || member a xs

-- the place of a, from 0; the length where a is missing
abbrev pub place : ℕ → List ℕ → ℕ
place a xs = first (nat_eq a) xs

-- a stands before b, and b is there
abbrev pub before : List ℕ → ℕ → ℕ → Bool
before xs a b = nat_lt (place a xs) (place b xs) && member b xs

-- the list without a
abbrev pub without : ℕ → List ℕ → List ℕ
without a xs = keep (λ x. not (x == a)) xs

-- no element stands twice
abbrev pub Distinct : List ℕ → Type 0
Distinct [] = Unit {0}
Distinct (x ∷ xs) = (member x xs ≡ false) × Distinct xs

-- the count numbers from a start on, rising
abbrev pub rising : ℕ → ℕ → List ℕ
rising start zero = []
rising start (suc count) = start ∷ rising (suc start) count
