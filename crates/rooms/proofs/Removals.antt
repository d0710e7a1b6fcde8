-- Taking a batch out of a list: the element at a place by closing its gap and leaving the last one off, and a batch by
-- taking out the first of it until none is left.
use Rattle.std.proofs.Common.{◌≡◌, ℕ, zero, suc, ◌+◌, ◌-◌, ◌<◌, ◌≤◌, Bool, true, false, cond, ◌||◌, eqb, List, [], ◌∷◌, length, take, drop, Some, None, Option, refl, ap, ◌∙◌, inl, inr, add-one, arith, MatchOption}
use Rattle.std.proofs.lemmas.Bool.{cases_Bool, and_parts, and_from}
use Rattle.lists.specs.Words.{all, member, place, without}
use Rattle.lists.specs.Gaps.{without_at, closed}
use Rattle.lists.proofs.Gaps.{front-closed}
use Rattle.lists.proofs.Members.{all_append}
use Rattle.rooms.proofs.Loops.{turned}

-- a list with the gap at a place closed, and its last element left off
pub gap_cut : (r : Option ℕ) (old new : List ℕ) (at : ℕ) → at < length old → MatchOption r ((length old ≤ at) × (new ≡ old)) (λ _. (at < length old) × (new ≡ closed at old)) → take (length old - 1) new ≡ without_at at old
gap_cut r old new at h c = ap (take (length old - 1)) (gap_closed r old new at h c) ∙ front-closed old at h
  where
    gap_closed : (r : Option ℕ) (old new : List ℕ) (at : ℕ) → at < length old → MatchOption r ((length old ≤ at) × (new ≡ old)) (λ _. (at < length old) × (new ≡ closed at old)) → new ≡ closed at old
    gap_closed None old new at h c = absurd (omega (arith, h, c.0))
    gap_closed (Some x) old new at h c = c.1

-- what all batches keep, those of a part keep
pub all_drop : (f : ℕ → Bool) (n : ℕ) (l : List ℕ) → all f l ≡ true → all f (drop n l) ≡ true
all_drop f zero l h = h
all_drop f (suc n) [] h = refl
all_drop f (suc n) (x ∷ l) h = all_drop f n l (and_parts (f x) (all f l) h).1

pub all_left : (f : ℕ → Bool) (at : ℕ) (xs : List ℕ) → all f xs ≡ true → all f (without_at at xs) ≡ true
all_left f at xs h = all_append f (take at xs) (drop (at + 1) xs) (front at xs h) (all_drop f (at + 1) xs h)
  where
    front : (n : ℕ) (l : List ℕ) → all f l ≡ true → all f (take n l) ≡ true
    front zero l h = refl
    front (suc n) [] h = refl
    front (suc n) (x ∷ l) h = let z = and_parts (f x) (all f l) h in and_from (f x) (all f (take n l)) z.0 (front n l z.1)

-- the list without a batch is the same once the first of it is out
pub without-first : (b : ℕ) (xs : List ℕ) → place b xs < length xs → without b (without_at (place b xs) xs) ≡ without b xs
without-first b [] h = absurd (omega arith)
without-first b (x ∷ xs) h =
    elim (cases_Bool (eqb b x)) [
      | inl t ↦ rw (t, turned x b ∙ t)
      | inr f ↦
          let k : suc (place b xs) < suc (length xs) = rw f at h in
          let rest = without-first b xs (omega arith) in
          rw (f, add-one, turned x b ∙ f) (ap (λ l. x ∷ l) (rw add-one at rest))
    ]

pub without-none : (b : ℕ) (xs : List ℕ) → member b xs ≡ false → without b xs ≡ xs
without-none b [] h = refl
without-none b (x ∷ xs) h = let rest = without-none b xs in grind arith

-- a list without a batch that it has is shorter
pub length_without : (b : ℕ) (xs : List ℕ) → length (without b xs) + cond (member b xs) 1 0 ≤ length xs
length_without b [] = omega arith
length_without b (x ∷ xs) =
    let rest = length_without b xs in
    elim (cases_Bool (eqb b x)) [
      | inl t ↦ rw (t, turned x b ∙ t) (let less = no_longer b xs in omega arith)
      | inr f ↦ rw (f, turned x b ∙ f) (omega arith)
    ]
  where
    no_longer : (b : ℕ) (xs : List ℕ) → length (without b xs) ≤ length xs
    no_longer b [] = omega arith
    no_longer b (x ∷ xs) = let rest = no_longer b xs in elim (cases_Bool (eqb x b)) [ inl t ↦ rw t (omega arith) | inr f ↦ rw f (omega arith) ]

pub one_at_least : (x y : Bool) → (x || y) ≡ true → 1 ≤ cond x 1 0 + cond y 1 0
one_at_least x y h = grind arith
