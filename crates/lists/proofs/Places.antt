-- The place of the first element that passes a test, and of a number: how it moves when a list grows at its end, and
-- what it says about who stands where.
use Rattle.std.proofs.Common.{◌≡◌, ℕ, zero, suc, ◌+◌, ◌<◌, ◌≤◌, Bool, true, false, cond, eqb, ltb, ◌⊎◌, List, [], ◌∷◌, ◌++◌, length, get_or, sym, refl, ap, ◌∙◌, inl, inr, arith}
use Rattle.std.proofs.lemmas.Bool.{cases_Bool, eqb-true}
use Rattle.lists.specs.Words.{member, any, first, place, Distinct}
use Rattle.lists.proofs.Members.{member-head, member-tail, member-get_or}

module _ {X : Type 0} where
  pub first_le : (p : X → Bool) (l : List X) → first p l ≤ length l
  first_le p [] = omega arith
  first_le p (x ∷ xs) = let ih = first_le p xs in grind arith

  pub first_any : (p : X → Bool) (l : List X) → any p l ≡ ltb (first p l) (length l)
  first_any p [] = grind arith
  first_any p (x ∷ xs) = let ih = first_any p xs in grind arith

  pub any-short : (f : X → Bool) (l : List X) → any f l ≡ true → first f l < length l
  any-short f l h = let e = first_any f l in grind arith

  pub short-any : (f : X → Bool) (l : List X) → first f l < length l → any f l ≡ true
  short-any f l h = let e = first_any f l in grind arith

  pub none-long : (f : X → Bool) (l : List X) → any f l ≡ false → first f l ≡ length l
  none-long f l h = let e = first_any f l in let d = first_le f l in grind arith

  pub first-append : (p : X → Bool) (xs ys : List X) → first p (xs ++ ys) ≡ cond (any p xs) (first p xs) (length xs + first p ys)
  first-append p [] ys = grind arith
  first-append p (x ∷ xs) ys = let ih = first-append p xs ys in grind arith

  pub first_passes : (f : X → Bool) (l : List X) (d : X) → first f l < length l → f (get_or l (first f l) d) ≡ true
  first_passes f [] d h = absurd (omega arith)
  first_passes f (x ∷ xs) d h = elim (cases_Bool (f x)) [
    | inl t ↦ rw t t
    | inr e ↦ rw e (first_passes f xs d (let k : suc (first f xs) < suc (length xs) = rw e at h in omega arith))
  ]

  -- with one more at the end: the old place, the new one, or none still
  pub first-push : (f : X → Bool) (l : List X) (q : X) → ((first f l < length l) × (first f (l ++ q ∷ []) ≡ first f l)) ⊎
      (((first f l ≡ length l) × (f q ≡ true) × (first f (l ++ q ∷ []) ≡ length l)) ⊎ ((first f l ≡ length l) × (f q ≡ false) × (first f (l ++ q ∷ []) ≡ suc (length l))))
  first-push f l q =
      let e = first-append f l (q ∷ []) in
      elim (cases_Bool (any f l)) [
        | inl t ↦ inl (any-short f l t, e ∙ rw t)
        | inr n ↦ let b = none-long f l n in elim (cases_Bool (f q)) [
          | inl y ↦ inr (inl (b, y, grind arith))
          | inr y ↦ inr (inr (b, y, grind arith))
        ]
      ]

pub first_least : (f : ℕ → Bool) (x : ℕ) (l : List ℕ) → f x ≡ true → member x l ≡ true → first f l ≤ place x l
first_least f x [] h m = omega arith
first_least f x (y ∷ ys) h m = let ih = first_least f x ys h in grind arith

pub first-min : (f : ℕ → Bool) (l : List ℕ) (c : ℕ) → place c l < first f l → f c ≡ false
first-min f [] c h = absurd (omega arith)
first-min f (x ∷ xs) c h = let ih = first-min f xs c in grind arith

pub first-same : (f g : ℕ → Bool) (l : List ℕ) → ((x : ℕ) → member x l ≡ true → f x ≡ g x) → first f l ≡ first g l
first-same f g [] h = refl
first-same f g (y ∷ ys) h = let ih = first-same f g ys (λ x m. h x (member-tail x y ys m)) in let e = h y (member-head y ys) in grind arith

pub first_mono : (f g : ℕ → Bool) (l : List ℕ) → ((x : ℕ) → f x ≡ true → g x ≡ true) → first g l ≤ first f l
first_mono f g [] h = omega arith
first_mono f g (y ∷ ys) h = let ih = first_mono f g ys h in let e = h y in grind arith

pub member-place : (a : ℕ) (l : List ℕ) → member a l ≡ ltb (place a l) (length l)
member-place a [] = grind arith
member-place a (x ∷ xs) = let ih = member-place a xs in grind arith

pub place_short : (a : ℕ) (l : List ℕ) → member a l ≡ true → place a l < length l
place_short a l h = let e = member-place a l in grind arith

pub place-front : (a : ℕ) (l : List ℕ) (n : ℕ) → member a l ≡ true → place a l < length l + n
place-front a l n h = let e = place_short a l h in omega arith

pub short-member : (a : ℕ) (l : List ℕ) → place a l < length l → member a l ≡ true
short-member a l h = let e = member-place a l in grind arith

pub place_in : (a : ℕ) (xs ys : List ℕ) → member a xs ≡ true → place a (xs ++ ys) ≡ place a xs
place_in a [] ys h = grind arith
place_in a (x ∷ xs) ys h = elim (cases_Bool (eqb a x)) [ inl t ↦ rw t | inr f ↦ let ih = place_in a xs ys (grind arith) in rw f (ap suc ih) ]

pub place_out : (a : ℕ) (xs ys : List ℕ) → member a xs ≡ false → place a (xs ++ ys) ≡ length xs + place a ys
place_out a [] ys h = grind arith
place_out a (x ∷ xs) ys h = let ih = place_out a xs ys (grind arith) in grind arith

pub get_or-place : (a : ℕ) (l : List ℕ) → member a l ≡ true → get_or l (place a l) 0 ≡ a
get_or-place a l m = sym (eqb-true a (get_or l (place a l) 0) (first_passes (eqb a) l 0 (place_short a l m)))

pub place-get_or_le : (l : List ℕ) (i : ℕ) → i < length l → place (get_or l i 0) l ≤ i
place-get_or_le [] i h = absurd (omega arith)
place-get_or_le (x ∷ xs) zero h = grind arith
place-get_or_le (x ∷ xs) (suc i) h = let ih = place-get_or_le xs i (omega arith) in grind arith

pub place-get_or : (l : List ℕ) (i : ℕ) → Distinct l → i < length l → place (get_or l i 0) l ≡ i
place-get_or [] i n h = absurd (omega arith)
place-get_or (x ∷ xs) zero n h = grind arith
place-get_or (x ∷ xs) (suc i) n h = let ih = place-get_or xs i n.1 (omega arith) in let m = member-get_or xs i (omega arith) in let z = n.0 in grind arith

pub place_inj : (a b : ℕ) (l : List ℕ) → member a l ≡ true → place a l ≡ place b l → a ≡ b
place_inj a b [] h e = grind arith
place_inj a b (x ∷ xs) h e = let ih = place_inj a b xs in grind arith
