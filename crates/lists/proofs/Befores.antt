-- Who stands before whom: a strict order on the elements of a list that growing at the end leaves as it was.
use Rattle.std.proofs.Common.{◌≡◌, ℕ, ◌<◌, true, false, ltb, List, [], ◌∷◌, ◌++◌, ◌∙◌, inl, inr, arith}
use Rattle.std.proofs.lemmas.Bool.{cases_Bool}
use Rattle.lists.specs.Words.{member, place, before}
use Rattle.lists.proofs.Members.{member-append, member-push, push_cases}
use Rattle.lists.proofs.Places.{member-place, place_in, place_out, place_inj}

pub before_members : (a b : ℕ) (l : List ℕ) → before l a b ≡ true → (member a l ≡ true) × (member b l ≡ true)
before_members a b l h = let la = member-place a l in let lb = member-place b l in (grind arith, grind arith)

pub before_less : (a b : ℕ) (l : List ℕ) → before l a b ≡ true → place a l < place b l
before_less a b l h = grind arith

pub before_self : (l : List ℕ) (a : ℕ) → before l a a ≡ false
before_self l a = grind arith

pub before_flip : (l : List ℕ) (a b : ℕ) → before l a b ≡ true → before l b a ≡ false
before_flip l a b h = grind arith

pub before_trans : (l : List ℕ) (a b c : ℕ) → before l a b ≡ true → before l b c ≡ true → before l a c ≡ true
before_trans l a b c h k = grind arith

pub before_or : (l : List ℕ) (a b : ℕ) → member a l ≡ true → member b l ≡ true → (a ≡ b → ⊥) → before l a b ≡ false → before l b a ≡ true
before_or l a b ha hb ne h = let z = place_inj a b l ha in grind arith

pub before_places : (l : List ℕ) (a b : ℕ) → member b l ≡ true → before l a b ≡ ltb (place a l) (place b l)
before_places l a b h = grind arith

pub before-append : (a b : ℕ) (xs ys : List ℕ) → member b xs ≡ true → before (xs ++ ys) a b ≡ before xs a b
before-append a b xs ys h =
    let pb = place_in b xs ys h in let mb = member-append b xs ys in let lb = member-place b xs in
    elim (cases_Bool (member a xs)) [
      | inl t ↦ let pa = place_in a xs ys t in grind arith
      | inr f ↦ let pa = place_out a xs ys f in let la = member-place a xs in grind arith
    ]

pub before_last : (a b : ℕ) (xs : List ℕ) → member b xs ≡ false → before (xs ++ b ∷ []) a b ≡ member a xs
before_last a b xs h =
    let pb = place_out b xs (b ∷ []) h in let mb = member-push b xs b in let lb = member-place b xs in let la = member-place a xs in
    elim (cases_Bool (member a xs)) [
      | inl t ↦ let pa = place_in a xs (b ∷ []) t in grind arith
      | inr f ↦ let pa = place_out a xs (b ∷ []) f in grind arith
    ]

pub before_other : (l : List ℕ) (x a q : ℕ) → (q ≡ x → ⊥) → before (l ++ x ∷ []) a q ≡ before l a q
before_other l x a q ne = elim (cases_Bool (member q l)) [
  | inl t ↦ before-append a q l (x ∷ []) t
  | inr f ↦ let m = member-push q l x in grind arith
]

-- with c new at the end: what stood before the old ones, and everything before c
pub before-push : (l : List ℕ) (a b c : ℕ) → member b (l ++ c ∷ []) ≡ true → member c l ≡ false → (member b l ≡ true → before l a b ≡ true) → (b ≡ c → member a l ≡ true) →
    before (l ++ c ∷ []) a b ≡ true
before-push l a b c m n old new = elim (push_cases b l c m) [
  | inl e ↦ rw e (before_last a c l n ∙ new e)
  | inr t ↦ before-append a b l (c ∷ []) t ∙ old t
]
