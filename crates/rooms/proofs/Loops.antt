-- A batch in a list: what a search of the list finds.
use Rattle.std.proofs.Common.{◌≡◌, ℕ, ◌<◌, false, cond, eqb, ltb, List, [], ◌∷◌, length, Some, None, Option, MatchOption, refl, ap, ◌∙◌, inl, inr, arith}
use Rattle.std.specs.List.{position_or_len}
use Rattle.std.proofs.lemmas.Bool.{cases_Bool, ltb-true}
use Rattle.lists.specs.Words.{any, member, place}
use Rattle.lists.proofs.Places.{member-place}

pub turned : (a b : ℕ) → eqb a b ≡ eqb b a
turned a b = grind arith

pub member-any : (b : ℕ) (l : List ℕ) → any (λ y. eqb y b) l ≡ member b l
member-any b [] = refl
member-any b (x ∷ l) = rw (turned b x, member-any b l)

pub place-position : (b : ℕ) (l : List ℕ) → position_or_len (λ y. eqb y b) l ≡ place b l
place-position b [] = refl
place-position b (x ∷ l) = elim (cases_Bool (eqb x b)) [
  | inl t ↦ rw (turned b x, t)
  | inr f ↦ let ih = place-position b l in rw (turned b x, f) (omega (arith, ih))
]

-- the place that a search for a batch finds
pub place_found : (b : ℕ) (l : List ℕ) (r : Option ℕ) → r ≡ cond (ltb (position_or_len (λ y. eqb y b) l) (length l)) (Some (position_or_len (λ y. eqb y b) l)) None
    → MatchOption r (member b l ≡ false) (λ at. (at ≡ place b l) × (at < length l))
place_found b l r e =
    let p : r ≡ cond (ltb (place b l) (length l)) (Some (place b l)) None = e ∙ ap (λ n. cond (ltb n (length l)) (Some n) None) (place-position b l) in
    rw p (elim (cases_Bool (ltb (place b l) (length l))) [
      | inl t ↦ rw t (refl, ltb-true (place b l) (length l) t)
      | inr f ↦ rw f (member-place b l ∙ f)
    ])
