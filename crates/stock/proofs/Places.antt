-- Members of a list of numbers and their places: the place of a member is where it stands, and in a list without
-- repetition what stands at a place has that place. By induction over the list.
use Rattle.std.proofs.Common.{◌≡◌, ℕ, zero, suc, ◌<◌, true, false, eqb, List, [], ◌∷◌, length, get_or, sym, refl, ap, ◌∙◌, inl, inr, arith}
use Rattle.std.proofs.lemmas.Bool.{cases_Bool, eqb-true, eq-eqb, ne_eqb, or_right, both_ways}
use Rattle.lists.specs.Words.{member, place, Distinct}

pub member-get_or : (xs : List ℕ) (k : ℕ) → k < length xs → member (get_or xs k 0) xs ≡ true
member-get_or [] k h = absurd (omega arith)
member-get_or (x ∷ xs) zero h = rw (eq-eqb x x refl)
member-get_or (x ∷ xs) (suc k) h = or_right (eqb (get_or xs k 0) x) (member (get_or xs k 0) xs) (member-get_or xs k (omega arith))

pub place-get_or : (xs : List ℕ) (k : ℕ) → Distinct xs → k < length xs → place (get_or xs k 0) xs ≡ k
place-get_or [] k d h = absurd (omega arith)
place-get_or (x ∷ xs) zero d h = rw (eq-eqb x x refl)
place-get_or (x ∷ xs) (suc k) d h =
    let l : k < length xs = omega arith in
    let other : eqb (get_or xs k 0) x ≡ false = ne_eqb (get_or xs k 0) x (λ e. both_ways (member x xs) d.0 (ap (λ y. member y xs) (sym e) ∙ member-get_or xs k l)) in
    rw other (ap suc (place-get_or xs k d.1 l))

pub place-within : (xs : List ℕ) (x : ℕ) → member x xs ≡ true → place x xs < length xs
place-within [] x h = let z : ◌≡◌ {A = ℕ} 0 1 = cc in absurd (omega arith)
place-within (y ∷ xs) x h =
    elim (cases_Bool (eqb x y)) [
      | inl t ↦ rw t (omega arith)
      | inr f ↦ rw f (let rest = place-within xs x (rw f at h) in omega arith)
    ]

pub get_or-place : (xs : List ℕ) (x : ℕ) → member x xs ≡ true → get_or xs (place x xs) 0 ≡ x
get_or-place [] x h = let z : ◌≡◌ {A = ℕ} 0 1 = cc in absurd (omega arith)
get_or-place (y ∷ xs) x h =
    elim (cases_Bool (eqb x y)) [
      | inl t ↦ rw t (sym (eqb-true x y t))
      | inr f ↦ rw f (get_or-place xs x (rw f at h))
    ]
