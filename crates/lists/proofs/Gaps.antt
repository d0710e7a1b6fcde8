-- A list with its gap closed: its front is the list without the element.
use Rattle.std.proofs.Common.{◌≡◌, ℕ, ◌+◌, ◌-◌, ◌<◌, ◌≤◌, true, false, eqb, List, [], ◌∷◌, ◌++◌, length, take, drop, sym, refl, ap, ◌∙◌, inl, inr, append_assoc, add-one, arith, take-take}
use lib.Seq.{take-append-add}
use Rattle.std.proofs.lemmas.List.{take-append-le, drop-take, length-drop, length-take-le, take_all}
use Rattle.std.proofs.lemmas.Bool.{cases_Bool, both_ways, eqb-true, eq-eqb}
use Rattle.lists.specs.Words.{member, place, without, Distinct}
use Rattle.lists.specs.Gaps.{without_at, closed}

module _ {X : Type 0} where
  -- of a list that is filled up to n, the front without the element: closing the gap in the whole list does it
  pub take-closed : (xs : List X) (at n : ℕ) → at < n → n ≤ length xs → take (n - 1) (closed at xs) ≡ without_at at (take n xs)
  take-closed xs at n a h =
      let m : ℕ = n - (at + 1) in
      let f : n ≡ (at + 1) + m = omega arith in
      let la : length (take at xs) ≡ at = length-take-le at xs (omega arith) in
      let lm : m ≤ length (drop (at + 1) xs) = omega (arith, length-drop (at + 1) xs) in
      let e : n - 1 ≡ length (take at xs) + m = omega arith in
      let le : at ≤ n = omega arith in
      ap (λ k. take k (closed at xs)) e
      ∙ ap (take (length (take at xs) + m)) (append_assoc (take at xs) (drop (at + 1) xs) (drop (length xs - 1) xs))
      ∙ take-append-add (take at xs) (drop (at + 1) xs ++ drop (length xs - 1) xs) m
      ∙ ap (λ ys. take at xs ++ ys) (take-append-le m (drop (at + 1) xs) (drop (length xs - 1) xs) lm ∙ sym (drop-take (at + 1) m xs) ∙ ap (λ k. drop (at + 1) (take k xs)) (sym f))
      ∙ ap (λ ys. ys ++ drop (at + 1) (take n xs)) (sym (take-take at n xs le))

-- all but the last element of a list whose gap is closed: the list without the element
pub front-closed : {X : Type 0} (xs : List X) (at : ℕ) → at < length xs → take (length xs - 1) (closed at xs) ≡ without_at at xs
front-closed xs at h =
    let whole : length xs ≤ length xs = omega arith in
    take-closed xs at (length xs) h whole ∙ ap (without_at at) (take_all (length xs) xs whole)

without-missing : (a : ℕ) (xs : List ℕ) → member a xs ≡ false → without a xs ≡ xs
without-missing a [] h = refl
without-missing a (x ∷ xs) h = let rest = without-missing a xs in grind arith

-- in a list that holds nothing twice, taking out what stands at the place of a leaves the list without a
pub without_at-place : (a : ℕ) (xs : List ℕ) → Distinct xs → member a xs ≡ true → without_at (place a xs) xs ≡ without a xs
without_at-place a [] d h = absurd (both_ways false refl h)
without_at-place a (x ∷ xs) d h =
    elim (cases_Bool (eqb a x)) [
      | inl t ↦ let e : a ≡ x = eqb-true a x t in let gone : without a xs ≡ xs = without-missing a xs (rw e d.0) in rw (t, eq-eqb x a (sym e)) (sym gone)
      | inr f ↦ rw (f, turned a x f, add-one) (rw add-one at (ap (λ l. x ∷ l) (without_at-place a xs d.1 (rw f at h))))
    ]
  where
    turned : (a b : ℕ) → eqb a b ≡ false → eqb b a ≡ false
    turned a b h = grind arith
