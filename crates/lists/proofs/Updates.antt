-- A function with one value replaced: the new value there, the old ones elsewhere.
use Rattle.std.proofs.Common.{◌≡◌, ℕ, true, false, eqb, refl, inl, inr}
use Rattle.std.proofs.lemmas.Bool.{cases_eq, eq-eqb, ne_eqb}
use Rattle.lists.specs.Words.{updated}

module _ {X : Type 0} (f : ℕ → X) (k : ℕ) (v : X) where
  pub updated-here : updated f k v k ≡ v
  updated-here = let z : eqb k k ≡ true = eq-eqb k k refl in rw z

  pub updated-there : (n : ℕ) → (n ≡ k → ⊥) → updated f k v n ≡ f n
  updated-there n ne = let z : eqb n k ≡ false = ne_eqb n k ne in rw z

  -- what holds of the new value there and of the old ones elsewhere holds of each
  pub updated_each : (Q : ℕ → X → Type 0) → Q k v → ((n : ℕ) → (n ≡ k → ⊥) → Q n (f n)) → (n : ℕ) → Q n (updated f k v n)
  updated_each Q here there n = elim (cases_eq n k) [
    | inl e ↦ rw (e, updated-here) here
    | inr ne ↦ rw (updated-there n ne) (there n ne)
  ]

  -- a function of the values is replaced there too
  pub updated-map : {Y : Type 0} (h : X → Y) (n : ℕ) → h (updated f k v n) ≡ updated (λ m. h (f m)) k (h v) n
  updated-map h n = elim (cases_eq n k) [
    | inl e ↦ let t : eqb n k ≡ true = eq-eqb n k e in rw t
    | inr ne ↦ let z : eqb n k ≡ false = ne_eqb n k ne in rw z
  ]

  pub updated-same : (g : ℕ → X) (u : X) → ((n : ℕ) → f n ≡ g n) → v ≡ u → (n : ℕ) → updated f k v n ≡ updated g k u n
  updated-same g u h e n = elim (cases_eq n k) [
    | inl m ↦ let t : eqb n k ≡ true = eq-eqb n k m in rw t e
    | inr ne ↦ let z : eqb n k ≡ false = ne_eqb n k ne in rw z (h n)
  ]
