-- One entry of a table replaced, and a few turns of phrase on tests.
use Rattle.std.proofs.Common.{◌≡◌, ℕ, Bool, true, false, not, ◌&&◌, ◌||◌, eqb, ◌⊎◌, inl, inr, arith}
use Rattle.std.proofs.lemmas.Bool.{both_ways, cases_eq}
use Rattle.agreement.proofs.Pictures.{put}

-- a test that comes out both ways
pub clash : {X : Type 0} (b : Bool) → b ≡ true → b ≡ false → X
clash b t f = absurd (both_ways b f t)

pub put-old : (f : ℕ → ℕ → Bool) (k b n a : ℕ) → f n a ≡ true → put f k b true n a ≡ true
put-old f k b n a h = grind arith

pub put-new : (f : ℕ → ℕ → Bool) (k b : ℕ) → put f k b true k b ≡ true
put-new f k b = grind arith

pub put_cases : (f : ℕ → ℕ → Bool) (k b n a : ℕ) → put f k b true n a ≡ true → ((n ≡ k) × (a ≡ b)) ⊎ (f n a ≡ true)
put_cases f k b n a h = grind arith

pub put_false : (f : ℕ → ℕ → Bool) (k b n a : ℕ) → put f k b true n a ≡ false → f n a ≡ false
put_false f k b n a h = grind arith

pub put_stay : (f : ℕ → ℕ → Bool) (k b n a : ℕ) → f n a ≡ false → (n ≡ k → a ≡ b → ⊥) → put f k b true n a ≡ false
put_stay f k b n a h ne = grind arith

pub put-here : (f : ℕ → ℕ → Bool) (k b a : ℕ) → put f k b true k a ≡ (f k a || eqb a b)
put-here f k b a = grind arith

pub put-there : (f : ℕ → ℕ → Bool) (k b n a : ℕ) → (n ≡ k → ⊥) → put f k b true n a ≡ f n a
put-there f k b n a h = grind arith

pub put_other : (f : ℕ → ℕ → Bool) (k b n a : ℕ) → (n ≡ k → a ≡ b → ⊥) → put f k b true n a ≡ f n a
put_other f k b n a ne = grind arith

pub not-put : (f : ℕ → ℕ → Bool) (k b a : ℕ) → not (put f k b true k a) ≡ (not (eqb a b) && not (f k a))
not-put f k b a = grind arith

-- an entry of a table is the one named, or another
pub entry_cases : (k b n a : ℕ) → ((n ≡ k) × (a ≡ b)) ⊎ (n ≡ k → a ≡ b → ⊥)
entry_cases k b n a = elim (cases_eq n k) [ inl e ↦ elim (cases_eq a b) [ inl f ↦ inl (e, f) | inr f ↦ inr (λ _ z. f z) ] | inr e ↦ inr (λ z _. e z) ]
