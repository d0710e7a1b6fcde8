-- What `keep` keeps: it goes through appending and through itself, it depends on the elements of the list alone, and it
-- leaves the kept ones in their order.
use Rattle.std.proofs.Common.{◌≡◌, ℕ, Bool, true, false, not, ◌&&◌, eqb, ltb, List, [], ◌∷◌, ◌++◌, sym, refl, ◌∙◌, arith}
use Rattle.std.proofs.lemmas.Bool.{and_parts, not-true, eqb-false}
use Rattle.lists.specs.Words.{member, keep, place, without}
use Rattle.lists.proofs.Members.{member-head, member-tail}

module _ {X : Type 0} where
  pub keep_append : (p : X → Bool) (xs ys : List X) → keep p (xs ++ ys) ≡ keep p xs ++ keep p ys
  keep_append p [] ys = refl
  keep_append p (x ∷ xs) ys = let ih = keep_append p xs ys in grind arith

  pub keep-keep : (p q : X → Bool) (l : List X) → keep p (keep q l) ≡ keep (λ a. p a && q a) l
  keep-keep p q [] = refl
  keep-keep p q (x ∷ xs) = let ih = keep-keep p q xs in grind arith

pub member-keep : (p : ℕ → Bool) (a : ℕ) (l : List ℕ) → member a (keep p l) ≡ (p a && member a l)
member-keep p a [] = grind arith
member-keep p a (x ∷ xs) = let ih = member-keep p a xs in grind arith

pub keep_same : (p q : ℕ → Bool) (l : List ℕ) → ((a : ℕ) → member a l ≡ true → p a ≡ q a) → keep p l ≡ keep q l
keep_same p q [] h = refl
keep_same p q (x ∷ xs) h = let ih = keep_same p q xs (λ a e. h a (member-tail a x xs e)) in let e : p x ≡ q x = h x (member-head x xs) in grind arith

pub keep-none : (p : ℕ → Bool) (l : List ℕ) → ((a : ℕ) → member a l ≡ true → p a ≡ false) → keep p l ≡ []
keep-none p [] h = refl
keep-none p (x ∷ xs) h = let ih = keep-none p xs (λ a e. h a (member-tail a x xs e)) in let e : p x ≡ false = h x (member-head x xs) in grind arith

pub keep_all : (p : ℕ → Bool) (l : List ℕ) → ((a : ℕ) → member a l ≡ true → p a ≡ true) → keep p l ≡ l
keep_all p [] h = refl
keep_all p (x ∷ xs) h = let ih = keep_all p xs (λ a e. h a (member-tail a x xs e)) in let e : p x ≡ true = h x (member-head x xs) in grind arith

-- the kept ones stand in the order of the list
pub place-keep : (p : ℕ → Bool) (a b : ℕ) (l : List ℕ) → p a ≡ true → p b ≡ true → member a l ≡ true → member b l ≡ true →
    ltb (place a (keep p l)) (place b (keep p l)) ≡ ltb (place a l) (place b l)
place-keep p a b [] ha hb ma mb = refl
place-keep p a b (x ∷ xs) ha hb ma mb = let ih = place-keep p a b xs ha hb in grind arith

pub without_cases : (a b : ℕ) (l : List ℕ) → member a (without b l) ≡ true → (a ≡ b → ⊥) × (member a l ≡ true)
without_cases a b l h =
    let z = and_parts (not (eqb a b)) (member a l) (sym (member-keep (λ x. not (eqb x b)) a l) ∙ h) in
    (eqb-false a b (not-true (eqb a b) z.0), z.1)
