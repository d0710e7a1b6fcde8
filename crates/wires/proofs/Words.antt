-- Laws of the words on lists that the wires use.
use Rattle.std.specs.Prelude.{◌≡◌, ℕ, zero, suc, ◌+◌, ◌<◌, ◌≤◌, Bool, true, false, cond, not, ◌&&◌, ◌||◌, List, [], ◌∷◌, length, ◌==◌, nat_lt, refl}
use Rattle.std.proofs.Common.{ap, inl, inr, arith}
use Rattle.std.proofs.Math.Path.{fun_ext}
use Rattle.std.proofs.lemmas.Bool.{cases_Bool, eqb-true, eq-eqb, cases_eq, or_left, or_right, not_from_false}
use Rattle.std.proofs.lemmas.Bool.Decides.{nat_tests}
use Rattle.lists.specs.Words.{keep, member, updated, rising, Distinct}
use Rattle.lists.proofs.Keeps.{keep_all}
use Rattle.lists.proofs.Members.{member-rising}

-- the numbers below n
pub member-below : (b n : ℕ) → member b (rising 0 n) ≡ nat_lt b n
member-below b n = let e = member-rising b 0 n in grind (arith, nat_tests)

-- what holds of a new value in its place and of each old one holds of each value after the update
pub updated_each : {X : Type 0} (P : ℕ → X → Type 0) (f : ℕ → X) (at : ℕ) (value : X) → P at value → ((n : ℕ) → P n (f n)) → (n : ℕ) → P n (updated f at value n)
updated_each P f at value new old n =
    elim (cases_Bool (n == at)) [
      | inl t ↦ rw (t, eqb-true n at t) new
      | inr f ↦ rw f (old n)
    ]

pub length-rising : (a n : ℕ) → length (rising a n) ≡ n
length-rising a zero = refl
length-rising a (suc n) = ap suc (length-rising (suc a) n)

length-keep : (p : ℕ → Bool) (x : ℕ) (xs : List ℕ) → length (keep p (x ∷ xs)) ≡ cond (p x) 1 0 + length (keep p xs)
length-keep p x xs = elim (cases_Bool (p x)) [ inl t ↦ rw t (omega arith) | inr f ↦ rw f (omega arith) ]

-- without a number that lies before all the others nothing changes
none_less : (p : ℕ → Bool) (x a n : ℕ) → x < a → length (keep (λ b. not (b == x) && p b) (rising a n)) ≡ length (keep p (rising a n))
none_less p x a zero h = refl
none_less p x a (suc n) h =
    let e = none_less p x (suc a) n (omega arith) in
    let l = length-keep (λ b. not (b == x) && p b) a (rising (suc a) n) in
    let r = length-keep p a (rising (suc a) n) in
    grind arith

-- without a number that is there and passes the test, one less passes
one_less : (p : ℕ → Bool) (x a n : ℕ) → p x ≡ true → a ≤ x → x < a + n → length (keep (λ b. not (b == x) && p b) (rising a n)) + 1 ≡ length (keep p (rising a n))
one_less p x a zero t l h = absurd (omega arith)
one_less p x a (suc n) t l h =
    let left = length-keep (λ b. not (b == x) && p b) a (rising (suc a) n) in
    let right = length-keep p a (rising (suc a) n) in
    elim (cases_eq a x) [
      | inl same ↦ let e = none_less p x (suc a) n (omega arith) in let f : p a ≡ true = rw same t in grind arith
      | inr apart ↦ let e = one_less p x (suc a) n t (omega arith) (omega arith) in grind arith
    ]

-- what is left and what is there make up the whole
pub left_and_there : (n : ℕ) (xs : List ℕ) → Distinct xs → ((b : ℕ) → member b xs ≡ true → b < n) → length (keep (λ b. not (member b xs)) (rising 0 n)) + length xs ≡ n
left_and_there n [] d few = rw (keep_all (λ b. true) (rising 0 n) (λ b m. refl)) (omega (arith, length-rising 0 n))
left_and_there n (x ∷ xs) d few =
    let rest = left_and_there n xs d.1 (λ b m. few b (or_right (b == x) (member b xs) m)) in
    let small : x < n = few x (or_left (x == x) (member x xs) (eq-eqb x x refl)) in
    let one = one_less (λ b. not (member b xs)) x 0 n (not_from_false (member x xs) d.0) (omega arith) (omega arith) in
    let same : length (keep (λ b. not (b == x || member b xs)) (rising 0 n)) ≡ length (keep (λ b. not (b == x) && not (member b xs)) (rising 0 n)) = ap (λ p. length (keep p (rising 0 n))) (fun_ext (λ b. neither (b == x) (member b xs))) in
    omega arith
  where
    neither : (s t : Bool) → not (s || t) ≡ (not s && not t)
    neither true t = refl
    neither false t = refl
