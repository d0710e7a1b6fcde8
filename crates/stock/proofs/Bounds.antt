-- Amounts within the limit: a list with none above it gives every base such an amount, and so does the list with more after it.
use Rattle.std.specs.Prelude.{◌≡◌, ℕ, zero, suc, ◌<◌, ◌≤◌, false, cond, List, [], ◌∷◌, ◌++◌, length, drop, replicate, Ok, Vec, ◌==◌, nat_lt, slice_index, slice_index_or, refl}
use Rattle.std.proofs.Common.{ap, ◌∙◌, inl, inr, arith}
use Rattle.std.proofs.Math.Path.{fun_ext}
use Rattle.std.specs.Vec.{with_items}
use Rattle.std.specs.declared.alloc.Global.{Global}
use Rattle.std.proofs.lemmas.List.{get_or_append_left, length-append, length-drop, with_items_is}
use Rattle.std.proofs.lemmas.Bool.{ltb-true, ltb-false, eqb-true, lt-ltb, le-ltb, or_parts, cases_Bool, cond_both}
use Rattle.lists.specs.Words.{any, updated}
use Rattle.stock.specs.Stock.{Amounts, Stock, amounts_in, amount_of, over_limit}
use Rattle.stock.specs.Openings.{opening_stock}

pub small-get_or : (xs : List ℕ) (x : ℕ) → any over_limit xs ≡ false → slice_index xs x ≤ 1000000000
small-get_or [] x e = omega arith
small-get_or (v ∷ xs) zero e = ltb-false 1000000000 v (or_parts (over_limit v) (any over_limit xs) e).0
small-get_or (v ∷ xs) (suc x) e = small-get_or xs x (or_parts (over_limit v) (any over_limit xs) e).1

pub small_in : (xs : List ℕ) (x : ℕ) → any over_limit xs ≡ false → amounts_in xs x ≤ 1000000000
small_in xs x e = cond_both (nat_lt x 32) (slice_index xs x) 0 (λ n. n ≤ 1000000000) (λ _. small-get_or xs x e) (λ _. omega arith)

-- a list of 32 gives the bases the same amounts with more after it
pub amounts_in-append : (xs ys : List ℕ) (x : ℕ) → length xs ≡ 32 → amounts_in (xs ++ ys) x ≡ amounts_in xs x
amounts_in-append xs ys x l =
    elim (cases_Bool (nat_lt x 32)) [
      | inl t ↦ let h : x < length xs = omega (arith, ltb-true x 32 t) in ap (λ n. cond (nat_lt x 32) n 0) (get_or_append_left xs ys 0 x h)
      | inr f ↦ rw f
    ]

-- a book that has the opening amounts first in its list holds them
pub opened-holds : (xs ys items : List ℕ) (spare : ℕ) → length xs ≡ 32 → items ≡ xs ++ ys → opening_stock items spare ≡ opening_stock xs spare
opened-holds xs ys items spare l e = ap (λ m. record { amounts = m; spare = spare }) (ap amounts_in e ∙ fun_ext (λ x. amounts_in-append xs ys x l))

-- what a buffer holds once the opening amounts are copied to the front of its whole
pub opened-items : (buffer : Vec ℕ Global) (whole front opening : List ℕ) → whole ≡ buffer.items → front ≡ opening → length opening ≡ 32 → 32 ≤ buffer.len → (with_items buffer (front ++ drop 32 whole)).items ≡ opening ++ drop 32 buffer.items
opened-items buffer whole front opening w f l h =
    let n : length (opening ++ drop 32 buffer.items) ≡ buffer.len = omega (arith, length-append opening (drop 32 buffer.items), length-drop 32 buffer.items, buffer.ok.0) in
    rw (w, f) (with_items_is buffer (opening ++ drop 32 buffer.items) n)

-- an amount that is replaced by one within the limit leaves all within it, and a base's leaves none above 31
pub updated-small : (m : Amounts) (base amount : ℕ) → ((x : ℕ) → m x ≤ 1000000000) → amount ≤ 1000000000 → (x : ℕ) → updated m base amount x ≤ 1000000000
updated-small m base amount small h x = cond_both (x == base) amount (m x) (λ n. n ≤ 1000000000) (λ _. h) (λ _. small x)

pub updated-none_above : (m : Amounts) (base amount : ℕ) → ((x : ℕ) → 31 < x → m x ≡ 0) → base ≤ 31 → (x : ℕ) → 31 < x → updated m base amount x ≡ 0
updated-none_above m base amount none b x h = cond_both (x == base) amount (m x) (λ n. n ≡ 0) (λ e. absurd (omega (arith, eqb-true x base e))) (λ _. none x h)

-- the answer for a base that is one
pub answered : (s : Stock) (base amount : ℕ) → base ≤ 31 → s.amounts base ≡ amount → Ok amount ≡ amount_of s base
answered s base amount h e = rw (le-ltb 31 base h, e)

pub amounts_in_base : (xs : List ℕ) (base : ℕ) → base ≤ 31 → amounts_in xs base ≡ slice_index xs base
amounts_in_base xs base h = rw (lt-ltb base 32 (omega arith))

pub get_or-zeros : (n x : ℕ) → slice_index_or {A = ℕ} (replicate n 0) x 0 ≡ 0
get_or-zeros zero x = refl
get_or-zeros (suc n) zero = refl
get_or-zeros (suc n) (suc x) = get_or-zeros n x

pub amounts_in-zeros : (x : ℕ) → amounts_in (replicate 32 0) x ≡ 0
amounts_in-zeros x = cond_both (nat_lt x 32) (slice_index (replicate 32 0) x) 0 (λ n. n ≡ 0) (λ _. get_or-zeros 32 x) (λ _. refl)
