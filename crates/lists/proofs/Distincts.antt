-- Lists without repetition: kept by `keep` and by appending what is new, no longer than a bound on their elements, and
-- fixed by who stands in them and who stands before whom.
use Rattle.std.proofs.Common.{◌≡◌, ℕ, zero, suc, ◌+◌, ◌<◌, ◌≤◌, Bool, true, false, not, ◌&&◌, eqb, ltb, List, [], ◌∷◌, ◌++◌, length, sym, refl, ap, ◌∙◌, inl, inr, arith}
use Rattle.std.proofs.lemmas.Bool.{cases_Bool, eqb-true, ne_eqb, both_ways}
use Rattle.lists.specs.Words.{member, keep, place, without, rising, Distinct}
use Rattle.lists.proofs.Members.{member-append, member-push, member-head, member-tail, member-rising}
use Rattle.lists.proofs.Keeps.{member-keep, keep_all, without_cases}

pub distinct_keep : (p : ℕ → Bool) (l : List ℕ) → Distinct l → Distinct (keep p l)
distinct_keep p [] h = tt
distinct_keep p (x ∷ xs) h = elim (cases_Bool (p x)) [
  | inl t ↦ rw t (rw (member-keep p x xs) (grind (arith, h.0)), distinct_keep p xs h.1)
  | inr f ↦ rw f (distinct_keep p xs h.1)
]

pub distinct_append : (xs ys : List ℕ) → Distinct xs → Distinct ys → ((a : ℕ) → member a xs ≡ true → member a ys ≡ false) → Distinct (xs ++ ys)
distinct_append [] ys h k d = k
distinct_append (x ∷ xs) ys h k d = (
  let e : member x ys ≡ false = d x (member-head x xs) in let m = member-append x xs ys in let z = h.0 in grind arith,
  distinct_append xs ys h.1 k (λ a e. d a (member-tail a x xs e)),
)

pub distinct_push : (l : List ℕ) (x : ℕ) → Distinct l → member x l ≡ false → Distinct (l ++ x ∷ [])
distinct_push l x d f = distinct_append l (x ∷ []) d (refl, tt) (λ a m. let e : eqb a x ≡ false = ne_eqb a x (λ e. both_ways (member x l) f (rw e at m)) in rw e)

pub distinct_front : (xs : List ℕ) (b : ℕ) → Distinct (xs ++ b ∷ []) → Distinct xs
distinct_front [] b h = tt
distinct_front (x ∷ xs) b h = (let m = member-push x xs b in let z = h.0 in grind arith, distinct_front xs b h.1)

pub distinct_last : (xs : List ℕ) (b : ℕ) → Distinct (xs ++ b ∷ []) → member b xs ≡ false
distinct_last [] b h = refl
distinct_last (x ∷ xs) b h = let ih = distinct_last xs b h.1 in let m = member-push x xs b in let z = h.0 in grind arith

pub distinct_apart : (xs ys : List ℕ) (a : ℕ) → Distinct (xs ++ ys) → member a ys ≡ true → member a xs ≡ false
distinct_apart [] ys a h m = refl
distinct_apart (x ∷ xs) ys a h m = let ih = distinct_apart xs ys a h.1 m in let z = member-append x xs ys in let y = h.0 in grind arith

pub distinct_rising : (start count : ℕ) → Distinct (rising start count)
distinct_rising start zero = tt
distinct_rising start (suc count) = (member-rising start (suc start) count ∙ past start count, distinct_rising (suc start) count)
  where
    past : (s c : ℕ) → (lib.Dec.leb (suc s) s && ltb s (suc s + c)) ≡ false
    past s c = grind arith

-- different numbers below a bound are at most that many
pub distinct_short : (n : ℕ) (l : List ℕ) → Distinct l → ((a : ℕ) → member a l ≡ true → a < n) → length l ≤ n
distinct_short zero [] d h = omega arith
distinct_short zero (x ∷ xs) d h = let z = h x (member-head x xs) in absurd (omega (arith, z))
distinct_short (suc n) l d h =
    let ih = distinct_short n (without n l) (distinct_keep (λ a. not (eqb a n)) l d) (λ a m. let z = without_cases a n l m in let y = h a z.1 in let ne = z.0 in omega (arith, y, ne)) in
    let u = one_less n l d in omega (arith, ih, u)
  where
    one_less : (n : ℕ) (l : List ℕ) → Distinct l → length l ≤ suc (length (without n l))
    one_less n [] d = omega arith
    one_less n (x ∷ xs) d = elim (cases_Bool (eqb x n)) [
      | inl t ↦ rw t (let e : without n xs ≡ xs = keep_all (λ a. not (eqb a n)) xs (λ a m. let y : eqb a n ≡ false = ne_eqb a n (λ q. both_ways (member n xs) (rw (eqb-true x n t) at d.0) (rw q at m)) in rw y) in rw e (omega arith))
      | inr f ↦ rw f (let ih = one_less n xs d.1 in omega (arith, ih))
    ]

-- lists without repetition that hold the same in the same order are equal
abbrev pub SameOrder : List ℕ → List ℕ → Type 0
SameOrder xs ys = (a b : ℕ) → member a xs ≡ true → member b xs ≡ true → ltb (place a xs) (place b xs) ≡ ltb (place a ys) (place b ys)

same_head : (x y : ℕ) (xs ys : List ℕ) → ((a : ℕ) → member a (x ∷ xs) ≡ member a (y ∷ ys)) → SameOrder (x ∷ xs) (y ∷ ys) → x ≡ y
same_head x y xs ys m o = let z = o x y (member-head x xs) (m y ∙ member-head y ys) in let my = m y in let mx = m x in grind arith

same-tail-member : (x a : ℕ) (xs ys : List ℕ) → member x xs ≡ false → member x ys ≡ false → member a (x ∷ xs) ≡ member a (x ∷ ys) → member a xs ≡ member a ys
same-tail-member x a xs ys h k m = grind arith

same-tail-order : (x a b : ℕ) (xs ys : List ℕ) → member x xs ≡ false → member a xs ≡ true → member b xs ≡ true →
    ltb (place a (x ∷ xs)) (place b (x ∷ xs)) ≡ ltb (place a (x ∷ ys)) (place b (x ∷ ys)) → ltb (place a xs) (place b xs) ≡ ltb (place a ys) (place b ys)
same-tail-order x a b xs ys h ma mb o = grind arith

pub same-order : (xs ys : List ℕ) → Distinct xs → Distinct ys → ((a : ℕ) → member a xs ≡ member a ys) → SameOrder xs ys → xs ≡ ys
same-order [] [] h k m o = refl
same-order [] (y ∷ ys) h k m o = let z = m y in let w = member-head y ys in grind arith
same-order (x ∷ xs) [] h k m o = let z = m x in let w = member-head x xs in grind arith
same-order (x ∷ xs) (y ∷ ys) h k m o =
    let e : y ≡ x = sym (same_head x y xs ys m o) in
    let k0 : member x ys ≡ false = rw e at k.0 in
    rw e (ap (λ l. x ∷ l) (same-order xs ys h.1 k.1
    (λ a. same-tail-member x a xs ys h.0 k0 (rw e at (m a)))
    (λ a b ha hb. same-tail-order x a b xs ys h.0 ha hb (rw e at (o a b (member-tail a x xs ha) (member-tail b x xs hb))))))
