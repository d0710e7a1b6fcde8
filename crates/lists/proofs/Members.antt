-- Who stands in a list, and tests on some or on every element: by induction over the list.
use Rattle.std.proofs.Common.{◌≡◌, ℕ, zero, suc, ◌+◌, ◌<◌, Bool, true, false, ◌&&◌, ◌||◌, eqb, ltb, leb, ◌⊎◌, List, [], ◌∷◌, ◌++◌, length, get_or, refl, inl, inr, arith}
use Rattle.std.proofs.lemmas.Bool.{cases_Bool, or_right, or_cases, eqb-true, and_parts, and_from, both_ways}
use Rattle.lists.specs.Words.{member, any, all, rising}

pub member-append : (a : ℕ) (xs ys : List ℕ) → member a (xs ++ ys) ≡ (member a xs || member a ys)
member-append a [] ys = refl
member-append a (x ∷ xs) ys = let ih = member-append a xs ys in grind arith

pub member-push : (a : ℕ) (xs : List ℕ) (y : ℕ) → member a (xs ++ y ∷ []) ≡ (member a xs || eqb a y)
member-push a [] y = grind arith
member-push a (x ∷ xs) y = let ih = member-push a xs y in grind arith

pub push_cases : (a : ℕ) (xs : List ℕ) (y : ℕ) → member a (xs ++ y ∷ []) ≡ true → (a ≡ y) ⊎ (member a xs ≡ true)
push_cases a xs y h = let z = member-push a xs y in grind arith

pub member-old : (a : ℕ) (xs : List ℕ) (y : ℕ) → member a xs ≡ true → member a (xs ++ y ∷ []) ≡ true
member-old a xs y h = let z = member-push a xs y in grind arith

pub member-new : (xs : List ℕ) (y : ℕ) → member y (xs ++ y ∷ []) ≡ true
member-new xs y = let z = member-push y xs y in grind arith

pub member-head : (x : ℕ) (xs : List ℕ) → member x (x ∷ xs) ≡ true
member-head x xs = grind arith

pub member-tail : (a x : ℕ) (xs : List ℕ) → member a xs ≡ true → member a (x ∷ xs) ≡ true
member-tail a x xs h = or_right (eqb a x) (member a xs) h

pub member-get_or : (l : List ℕ) (i : ℕ) → i < length l → member (get_or l i 0) l ≡ true
member-get_or [] i h = absurd (omega arith)
member-get_or (x ∷ xs) zero h = member-head x xs
member-get_or (x ∷ xs) (suc i) h = member-tail (get_or xs i 0) x xs (member-get_or xs i (omega arith))

pub member-rising : (x start count : ℕ) → member x (rising start count) ≡ (leb start x && ltb x (start + count))
member-rising x start zero = grind arith
member-rising x start (suc count) = let ih = member-rising x (suc start) count in grind arith

module _ {X : Type 0} where
  pub any_append : (p : X → Bool) (xs ys : List X) → any p (xs ++ ys) ≡ (any p xs || any p ys)
  any_append p [] ys = refl
  any_append p (x ∷ xs) ys = let ih = any_append p xs ys in grind arith

  pub all_push : (p : X → Bool) (xs : List X) (x : X) → all p xs ≡ true → p x ≡ true → all p (xs ++ x ∷ []) ≡ true
  all_push p [] x h k = and_from _ _ k refl
  all_push p (y ∷ ys) x h k = let z = and_parts (p y) (all p ys) h in and_from _ _ z.0 (all_push p ys x z.1 k)

  pub all_append : (p : X → Bool) (xs ys : List X) → all p xs ≡ true → all p ys ≡ true → all p (xs ++ ys) ≡ true
  all_append p [] ys h k = k
  all_append p (x ∷ xs) ys h k = let z = and_parts (p x) (all p xs) h in and_from _ _ z.0 (all_append p xs ys z.1 k)

  -- what every element passes, an element at any place passes, if the default does
  pub all_get_d : (p : X → Bool) (l : List X) (d : X) → all p l ≡ true → p d ≡ true → (i : ℕ) → p (get_or l i d) ≡ true
  all_get_d p [] d h k i = k
  all_get_d p (x ∷ xs) d h k zero = (and_parts (p x) (all p xs) h).0
  all_get_d p (x ∷ xs) d h k (suc i) = all_get_d p xs d (and_parts (p x) (all p xs) h).1 k i

pub any-member : (f : ℕ → Bool) (x : ℕ) (l : List ℕ) → f x ≡ true → member x l ≡ true → any f l ≡ true
any-member f x [] h m = m
any-member f x (y ∷ ys) h m = let ih = any-member f x ys h in grind arith

pub none_of : (f : ℕ → Bool) (a : ℕ) (l : List ℕ) → any f l ≡ false → member a l ≡ true → f a ≡ false
none_of f a l n m = elim (cases_Bool (f a)) [ inr e ↦ e | inl t ↦ absurd (both_ways (any f l) n (any-member f a l t m)) ]

pub some_of : (f : ℕ → Bool) (l : List ℕ) → any f l ≡ true → (x : ℕ) × (member x l ≡ true) × (f x ≡ true)
some_of f [] h = absurd (both_ways false refl h)
some_of f (y ∷ ys) h = elim (or_cases (f y) (any f ys) h) [
  | inl t ↦ (y, member-head y ys, t)
  | inr t ↦ let z = some_of f ys t in (z.0, member-tail z.0 y ys z.1, z.2)
]

pub some-not : (f : ℕ → Bool) (l : List ℕ) → all f l ≡ false → (x : ℕ) × (member x l ≡ true) × (f x ≡ false)
some-not f [] h = absurd (both_ways true h refl)
some-not f (y ∷ ys) h = elim (cases_Bool (f y)) [
  | inl t ↦ let z = some-not f ys (rw t at h) in (z.0, member-tail z.0 y ys z.1, z.2)
  | inr e ↦ (y, member-head y ys, e)
]

pub any_same : (f g : ℕ → Bool) (l : List ℕ) → ((x : ℕ) → member x l ≡ true → f x ≡ g x) → any f l ≡ any g l
any_same f g [] h = refl
any_same f g (y ∷ ys) h = let ih = any_same f g ys (λ x m. h x (member-tail x y ys m)) in let e = h y (member-head y ys) in grind arith

pub all_at : (f : ℕ → Bool) (l : List ℕ) → all f l ≡ true → (x : ℕ) → member x l ≡ true → f x ≡ true
all_at f [] h x m = absurd (both_ways false refl m)
all_at f (y ∷ ys) h x m =
    let z = and_parts (f y) (all f ys) h in
    elim (cases_Bool (eqb x y)) [ inl t ↦ rw (eqb-true x y t) z.0 | inr e ↦ all_at f ys z.1 x (rw e at m) ]

pub all_from : (f : ℕ → Bool) (l : List ℕ) → ((x : ℕ) → member x l ≡ true → f x ≡ true) → all f l ≡ true
all_from f [] h = refl
all_from f (y ∷ ys) h = and_from (f y) (all f ys) (h y (member-head y ys)) (all_from f ys (λ x m. h x (member-tail x y ys m)))
