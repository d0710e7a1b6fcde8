-- Which batches go ahead of one that is settled, and which are left: the loops over the lists, one turn at a time, and how
-- many there are on each side.
use Rattle.std.proofs.Common.{◌≡◌, ℕ, ◌+◌, ◌<◌, ◌≤◌, Bool, true, false, cond, not, ◌&&◌, ◌||◌, eqb, ltb, List, [], ◌∷◌, ◌++◌, length, get_or, drop, sym, refl, ap, ◌∙◌, inl, inr, arith}
use Rattle.std.proofs.lemmas.List.{at_drop_more, length-append}
use Rattle.std.proofs.lemmas.Bool.{cases_Bool, eqb-true, and_right, both_ways}
use Rattle.lists.specs.Words.{member, place, before, keep, without}
use Rattle.lists.proofs.Members.{member-push}
use Rattle.lists.proofs.Places.{member-place}
use Rattle.lists.proofs.Keeps.{keep-keep, keep_same, member-keep}
use Rattle.lists.proofs.Befores.{before_self}
use Rattle.order.specs.Works.{Works, lies_within}
use Rattle.rooms.specs.Settles.{goes_ahead, ahead_of}

-- one batch before another, by their places
pub before-found : (l : List ℕ) (a b i j : ℕ) → i ≡ place a l → j ≡ place b l → j < length l → ltb i j ≡ before l a b
before-found l a b i j ea eb h = let m = member-place b l in grind arith

pub before-missing : (l : List ℕ) (a b : ℕ) → member a l ≡ false → false ≡ before l a b
before-missing l a b h = let m = member-place a l in let n = member-place b l in grind arith

-- a turn of a loop that counts what passes a test
pub length-turn : (p : ℕ → Bool) (xs : List ℕ) (i : ℕ) → i < length xs → length (keep p (drop i xs)) ≡ cond (p (get_or xs i 0)) 1 0 + length (keep p (drop (i + 1) xs))
length-turn p xs i h = ap length (at_drop_more (keep p) xs i 0 h) ∙ elim (cases_Bool (p (get_or xs i 0))) [ inl t ↦ rw t (omega arith) | inr f ↦ rw f (omega arith) ]

-- a turn of the loop that takes batches out of a list
pub keep_left : (bs : List ℕ) (i : ℕ) (l : List ℕ) → i < length bs →
    keep (λ a. not (member a (drop (i + 1) bs))) (without (get_or bs i 0) l) ≡ keep (λ a. not (member a (drop i bs))) l
keep_left bs i l h =
    keep-keep (λ a. not (member a (drop (i + 1) bs))) (λ a. not (eqb a (get_or bs i 0))) l
    ∙ keep_same _ (λ a. not (member a (drop i bs))) l (λ a _. let e : member a (drop i bs) ≡ (eqb a (get_or bs i 0) || member a (drop (i + 1) bs)) = at_drop_more (member a) bs i 0 h in rw e (two (eqb a (get_or bs i 0)) (member a (drop (i + 1) bs))))
  where
    two : (x y : Bool) → (not y && not x) ≡ not (x || y)
    two x y = grind arith

-- keeping and leaving out share the list
length_both : (p : ℕ → Bool) (l : List ℕ) → length (keep p l) + length (keep (λ a. not (p a)) l) ≡ length l
length_both p [] = omega arith
length_both p (x ∷ xs) = let ih = length_both p xs in elim (cases_Bool (p x)) [ inl t ↦ rw t (omega arith) | inr f ↦ rw f (omega arith) ]

length_more : (p q : ℕ → Bool) (l : List ℕ) → ((a : ℕ) → p a ≡ true → q a ≡ true) → length (keep p l) ≤ length (keep q l)
length_more p q [] h = omega arith
length_more p q (x ∷ xs) h = let ih = length_more p q xs h in elim (cases_Bool (p x)) [
  | inl t ↦ rw (t, h x t) (omega arith)
  | inr f ↦ elim (cases_Bool (q x)) [ inl u ↦ rw (f, u) (omega arith) | inr u ↦ rw (f, u) (omega arith) ]
]

-- with one more that is there and does not pass the test
length_one_more : (p q : ℕ → Bool) (t : ℕ) (l : List ℕ) → member t l ≡ true → p t ≡ false → q t ≡ true → ((a : ℕ) → p a ≡ true → q a ≡ true) → length (keep p l) + 1 ≤ length (keep q l)
length_one_more p q t [] m f g h = absurd (both_ways false refl m)
length_one_more p q t (x ∷ xs) m f g h = elim (cases_Bool (eqb t x)) [
  | inl e ↦ let ex : t ≡ x = eqb-true t x e in let px : p x ≡ false = rw (← ex) f in let qx : q x ≡ true = rw (← ex) g in let more = length_more p q xs h in rw (px, qx) (omega arith)
  | inr e ↦ let ih = length_one_more p q t xs (rw e at m) f g h in elim (cases_Bool (p x)) [
    | inl u ↦ rw (u, h x u) (omega arith)
    | inr u ↦ elim (cases_Bool (q x)) [ inl v ↦ rw (u, v) (omega arith) | inr v ↦ rw (u, v) (omega arith) ]
  ]
]

module _ (w : Works) (k : ℕ) (waiting : List ℕ) (t : ℕ) where
  -- as one test
  abbrev goes : ℕ → Bool
  goes a = eqb (w.master t) k && goes_ahead w k waiting t a

  ahead_is : ahead_of w k waiting t ≡ keep goes waiting
  ahead_is = hoisted (eqb (w.master t) k) (goes_ahead w k waiting t) waiting
    where
      none : (l : List ℕ) → keep (λ _. false) l ≡ []
      none [] = refl
      none (x ∷ l) = none l

      hoisted : (b : Bool) (p : ℕ → Bool) (l : List ℕ) → cond b (keep p l) [] ≡ keep (λ a. b && p a) l
      hoisted true p l = refl
      hoisted false p l = sym (none l)

  goes_self : goes t ≡ false
  goes_self = and_right (eqb (w.master t) k) _ (and_right (eqb (w.master t) k && lies_within w t t) (before waiting t t) (before_self waiting t))

  -- those that go ahead, the batch, and those that are left are no more than those that waited
  module _ (there : member t waiting ≡ true) where
    pub ahead-few : length (ahead_of w k waiting t) + 1 ≤ length waiting
    ahead-few = let z = length_one_more goes (λ _. true) t waiting there goes_self refl (λ _ _. refl) in rw ahead_is (let e = every waiting in omega (arith, z, ap length e))
      where
        every : (l : List ℕ) → keep (λ _. true) l ≡ l
        every [] = refl
        every (x ∷ l) = ap (λ y. x ∷ y) (every l)

    pub moved-few : length (keep (λ a. not (member a (ahead_of w k waiting t ++ t ∷ []))) waiting) + length (ahead_of w k waiting t ++ t ∷ []) ≤ length waiting
    moved-few =
        let both = length_both (λ a. goes a || eqb a t) waiting in
        let more = length_one_more goes (λ a. goes a || eqb a t) t waiting there goes_self (here (goes t) t) (λ a e. rw e) in
        let same : keep (λ a. not (member a (ahead_of w k waiting t ++ t ∷ []))) waiting ≡ keep (λ a. not (goes a || eqb a t)) waiting =
        keep_same _ _ waiting (λ a m. ap not (member-push a (ahead_of w k waiting t) t ∙ ap (λ b. b || eqb a t) (ap (member a) ahead_is ∙ member-keep goes a waiting ∙ rw m (unit (goes a))))) in
        omega (arith, both, more, ap length same, length-append (ahead_of w k waiting t) (t ∷ []), ap length ahead_is)
      where
        here : (x : Bool) (n : ℕ) → (x || eqb n n) ≡ true
        here x n = grind arith

        unit : (x : Bool) → (x && true) ≡ x
        unit x = grind arith
