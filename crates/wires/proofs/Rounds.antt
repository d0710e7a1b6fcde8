-- Going round the rooms: the first room that has any batch left gives the answer.
use Rattle.std.specs.Prelude.{◌≡◌, ℕ, zero, suc, ◌+◌, ◌%◌, ◌<◌, ◌≤◌, List, [], ◌∷◌, ◌++◌, map, Some, None, Option, MatchOption, IsTrue, IfSome, IsSomeAnd, nat_eq}
use Rattle.std.proofs.Math.Path.{refl}
use Rattle.std.proofs.Common.{ap, sym, subst, zero-add, ◌∙◌, inl, inr, arith}
use Rattle.std.proofs.lemmas.Bool.{cases_eq}
use Rattle.std.specs.List.{flat_map}
use Rattle.std.specs.Fn.{Called}
use Rattle.std.specs.Iterator.Runs.{Run, AllItemsGive, IsFirstToGive, CallKeepsClosure, ItemsCountUp}
use Rattle.std.proofs.iter.Yields.{nat_range_steps}
use Rattle.std.proofs.iter.runs.Sources.{range_runs}
use Rattle.std.proofs.lemmas.Iterator.Adapters.{option_map_id}
use denote.Param.Members.{Mut}
use Rattle.lists.specs.Words.{keep, rising}
use Rattle.wire.specs.Wire.{Posted}
use Rattle.wires.specs.Orders.{head, left, left_of, left_round, poster, round}

pub head-none : (xs : List ℕ) → head xs ≡ None → xs ≡ []
head-none [] e = refl
head-none (x ∷ xs) e = let z : ◌≡◌ {A = ℕ} 0 1 = cc in absurd (omega arith)

pub head_first : (xs ys : List ℕ) (b : ℕ) → head xs ≡ Some b → head (xs ++ ys) ≡ Some b
head_first [] ys b e = let z : ◌≡◌ {A = ℕ} 0 1 = cc in absurd (omega arith)
head_first (x ∷ xs) ys b e = e

head-second : (xs ys : List ℕ) → head xs ≡ None → head (xs ++ ys) ≡ head ys
head-second xs ys e = ap (λ (zs : List ℕ). head (zs ++ ys)) (head-none xs e)

-- of lists in a row, none has a first element, or one has that is the first to have any
module _ (F : ℕ → List ℕ) where
  row-none : (a n : ℕ) → ((k : ℕ) → a ≤ k → k < a + n → head (F k) ≡ None) → head (flat_map F (rising a n)) ≡ None
  row-none a zero none = refl
  row-none a (suc n) none = head-second (F a) _ (none a (omega arith) (omega arith)) ∙ row-none (suc a) n (λ k l h. none k (omega arith) (omega arith))

  row-first : (a n i b : ℕ) → a ≤ i → i < a + n → head (F i) ≡ Some b → ((k : ℕ) → a ≤ k → k < i → head (F k) ≡ None) → head (flat_map F (rising a n)) ≡ Some b
  row-first a zero i b l h e none = absurd (omega arith)
  row-first a (suc n) i b l h e none =
      elim (cases_eq a i) [
        | inl same ↦ head_first (F a) _ b (rw same e)
        | inr apart ↦ head-second (F a) _ (none a (omega arith) (omega arith)) ∙ row-first (suc a) n i b (omega arith) (omega arith) e (λ k m g. none k (omega arith) g)
      ]

flat_map-map : (F : ℕ → List ℕ) (g : ℕ → ℕ) (xs : List ℕ) → flat_map F (map g xs) ≡ flat_map (λ k. F (g k)) xs
flat_map-map F g [] = refl
flat_map-map F g (x ∷ xs) = ap (λ ys. F (g x) ++ ys) (flat_map-map F g xs)

-- of the numbers below n, none is given a value, or the first that is given one is given this
abbrev pub FirstGiven : (ℕ → Option ℕ) → ℕ → Option ℕ → Type 0
FirstGiven f n r = MatchOption r ((k : ℕ) → k < n → f k ≡ None) (λ b. (i : ℕ) × (i < n) × (f i ≡ Some b) × ((k : ℕ) → k < i → f k ≡ None))

-- what `find_map` gives along the numbers below n, where its closure gives what f does
pub find_map-given : {C : Type 0} {g : Mut C (ℕ × Unit {0}) (Option ℕ)} (f : ℕ → Option ℕ) (closure : C) (n : ℕ) (r : Option ℕ) (p : Run nat_range_steps) → p.from ≡ record { start = 0; end = n }
    → MatchOption r (IsTrue p.whole × AllItemsGive p g closure None) (λ y. (i : ℕ) × (i < p.len) × (p.len ≡ i + 1) × IsFirstToGive p g closure (Some y) None i)
    → ((x : ℕ) (o : Option ℕ) (q : C) → Called g closure (x, tt) o q → (q ≡ closure) × (o ≡ f x)) → FirstGiven f n r
find_map-given {C} {g} f closure n r p from ran gives = given r ran
  where
    count : ItemsCountUp p 0 n
    count = let e = range_runs p p.seen in rw from at e

    item : (k : ℕ) → k < p.len → p.at k ≡ Some k
    item k h = sym (option_map_id (p.at k)) ∙ count.3 k h ∙ ap Some (zero-add k)

    keeps : CallKeepsClosure g closure
    keeps a o q k = (gives a.0 o q k).0

    -- what is true of the item at a place is true of the place
    at_place : (P : ℕ → Type 0) (k : ℕ) → k < p.len → IfSome (p.at k) P → P k
    at_place P k h e = let o : IfSome (Some k) P = subst (λ (o : Option ℕ). IfSome o P) (item k h) e in o

    some_place : (P : ℕ → Type 0) (k : ℕ) → k < p.len → IsSomeAnd (p.at k) P → P k
    some_place P k h e = let o : IsSomeAnd (Some k) P = subst (λ (o : Option ℕ). IsSomeAnd o P) (item k h) e in o

    given : (r : Option ℕ) → MatchOption r (IsTrue p.whole × AllItemsGive p g closure None) (λ y. (i : ℕ) × (i < p.len) × (p.len ≡ i + 1) × IsFirstToGive p g closure (Some y) None i) → FirstGiven f n r
    given None h = λ k l.
        let long : p.len ≡ n = omega (arith, count.1 h.0) in
        sym (gives k None closure (at_place (λ x. Called g closure (x, tt) None closure) k (omega arith) (h.1 keeps k))).1
    given (Some b) h =
        let each = h.3 keeps in
        let short = count.0 in (
          h.0,
          omega arith,
          sym (gives h.0 (Some b) closure (some_place (λ x. Called g closure (x, tt) (Some b) closure) h.0 h.1 each.0)).1,
          λ k l. sym (gives k None closure (some_place (λ x. Called g closure (x, tt) None closure) k (omega arith) (each.1 k l))).1,
        )

module _ (posts : List Posted) (list : List ℕ) (from : ℕ) where
  pub round-first : (r : Option ℕ) → FirstGiven (λ k. head (left_of posts list ((from + k) % 8))) 8 r → r ≡ head (left_round posts list from)
  unfolding round
  round-first r given = search_row r given ∙ sym (ap head (flat_map-map (left_of posts list) (λ k. (from + k) % 8) (rising 0 8)))
    where
      search_row : (r : Option ℕ) → FirstGiven (λ k. head (left_of posts list ((from + k) % 8))) 8 r → r ≡ head (flat_map (λ k. left_of posts list ((from + k) % 8)) (rising 0 8))
      search_row None given = sym (row-none (λ k. left_of posts list ((from + k) % 8)) 0 8 (λ k l h. given k h))
      search_row (Some b) given = sym (row-first (λ k. left_of posts list ((from + k) % 8)) 0 8 given.0 b (omega arith) given.1 given.2 (λ k l h. given.3 k h))

  -- where nothing is left no room has any
  pub round-none : head (left posts list) ≡ None → head (left_round posts list from) ≡ None
  round-none e = ap head (each (round from))
    where
      each : (rooms : List ℕ) → flat_map (left_of posts list) rooms ≡ []
      each [] = refl
      each (r ∷ rs) = ap (λ (xs : List ℕ). keep (λ b. nat_eq (poster posts b) r) xs ++ flat_map (left_of posts list) rs) (head-none (left posts list) e) ∙ each rs
