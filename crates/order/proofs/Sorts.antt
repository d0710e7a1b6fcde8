-- In which order the walk places: by the serializer's place in the definitive list, and for one serializer by the
-- tentative list of their master. By induction over the definitive list from its end: what is placed already keeps its
-- place and its serializer, and what an entry places comes after all of it.
use Rattle.std.proofs.Common.{◌≡◌, ℕ, ◌<◌, Bool, true, false, not, ◌&&◌, ◌||◌, eqb, ltb, List, [], ◌∷◌, ◌++◌, length, refl, ◌∙◌, inl, inr, le_of_lt, arith}
use Rattle.std.proofs.lemmas.Bool.{cases_Bool}
use Rattle.lists.specs.Words.{member, keep, place}
use Rattle.lists.proofs.Ends.{snoc_ind}
use Rattle.lists.proofs.Keys.{keys_less, keys_more, keys_same}
use Rattle.lists.proofs.Members.{member-append, member-push}
use Rattle.lists.proofs.Keeps.{member-keep, place-keep}
use Rattle.lists.proofs.Places.{first-append, first_any, member-place, place_in, place_out, place-front}
use Rattle.order.specs.Works.{Works}
use Rattle.order.specs.Order.{goes_ahead, group, house_order}
use Rattle.order.specs.Laws.{goes_with, turn}
use Rattle.order.proofs.Walks.{order-push, member-group, member-order}

module _ (w : Works) (T : ℕ → List ℕ) where
  -- within one group the master's tentative list gives the order
  group_sorts : (O : List ℕ) (q a b : ℕ) → member a (group w T O q) ≡ true → member b (group w T O q) ≡ true →
      ltb (place a (group w T O q)) (place b (group w T O q)) ≡ ltb (place a (T (w.master q))) (place b (T (w.master q)))
  group_sorts O q a b h k = elim (cases_Bool (member a K)) [
    | inl ta ↦ let pa = place_in a K (q ∷ []) ta in elim (cases_Bool (member b K)) [
      | inl tb ↦ let pb = place_in b K (q ∷ []) tb in let e = place-keep test a b (T (w.master q)) in grind (arith, ma, mb, ka, kb)
      | inr fb ↦ let pb = place_out b K (q ∷ []) fb in let la = member-place a K in grind (arith, ma, mb, ka, kb)
    ]
    | inr fa ↦ let pa = place_out a K (q ∷ []) fa in elim (cases_Bool (member b K)) [
      | inl tb ↦ let pb = place_in b K (q ∷ []) tb in let lb = member-place b K in grind (arith, ma, mb, ka, kb)
      | inr fb ↦ let pb = place_out b K (q ∷ []) fb in grind (arith, ma, mb, ka, kb)
    ]
  ]
    where
      test : ℕ → Bool
      test x = goes_ahead w T x q && not (member x O)

      K : List ℕ
      K = keep test (T (w.master q))

      ma : member a (K ++ q ∷ []) ≡ (member a K || eqb a q)
      ma = member-push a K q

      mb : member b (K ++ q ∷ []) ≡ (member b K || eqb b q)
      mb = member-push b K q

      ka : member a K ≡ (test a && member a (T (w.master q)))
      ka = member-keep test a (T (w.master q))

      kb : member b K ≡ (test b && member b (T (w.master q)))
      kb = member-keep test b (T (w.master q))

  group-master : (O : List ℕ) (q a : ℕ) → member a (group w T O q) ≡ true → w.master a ≡ w.master q
  group-master O q a h = let e = member-group w T O a q in grind arith

  -- the turn of what is placed stays, and that of what is not placed yet is the new entry's
  turn_in : (D E : List ℕ) (a : ℕ) → member a (house_order w T D) ≡ true → turn w T (D ++ E) a ≡ turn w T D a
  turn_in D E a h = let e = member-order w T D a in let f = first-append (goes_with w T a) D E in grind arith

  turn-new : (D : List ℕ) (q a : ℕ) → member a (house_order w T D) ≡ false → goes_with w T a q ≡ true → turn w T (D ++ q ∷ []) a ≡ length D
  turn-new D q a h k = let e = member-order w T D a in let f = first-append (goes_with w T a) D (q ∷ []) in grind arith

  pub turn_low : (D : List ℕ) (a : ℕ) → member a (house_order w T D) ≡ true → turn w T D a < length D
  turn_low D a h = let e = member-order w T D a in let f = first_any (goes_with w T a) D in grind arith

  new_in : (O : List ℕ) (q a : ℕ) → member a O ≡ false → member a (O ++ group w T O q) ≡ true → member a (group w T O q) ≡ true
  new_in O q a f h = let e = member-append a O (group w T O q) in grind arith

  new_with : (O : List ℕ) (q a : ℕ) → member a (group w T O q) ≡ true → goes_with w T a q ≡ true
  new_with O q a h = let g = member-group w T O a q in grind arith

  abbrev Sorted : List ℕ → Type 0
  Sorted D = (a b : ℕ) → member a (house_order w T D) ≡ true → member b (house_order w T D) ≡ true →
      ltb (place a (house_order w T D)) (place b (house_order w T D)) ≡
      (ltb (turn w T D a) (turn w T D b) || (eqb (turn w T D a) (turn w T D b) && ltb (place a (T (w.master a))) (place b (T (w.master a)))))

  sorted_more : (D : List ℕ) (q : ℕ) → Sorted D → Sorted (D ++ q ∷ [])
  sorted_more D q ih a b h k = elim (cases_Bool (member q O)) [ inl t ↦ passed t | inr f ↦ placed f ]
    where
      O : List ℕ
      O = house_order w T D

      G : List ℕ
      G = group w T (house_order w T D) q

      Goal : List ℕ → Type 0
      Goal L = ltb (place a L) (place b L) ≡ (ltb (turn w T (D ++ q ∷ []) a) (turn w T (D ++ q ∷ []) b) ||
          (eqb (turn w T (D ++ q ∷ []) a) (turn w T (D ++ q ∷ []) b) && ltb (place a (T (w.master a))) (place b (T (w.master a)))))

      passed : member q (house_order w T D) ≡ true → Goal (house_order w T (D ++ q ∷ []))
      passed t =
          let e : house_order w T (D ++ q ∷ []) ≡ house_order w T D = order-push w T D q ∙ rw t in
          let ha : member a (house_order w T D) ≡ true = rw e at h in
          let hb : member b (house_order w T D) ≡ true = rw e at k in
          rw (e, turn_in D (q ∷ []) a ha, turn_in D (q ∷ []) b hb) (ih a b ha hb)

      placed : member q (house_order w T D) ≡ false → Goal (house_order w T (D ++ q ∷ []))
      placed f =
          let O : List ℕ = house_order w T D in
          let e : house_order w T (D ++ q ∷ []) ≡ O ++ G = order-push w T D q ∙ rw f in
          let ha : member a (O ++ G) ≡ true = rw e at h in
          let hb : member b (O ++ G) ≡ true = rw e at k in
          rw e (elim (cases_Bool (member a O)) [
            | inl ta ↦ elim (cases_Bool (member b O)) [
              | inl tb ↦ rw (place_in a O G ta, place_in b O G tb, turn_in D (q ∷ []) a ta, turn_in D (q ∷ []) b tb) (ih a b ta tb)
              | inr fb ↦ rw (place_in a O G ta, place_out b O G fb, turn_in D (q ∷ []) a ta, turn-new D q b fb (new_with O q b (new_in O q b fb hb)))
                  (keys_less _ _ _ _ _ (place-front a O (place b G) ta) (turn_low D a ta))
            ]
            | inr fa ↦ elim (cases_Bool (member b O)) [
              | inl tb ↦ rw (place_out a O G fa, place_in b O G tb, turn_in D (q ∷ []) b tb, turn-new D q a fa (new_with O q a (new_in O q a fa ha)))
                  (keys_more _ _ _ _ _ (le_of_lt (place-front b O (place a G) tb)) (turn_low D b tb))
              | inr fb ↦ let na = new_in O q a fa ha in let nb = new_in O q b fb hb in
                  rw (place_out a O G fa, place_out b O G fb, turn-new D q a fa (new_with O q a na), turn-new D q b fb (new_with O q b nb), group-master O q a na)
                  (keys_same (length O) _ _ (length D) (length D) _ refl (group_sorts O q a b na nb))
            ]
          ])

  pub sorted : (D : List ℕ) → Sorted D
  sorted = snoc_ind Sorted (λ a b h k. grind arith) sorted_more
