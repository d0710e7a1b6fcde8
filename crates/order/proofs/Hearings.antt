-- Hearing one more batch leaves the order of all that keep their serializer: their turns are as before, and within one
-- serializer a tentative list that grows at its end keeps its order.
use Rattle.std.proofs.Common.{◌≡◌, ℕ, Bool, true, false, eqb, ltb, List, [], ◌∷◌, ◌++◌, get_or, sym, refl, ap, ◌∙◌, inl, inr}
use Rattle.std.proofs.lemmas.Bool.{cases_Bool, cases_eq, eqb-true, and_parts}
use Rattle.lists.specs.Words.{member, keep, place, updated, Distinct}
use Rattle.lists.proofs.Keys.{not_less}
use Rattle.lists.proofs.Keeps.{member-keep, place-keep}
use Rattle.lists.proofs.Places.{first_any, first_passes, place_in}
use Rattle.lists.proofs.Distincts.{distinct_keep, distinct_push, same-order}
use Rattle.lists.proofs.Updates.{updated-here, updated-there, updated_each}
use Rattle.order.specs.Works.{Works}
use Rattle.order.specs.Order.{house_order}
use Rattle.order.specs.Laws.{goes_with, turn}
use Rattle.order.proofs.Walks.{with_master, member-order, order-once}
use Rattle.order.proofs.Sorts.{sorted, turn_low}
use Rattle.order.proofs.Serializers.{together}

-- room m hears x
abbrev pub hear : (ℕ → List ℕ) → ℕ → ℕ → ℕ → List ℕ
hear T m x = updated T m (T m ++ x ∷ [])

pub hear-once : (T : ℕ → List ℕ) (m x : ℕ) → ((n : ℕ) → Distinct (T n)) → member x (T m) ≡ false → (n : ℕ) → Distinct (hear T m x n)
hear-once T m x h f = updated_each T m (T m ++ x ∷ []) (λ _ l. Distinct l) (distinct_push (T m) x (h m) f) (λ n _. h n)

hear-place : (T : ℕ → List ℕ) (m x n a : ℕ) → member a (T n) ≡ true → place a (hear T m x n) ≡ place a (T n)
hear-place T m x n a h = elim (cases_eq n m) [
  | inl e ↦ ap (place a) (ap (hear T m x) e ∙ updated-here T m (T m ++ x ∷ [])) ∙ place_in a (T m) (x ∷ []) (rw e at h) ∙ ap (λ k. place a (T k)) (sym e)
  | inr ne ↦ ap (place a) (updated-there T m (T m ++ x ∷ []) n ne)
]

module _ (w : Works) (T : ℕ → List ℕ) (m x : ℕ) (nd : (n : ℕ) → Distinct (T n)) (new : member x (T m) ≡ false) (D : List ℕ) (J : ℕ → Bool)
    (stays : (a : ℕ) → J a ≡ true → turn w (hear T m x) D a ≡ turn w T D a) where
  abbrev T' : ℕ → List ℕ
  T' = hear T m x

  abbrev O : List ℕ
  O = house_order w T D

  abbrev O' : List ℕ
  O' = house_order w (hear T m x) D

  pub same-placed : (a : ℕ) → J a ≡ true → member a O' ≡ member a O
  same-placed a j = rw (member-order w T' D a, member-order w T D a, first_any (goes_with w T' a) D, first_any (goes_with w T a) D, stays a j)

  same_place : (a b : ℕ) → member a O ≡ true → member b O ≡ true → turn w T D a ≡ turn w T D b →
      ltb (place a (T' (w.master a))) (place b (T' (w.master a))) ≡ ltb (place a (T (w.master a))) (place b (T (w.master a)))
  same_place a b ha hb e =
      let q : ℕ = get_or D (turn w T D a) 0 in
      let ra : goes_with w T a q ≡ true = first_passes (goes_with w T a) D 0 (turn_low w T D a ha) in
      let rb : goes_with w T b q ≡ true = rw e (first_passes (goes_with w T b) D 0 (turn_low w T D b hb)) in
      elim (together w T a b q ra rb) [
        | inl s ↦ rw s (not_less (place b (T' (w.master b))) ∙ sym (not_less (place b (T (w.master b)))))
        | inr z ↦ rw (sym (with_master w T a q ra), hear-place T m x (w.master q) a z.0, hear-place T m x (w.master q) b z.1)
      ]

  pub same-sorted : (a b : ℕ) → J a ≡ true → J b ≡ true → member a O ≡ true → member b O ≡ true → ltb (place a O') (place b O') ≡ ltb (place a O) (place b O)
  same-sorted a b ja jb ma mb =
      rw (sorted w T' D a b (same-placed a ja ∙ ma) (same-placed b jb ∙ mb), sorted w T D a b ma mb, stays a ja, stays b jb)
      (elim (cases_Bool (eqb (turn w T D a) (turn w T D b))) [ inl t ↦ rw (same_place a b ma mb (eqb-true _ _ t)) refl | inr f ↦ rw f ])

  pub hearing_keeps : keep J O' ≡ keep J O
  hearing_keeps = same-order _ _ (distinct_keep J _ (order-once w T' (hear-once T m x nd new) D)) (distinct_keep J _ (order-once w T nd D))
      (λ a. rw (member-keep J a O', member-keep J a O) (elim (cases_Bool (J a)) [ inl j ↦ rw (same-placed a j) | inr f ↦ rw f ]))
      (λ a b ha hb. go a b (and_parts _ _ (sym (member-keep J a O') ∙ ha)) (and_parts _ _ (sym (member-keep J b O') ∙ hb)))
    where
      go : (a b : ℕ) → (J a ≡ true) × (member a O' ≡ true) → (J b ≡ true) × (member b O' ≡ true) → ltb (place a (keep J O')) (place b (keep J O')) ≡ ltb (place a (keep J O)) (place b (keep J O))
      go a b u v =
          let ma : member a O ≡ true = sym (same-placed a u.0) ∙ u.1 in
          let mb : member b O ≡ true = sym (same-placed b v.0) ∙ v.1 in
          place-keep J a b O' u.0 v.0 u.1 v.1 ∙ same-sorted a b u.0 v.0 ma mb ∙ sym (place-keep J a b O u.0 v.0 ma mb)
