-- What the walk places: each batch that goes with an entry, once. An entry that was placed early goes with an earlier
-- one, and whatever goes with it goes with that one too; so passing over placed entries loses nothing.
use Rattle.std.proofs.Common.{◌≡◌, ℕ, true, false, cond, not, ◌&&◌, ◌||◌, eqb, List, [], ◌∷◌, ◌++◌, sym, refl, ap, ◌∙◌, inl, inr, append_assoc, append-nil, arith}
use Rattle.std.proofs.lemmas.Bool.{cases_Bool, cases_eq, or_left, or_right, and_parts}
use Rattle.lists.specs.Words.{member, any, keep, Distinct}
use Rattle.lists.proofs.Ends.{snoc_ind}
use Rattle.lists.proofs.Members.{member-append, member-push, any_append, any-member}
use Rattle.lists.proofs.Keeps.{member-keep}
use Rattle.lists.proofs.Befores.{before_members}
use Rattle.lists.proofs.Distincts.{distinct_keep, distinct_append, distinct_push}
use Rattle.sets.proofs.Members.{within_trans, within_base, shares-within}
use Rattle.order.specs.Works.{Works, set_of, has_base, lies_within, share}
use Rattle.order.specs.Order.{goes_ahead, group, walk, house_order}
use Rattle.order.specs.Laws.{goes_with}

module _ (w : Works) (T : ℕ → List ℕ) where
  walk-append : (placed D E : List ℕ) → walk w T placed (D ++ E) ≡ walk w T (walk w T placed D) E
  walk-append placed [] E = refl
  walk-append placed (q ∷ D) E = walk-append (cond (member q placed) placed (placed ++ group w T placed q)) D E

  pub order-push : (D : List ℕ) (q : ℕ) → house_order w T (D ++ q ∷ []) ≡ cond (member q (house_order w T D)) (house_order w T D) (house_order w T D ++ group w T (house_order w T D) q)
  order-push D q = walk-append [] D (q ∷ [])

  ahead_trans : (a b c : ℕ) → goes_ahead w T a b ≡ true → goes_ahead w T b c ≡ true → goes_ahead w T a c ≡ true
  ahead_trans a b c h k = grind (arith, within_trans (set_of w a) (set_of w b) (set_of w c))

  pub with_self : (a : ℕ) → goes_with w T a a ≡ true
  with_self a = grind arith

  pub with_trans : (a b c : ℕ) → goes_with w T a b ≡ true → goes_with w T b c ≡ true → goes_with w T a c ≡ true
  with_trans a b c h k = grind (arith, ahead_trans a b c)

  pub with_ahead : (a q : ℕ) → goes_with w T a q ≡ true → (a ≡ q → ⊥) → goes_ahead w T a q ≡ true
  with_ahead a q h ne = grind arith

  pub with_master : (a q : ℕ) → goes_with w T a q ≡ true → w.master q ≡ w.master a
  with_master a q h = grind arith

  ahead_within : (a q : ℕ) → goes_ahead w T a q ≡ true → lies_within w a q ≡ true
  ahead_within a q h = (and_parts (eqb (w.master a) (w.master q)) (lies_within w a q) (and_parts _ _ h).0).1

  -- the bases of a batch are those of whatever it goes with
  pub with_base : (a q x : ℕ) → goes_with w T a q ≡ true → has_base w a x ≡ true → has_base w q x ≡ true
  with_base a q x h hx = elim (cases_eq a q) [ inl e ↦ rw e at hx | inr ne ↦ within_base (set_of w a) (set_of w q) x (ahead_within a q (with_ahead a q h ne)) hx ]

  pub with_shares : (a q c : ℕ) → goes_with w T a q ≡ true → share w a c ≡ true → share w q c ≡ true
  with_shares a q c h s = elim (cases_eq a q) [ inl e ↦ rw e at s | inr ne ↦ shares-within (set_of w a) (set_of w q) (set_of w c) (ahead_within a q (with_ahead a q h ne)) s ]

  pub with_heard : (a q : ℕ) → goes_with w T a q ≡ true → member q (T (w.master q)) ≡ true → member a (T (w.master q)) ≡ true
  with_heard a q h m = elim (cases_eq a q) [ inl e ↦ rw e m | inr ne ↦ (before_members a q (T (w.master q)) (and_parts _ _ (with_ahead a q h ne)).1).0 ]

  pub any_with : (a b : ℕ) (D : List ℕ) → goes_with w T a b ≡ true → any (goes_with w T b) D ≡ true → any (goes_with w T a) D ≡ true
  any_with a b [] h k = k
  any_with a b (q ∷ D) h k = elim (cases_Bool (goes_with w T b q)) [
    | inl t ↦ or_left _ _ (with_trans a b q h t)
    | inr f ↦ or_right _ _ (any_with a b D h (rw f at k))
  ]

  pub member-group : (placed : List ℕ) (a q : ℕ) → member a (group w T placed q) ≡ ((goes_ahead w T a q && not (member a placed)) || eqb a q)
  member-group placed a q =
      let e = member-push a (keep (λ x. goes_ahead w T x q && not (member x placed)) (T (w.master q))) q in
      let f = member-keep (λ x. goes_ahead w T x q && not (member x placed)) a (T (w.master q)) in
      let g = before_members a q (T (w.master q)) in grind arith

  -- exactly the batches that go with an entry are placed
  pub member-order : (D : List ℕ) (a : ℕ) → member a (house_order w T D) ≡ any (goes_with w T a) D
  member-order = snoc_ind (λ D. (a : ℕ) → member a (house_order w T D) ≡ any (goes_with w T a) D) (λ a. refl)
      (λ D q ih a. rw (order-push D q, any_append (goes_with w T a) D (q ∷ []), ← ih a) (more D q ih a))
    where
      more : (D : List ℕ) (q : ℕ) → ((a : ℕ) → member a (house_order w T D) ≡ any (goes_with w T a) D) → (a : ℕ) →
          member a (cond (member q (house_order w T D)) (house_order w T D) (house_order w T D ++ group w T (house_order w T D) q)) ≡ (member a (house_order w T D) || (goes_with w T a q || false))
      more D q ih a = elim (cases_Bool (member q (house_order w T D))) [
        | inl t ↦ rw t (let e = any_with a q D in let ia = ih a in let iq = ih q in grind arith)
        | inr f ↦ rw f (rw (member-append a (house_order w T D) (group w T (house_order w T D) q), member-group (house_order w T D) a q) (grind arith))
      ]

  -- each entry is placed
  pub entry_placed : (D : List ℕ) (q : ℕ) → member q D ≡ true → member q (house_order w T D) ≡ true
  entry_placed D q h = member-order D q ∙ any-member (goes_with w T q) q D (with_self q) h

  pub order-once : ((m : ℕ) → Distinct (T m)) → (D : List ℕ) → Distinct (house_order w T D)
  order-once nd = snoc_ind (λ D. Distinct (house_order w T D)) tt (λ D q ih. rw (order-push D q) (more D q ih))
    where
      free : (O : List ℕ) (q : ℕ) → Distinct O → member q O ≡ false → Distinct (O ++ group w T O q)
      free O q h f = distinct_append O (group w T O q) h
          (distinct_push (keep (λ a. goes_ahead w T a q && not (member a O)) (T (w.master q))) q (distinct_keep _ _ (nd _)) (let k = member-keep (λ x. goes_ahead w T x q && not (member x O)) q (T (w.master q)) in grind arith))
          (λ a e. rw (member-group O a q) (grind arith))

      more : (D : List ℕ) (q : ℕ) → Distinct (house_order w T D) → Distinct (cond (member q (house_order w T D)) (house_order w T D) (house_order w T D ++ group w T (house_order w T D) q))
      more D q ih = elim (cases_Bool (member q (house_order w T D))) [ inl t ↦ rw t ih | inr f ↦ rw f (free (house_order w T D) q ih f) ]

  -- one more entry only appends, and so do more entries
  pub order_grows : (D : List ℕ) (q : ℕ) → (new : List ℕ) × (house_order w T (D ++ q ∷ []) ≡ house_order w T D ++ new)
  order_grows D q = elim (cases_Bool (member q (house_order w T D))) [
    | inl t ↦ ([], order-push D q ∙ rw t (sym (append-nil (house_order w T D))))
    | inr f ↦ (group w T (house_order w T D) q, order-push D q ∙ rw f)
  ]

  pub order_appends : (D more : List ℕ) → (new : List ℕ) × (house_order w T (D ++ more) ≡ house_order w T D ++ new)
  order_appends D = snoc_ind (λ more. (new : List ℕ) × (house_order w T (D ++ more) ≡ house_order w T D ++ new))
      ([], ap (house_order w T) (append-nil D) ∙ sym (append-nil (house_order w T D)))
      (λ more q ih. let z = order_grows (D ++ more) q in (
        ih.0 ++ z.0,
        ap (house_order w T) (sym (append_assoc D more (q ∷ []))) ∙ z.1 ∙ ap (λ l. l ++ z.0) ih.1 ∙ append_assoc (house_order w T D) ih.0 z.0,
      ))
