-- The serializer of a placed batch: the entry of the definitive list that it goes with first. It is placed itself, with
-- itself as serializer; and the order of two batches is read off their serializers. That is the law of the walk, and
-- the law leaves one list only.
use Rattle.std.proofs.Common.{◌≡◌, ℕ, ◌<◌, true, eqb, ltb, ◌⊎◌, List, [], ◌∷◌, ◌++◌, get_or, sym, ap, ◌∙◌, inl, inr, arith}
use Rattle.std.proofs.lemmas.Bool.{cases_Bool, eqb-true}
use Rattle.std.proofs.lemmas.List.{get_or_append_left}
use Rattle.lists.specs.Words.{member, any, first, place, before, Distinct}
use Rattle.lists.proofs.Members.{member-get_or}
use Rattle.lists.proofs.Places.{first_passes, first_least, first-append, any-short, place-get_or, place_inj}
use Rattle.lists.proofs.Befores.{before_members, before_places}
use Rattle.lists.proofs.Distincts.{same-order}
use Rattle.order.specs.Works.{Works}
use Rattle.order.specs.Order.{goes_ahead, house_order}
use Rattle.order.specs.Laws.{goes_with, turn, serializer, Ordered}
use Rattle.order.proofs.Walks.{with_self, with_trans, with_ahead, with_master, member-order, entry_placed, order-once}
use Rattle.order.proofs.Sorts.{sorted, turn_low}

ahead-place : (w : Works) (T : ℕ → List ℕ) (a q : ℕ) → goes_ahead w T a q ≡ true → (w.master a ≡ w.master q) × (place a (T (w.master q)) < place q (T (w.master q)))
ahead-place w T a q h = (grind arith, grind arith)

-- two that go with one entry and are not the same stand both in its master's tentative list
pub together : (w : Works) (T : ℕ → List ℕ) (a b q : ℕ) → goes_with w T a q ≡ true → goes_with w T b q ≡ true → (a ≡ b) ⊎ ((member a (T (w.master q)) ≡ true) × (member b (T (w.master q)) ≡ true))
together w T a b q h k = let u = before_members a q (T (w.master q)) in let v = before_members b q (T (w.master q)) in grind arith

-- one more entry leaves the serializers of what is placed
pub serializer-push : (w : Works) (T : ℕ → List ℕ) (D : List ℕ) (q b : ℕ) → member b (house_order w T D) ≡ true → serializer w T (D ++ q ∷ []) b ≡ serializer w T D b
unfolding serializer
serializer-push w T D q b h =
    let a : any (goes_with w T b) D ≡ true = sym (member-order w T D b) ∙ h in
    let e : first (goes_with w T b) (D ++ q ∷ []) ≡ first (goes_with w T b) D = first-append (goes_with w T b) D (q ∷ []) ∙ rw a in
    rw e (get_or_append_left D (q ∷ []) 0 (first (goes_with w T b) D) (any-short (goes_with w T b) D a))

module _ (w : Works) (T : ℕ → List ℕ) (D : List ℕ) (once : Distinct D) where
  abbrev O : List ℕ
  O = house_order w T D

  abbrev ser : ℕ → ℕ
  ser a = serializer w T D a

  -- an earlier batch has an earlier turn, or the same and an earlier place in the tentative list
  pub before_turns : (a b : ℕ) → before O a b ≡ true → (turn w T D a < turn w T D b) ⊎ ((turn w T D a ≡ turn w T D b) × (place a (T (w.master a)) < place b (T (w.master a))))
  before_turns a b h = let m = before_members a b O h in let e = sorted w T D a b m.0 m.1 in grind arith

  pub turns_before : (a b : ℕ) → member a O ≡ true → member b O ≡ true →
      (turn w T D a < turn w T D b) ⊎ ((turn w T D a ≡ turn w T D b) × (place a (T (w.master a)) < place b (T (w.master a)))) → before O a b ≡ true
  turns_before a b ha hb k = let e = sorted w T D a b ha hb in grind arith

  pub serializer_with : (a : ℕ) → member a O ≡ true → goes_with w T a (ser a) ≡ true
  unfolding serializer
  serializer_with a h = first_passes (goes_with w T a) D 0 (turn_low w T D a h)

  pub serializer_entry : (a : ℕ) → member a O ≡ true → member (ser a) D ≡ true
  unfolding serializer
  serializer_entry a h = member-get_or D (turn w T D a) (turn_low w T D a h)

  pub serializer-place : (a : ℕ) → member a O ≡ true → place (ser a) D ≡ turn w T D a
  unfolding serializer
  serializer-place a h = place-get_or D (turn w T D a) once (turn_low w T D a h)

  pub serializer-master : (a : ℕ) → member a O ≡ true → w.master (ser a) ≡ w.master a
  serializer-master a h = with_master w T a (ser a) (serializer_with a h)

  pub serializer-placed : (a : ℕ) → member a O ≡ true → member (ser a) O ≡ true
  serializer-placed a h = entry_placed w T D (ser a) (serializer_entry a h)

  same_turn : (a : ℕ) → member a O ≡ true → turn w T D (ser a) ≡ turn w T D a
  same_turn a h =
      let q : ℕ = ser a in
      let hq = serializer-placed a h in
      let g : ℕ = ser q in
      let down = first_least (goes_with w T q) q D (with_self w T q) (serializer_entry a h) in
      let at = serializer-place a h in
      let up = first_least (goes_with w T a) g D (with_trans w T a q g (serializer_with a h) (serializer_with q hq)) (serializer_entry q hq) in
      let atg = serializer-place q hq in
      omega arith

  -- a batch that is not its own serializer stands before it
  pub serializer-after : (a : ℕ) (h : member a O ≡ true) → (a ≡ ser a → ⊥) → before O a (ser a) ≡ true
  serializer-after a h ne =
      let c = ahead-place w T a (ser a) (with_ahead w T a (ser a) (serializer_with a h) ne) in
      turns_before a (ser a) h (serializer-placed a h) (inr (sym (same_turn a h), rw c.0 c.1))

  -- by turns and by serializers is the same
  earlier : (a b : ℕ) → member a O ≡ true → member b O ≡ true → before D (ser a) (ser b) ≡ ltb (turn w T D a) (turn w T D b)
  earlier a b ha hb = before_places D (ser a) (ser b) (serializer_entry b hb) ∙ rw (serializer-place a ha, serializer-place b hb)

  same : (a b : ℕ) → member a O ≡ true → member b O ≡ true → eqb (ser a) (ser b) ≡ eqb (turn w T D a) (turn w T D b)
  same a b ha hb =
      let i = place_inj (ser a) (ser b) D (serializer_entry a ha) in
      let pa = serializer-place a ha in
      let pb = serializer-place b hb in
      numbers (ser a) (ser b) (place (ser a) D) (place (ser b) D) (turn w T D a) (turn w T D b) i (ap (λ v. place v D)) pa pb
    where
      numbers : (a b p q s t : ℕ) → (p ≡ q → a ≡ b) → (a ≡ b → p ≡ q) → p ≡ s → q ≡ t → eqb a b ≡ eqb s t
      numbers a b p q s t i j e f = grind arith

  -- of two with one serializer, both stand in its master's list or they are one
  heard-order : (a b : ℕ) → member a O ≡ true → member b O ≡ true → turn w T D a ≡ turn w T D b → before (T (w.master a)) a b ≡ ltb (place a (T (w.master a))) (place b (T (w.master a)))
  unfolding serializer
  heard-order a b ha hb e =
      let ra = serializer_with a ha in
      let rb : goes_with w T b (serializer w T D a) ≡ true = ap (λ i. goes_with w T b (get_or D i 0)) e ∙ serializer_with b hb in
      elim (together w T a b (ser a) ra rb) [
        | inl s ↦ rw s (not_less b (T (w.master b)))
        | inr m ↦ before_places (T (w.master a)) a b (rw (serializer-master a ha) at m.1)
      ]
    where
      not_less : (b : ℕ) (l : List ℕ) → before l b b ≡ ltb (place b l) (place b l)
      not_less b l = grind arith

  pub keeps_law : ((m : ℕ) → Distinct (T m)) → Ordered w T D O
  keeps_law nd = record {
    once = order-once w T nd D;
    placed = member-order w T D;
    sorted = λ a b ha hb.
        before_places O a b hb ∙ sorted w T D a b ha hb ∙ sym (rw (earlier a b ha hb, same a b ha hb) (elim (cases_Bool (eqb (turn w T D a) (turn w T D b))) [
          | inl t ↦ rw (heard-order a b ha hb (eqb-true _ _ t))
          | inr f ↦ rw f
        ]));
  }

  pub law_alone : ((m : ℕ) → Distinct (T m)) → (l : List ℕ) → Ordered w T D l → l ≡ O
  law_alone nd l o = let k = keeps_law nd in
      same-order l O o.once k.once (λ a. o.placed a ∙ sym (k.placed a)) (λ a b ha hb.
      let ma : member a O ≡ true = k.placed a ∙ sym (o.placed a) ∙ ha in
      let mb : member b O ≡ true = k.placed b ∙ sym (o.placed b) ∙ hb in
      sym (before_places l a b hb) ∙ o.sorted a b ha hb ∙ sym (k.sorted a b ma mb) ∙ before_places O a b mb)
