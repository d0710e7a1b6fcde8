-- A room's settled and waiting lists, in closed form: who stands in them, and in which order. The settled ones stand in
-- the order in which the room settles, by the law of the walk; the waiting ones as they were heard, after those.
use Rattle.std.proofs.Common.{◌≡◌, ℕ, ◌<◌, Bool, true, false, not, ◌&&◌, ◌||◌, eqb, ltb, List, ◌++◌, length, get_or, sym, ap, ◌∙◌, inl, inr, le_of_lt, arith}
use Rattle.std.proofs.lemmas.Bool.{cases_Bool, eqb-true, eqb-false, and_parts, not-true}
use Rattle.lists.specs.Words.{member, any, place, before}
use Rattle.lists.proofs.Keys.{not_less, keys_less, keys_more, keys_same}
use Rattle.lists.proofs.Members.{member-append, any_same}
use Rattle.lists.proofs.Keeps.{member-keep, place-keep}
use Rattle.lists.proofs.Places.{first-same, first_passes, any-short, none-long, place_in, place_out, place-front}
use Rattle.lists.proofs.Befores.{before_places}
use Rattle.order.specs.Works.{Works}
use Rattle.order.specs.Laws.{goes_with, turn}
use Rattle.order.proofs.Walks.{with_master, member-order}
use Rattle.order.proofs.Sorts.{sorted}
use Rattle.agreement.specs.Promises.{own_heard}
use Rattle.agreement.proofs.Pictures.{Scene, Picture, sits, seat, sooner, own_order, settled_of, waiting_of}

listed-test : (i a m : Bool) → i ≡ false → m ≡ true → ((not i && a) || ((not i && not a) && m)) ≡ true
listed-test i a m f h = grind arith

module _ (w : Scene) (s : Picture) (k : ℕ) where
  abbrev ws : Works
  ws = w.works

  abbrev T : ℕ → List ℕ
  T = s.heard

  abbrev U : ℕ → List ℕ
  U = own_heard s.heard k

  abbrev O : List ℕ
  O = own_order w s k

  abbrev S : List ℕ
  S = settled_of w s k

  abbrev W : List ℕ
  W = waiting_of w s k

  -- in the room's own view a batch goes with what it sits with
  pub own_with : (a q : ℕ) → goes_with ws U a q ≡ sits w s k a q
  own_with a q = grind arith

  pub own_turn : (a : ℕ) → turn ws U (s.taken k) a ≡ seat w s k a
  own_turn a = first-same _ _ (s.taken k) (λ q _. own_with a q)

  pub member_own : (a : ℕ) → member a O ≡ any (sits w s k a) (s.taken k)
  member_own a = member-order ws U (s.taken k) a ∙ any_same _ _ (s.taken k) (λ q _. own_with a q)

  pub member_settled : (a : ℕ) → member a S ≡ (not (s.installed k a) && any (sits w s k a) (s.taken k))
  member_settled a = member-keep (λ a. not (s.installed k a)) a O ∙ ap (λ b. not (s.installed k a) && b) (member_own a)

  pub member-waiting : (a : ℕ) → member a W ≡ ((not (s.installed k a) && not (any (sits w s k a) (s.taken k))) && member a (T k))
  member-waiting a = member-keep (λ a. not (s.installed k a) && not (any (sits w s k a) (s.taken k))) a (T k)

  -- what is heard and not installed stands in one of the two
  pub in_line : (c : ℕ) → member c (T k) ≡ true → s.installed k c ≡ false → member c (S ++ W) ≡ true
  in_line c h f = member-append c S W ∙ rw (member_settled c, member-waiting c) (listed-test (s.installed k c) (any (sits w s k c) (s.taken k)) (member c (T k)) f h)

  -- two with one seat: the room's own stand by its tentative list, and another room's batch is alone
  same-seat : (a b : ℕ) → member a O ≡ true → member b O ≡ true → seat w s k a ≡ seat w s k b →
      ltb (place a (U (ws.master a))) (place b (U (ws.master a))) ≡ ltb (place a (T k)) (place b (T k))
  same-seat a b ha hb e = elim (cases_Bool (eqb (ws.master a) k)) [
    | inl t ↦ rw (t, eqb-true _ _ t)
    | inr f ↦ rw (alike f) (not_less (place b (U (ws.master b))) ∙ sym (not_less (place b (T k))))
  ]
    where
      q : ℕ
      q = get_or (s.taken k) (seat w s k a) 0

      sa : sits w s k a q ≡ true
      sa = first_passes (sits w s k a) (s.taken k) 0 (any-short _ _ (sym (member_own a) ∙ ha))

      sb : sits w s k b q ≡ true
      sb = rw e (first_passes (sits w s k b) (s.taken k) 0 (any-short _ _ (sym (member_own b) ∙ hb)))

      alike : eqb (ws.master a) k ≡ false → a ≡ b
      alike f = let ea : a ≡ q = eqb-true a q (rw f at sa) in elim (cases_Bool (eqb (ws.master b) k)) [
        | inl t ↦ absurd (eqb-false _ _ f (ap ws.master ea ∙ with_master ws T b q (rw t at sb) ∙ eqb-true _ _ t))
        | inr g ↦ ea ∙ sym (eqb-true b q (rw g at sb))
      ]

  own_sorted : (a b : ℕ) → member a O ≡ true → member b O ≡ true → ltb (place a O) (place b O) ≡ sooner w s k a b
  own_sorted a b ha hb = rw (sorted ws U (s.taken k) a b ha hb, own_turn a, own_turn b)
      (elim (cases_Bool (eqb (seat w s k a) (seat w s k b))) [ inl t ↦ rw (same-seat a b ha hb (eqb-true _ _ t)) | inr f ↦ rw f ])

  in_settled : (a : ℕ) → member a S ≡ true → (not (s.installed k a) ≡ true) × (member a O ≡ true) × (seat w s k a < length (s.taken k))
  in_settled a h = let z = and_parts _ _ (sym (member_settled a) ∙ h) in (z.0, member_own a ∙ z.1, any-short _ _ z.1)

  in_waiting : (a : ℕ) → member a S ≡ false → member a (S ++ W) ≡ true →
      (member a (T k) ≡ true) × ((not (s.installed k a) && not (any (sits w s k a) (s.taken k))) ≡ true) × (seat w s k a ≡ length (s.taken k))
  in_waiting a f h =
      let u : (member a S || member a W) ≡ true = sym (member-append a S W) ∙ h in
      let v : member a W ≡ true = rw f at u in
      let z = and_parts _ _ (sym (member-waiting a) ∙ v) in
      (z.1, z.0, none-long _ _ (not-true _ (and_parts _ _ z.0).1))

  -- who stands before whom in the room's lists
  pub line-order : (a b : ℕ) → member a (settled_of w s k ++ waiting_of w s k) ≡ true → member b (settled_of w s k ++ waiting_of w s k) ≡ true →
      before (settled_of w s k ++ waiting_of w s k) a b ≡ sooner w s k a b
  line-order a b ha hb = before_places (S ++ W) a b hb ∙ elim (cases_Bool (member a S)) [
    | inl ta ↦ let za = in_settled a ta in elim (cases_Bool (member b S)) [
      | inl tb ↦ let zb = in_settled b tb in rw (place_in a S W ta, place_in b S W tb)
          (place-keep (λ a. not (s.installed k a)) a b O za.0 zb.0 za.1 zb.1 ∙ own_sorted a b za.1 zb.1)
      | inr fb ↦ let zb = in_waiting b fb hb in rw (place_in a S W ta, place_out b S W fb)
          (keys_less _ _ (seat w s k a) (seat w s k b) _ (place-front a S _ ta) (rw zb.2 za.2))
    ]
    | inr fa ↦ let za = in_waiting a fa ha in elim (cases_Bool (member b S)) [
      | inl tb ↦ let zb = in_settled b tb in rw (place_out a S W fa, place_in b S W tb)
          (keys_more _ _ (seat w s k a) (seat w s k b) _ (le_of_lt (place-front b S _ tb)) (rw za.2 zb.2))
      | inr fb ↦ let zb = in_waiting b fb hb in rw (place_out a S W fa, place_out b S W fb)
          (keys_same (length S) _ _ (seat w s k a) (seat w s k b) _ (za.2 ∙ sym zb.2)
          (place-keep (λ a. not (s.installed k a) && not (any (sits w s k a) (s.taken k))) a b (T k) za.1 zb.1 za.0 zb.0))
    ]
  ]
