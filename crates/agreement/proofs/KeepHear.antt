-- Hearing keeps the invariant. Only batches that now go with the heard batch x change their serializer, and then to x.
-- None of them is released: its master would have taken an entry for it before x, and it has not heard x yet. And none
-- comes before a released b that shares a base with it: x would have come before b already, so x would be released.
use Rattle.std.proofs.Common.{◌≡◌, ℕ, ◌<◌, ◌≤◌, Bool, true, false, ◌&&◌, ◌||◌, eqb, ltb, ◌⊎◌, List, [], ◌∷◌, ◌++◌, length, get_or, sym, refl, ap, ◌∙◌, inl, inr, le_of_lt, arith}
use Rattle.std.proofs.lemmas.Bool.{cases_Bool, cases_eq, eqb-true, eq-eqb, ne_eqb, and_parts, and_from, or_left, both_ways}
use Rattle.lists.specs.Words.{member, any, place, before}
use Rattle.lists.proofs.Keys.{not-sooner}
use Rattle.lists.proofs.Members.{member-old, any_same}
use Rattle.lists.proofs.Places.{first_least, first-same, first_mono, first_le, none-long, place_in, place_out, place-front}
use Rattle.lists.proofs.Befores.{before-append, before_members, before_other}
use Rattle.lists.proofs.Fronts.{front-any}
use Rattle.lists.proofs.Updates.{updated-here, updated-there}
use Rattle.order.specs.Works.{Works, share, lies_within}
use Rattle.order.specs.Order.{serial_run}
use Rattle.order.specs.Laws.{goes_with, turn, serializer}
use Rattle.order.proofs.Walks.{with_self, with_shares, entry_placed}
use Rattle.order.proofs.Serializers.{before_turns, turns_before, serializer_with, serializer_entry, serializer-place, serializer-master}
use Rattle.order.proofs.Hearings.{hear, hear-once, same-placed, same-sorted, hearing_keeps}
use Rattle.agreement.proofs.Pictures.{Scene, Picture, Invariant, First, order_of, after, sits, seat, picture_hear}
use Rattle.agreement.proofs.Puts.{clash}
use Rattle.agreement.proofs.Standing.{settled-heard, serializer-taken}
use Rattle.agreement.proofs.Growing.{released-placed}

only_self : (e d m b : Bool) → (e || (d && (b && m))) ≡ true → m ≡ false → e ≡ true
only_self e d m b h f = grind arith

module _ (w : Scene) (s : Picture) (i : Invariant w s) (k x : ℕ) (new : member x (s.heard k) ≡ false) where
  abbrev ws : Works
  ws = w.works

  abbrev T : ℕ → List ℕ
  T = s.heard

  abbrev T' : ℕ → List ℕ
  T' = hear s.heard k x

  abbrev D : List ℕ
  D = s.definitive

  abbrev s' : Picture
  s' = picture_hear s k x

  abbrev H : List ℕ
  H = order_of w s

  abbrev H' : List ℕ
  H' = order_of w (picture_hear s k x)

  hear-here : (n : ℕ) → n ≡ k → T' n ≡ T n ++ x ∷ []
  hear-here n e = ap T' e ∙ updated-here T k (T k ++ x ∷ []) ∙ ap (λ m. T m ++ x ∷ []) (sym e)

  hear_away : (n : ℕ) → (n ≡ k → ⊥) → T' n ≡ T n
  hear_away = updated-there T k (T k ++ x ∷ [])

  hear-member : (n a : ℕ) → member a (T n) ≡ true → member a (T' n) ≡ true
  hear-member n a h = elim (cases_eq n k) [ inl e ↦ ap (member a) (hear-here n e) ∙ member-old a (T n) x h | inr ne ↦ ap (member a) (hear_away n ne) ∙ h ]

  -- what goes with a batch, but with x itself, goes with it as before
  with_stay : (a q : ℕ) → (ws.master a ≡ k → ws.master q ≡ k → q ≡ x → ⊥) → goes_with ws T' a q ≡ goes_with ws T a q
  with_stay a q h = elim (cases_eq (ws.master a) (ws.master q)) [
    | inl e ↦ elim (cases_eq (ws.master q) k) [
      | inl f ↦ ap (λ b. eqb a q || ((eqb (ws.master a) (ws.master q) && lies_within ws a q) && b)) (ap (λ l. before l a q) (hear-here (ws.master q) f) ∙ before_other (T (ws.master q)) x a q (h (e ∙ f) f))
      | inr f ↦ ap (λ l. eqb a q || ((eqb (ws.master a) (ws.master q) && lies_within ws a q) && before l a q)) (hear_away (ws.master q) f)
    ]
    | inr ne ↦ let z : eqb (ws.master a) (ws.master q) ≡ false = ne_eqb _ _ ne in rw z
  ]

  with_grow : (a q : ℕ) → goes_with ws T a q ≡ true → goes_with ws T' a q ≡ true
  with_grow a q h = elim (cases_eq (ws.master q) k) [
    | inl f ↦ elim (cases_Bool (member q (T (ws.master q)))) [
      | inl t ↦ ap (λ b. eqb a q || ((eqb (ws.master a) (ws.master q) && lies_within ws a q) && b)) (ap (λ l. before l a q) (hear-here (ws.master q) f) ∙ before-append a q (T (ws.master q)) (x ∷ []) t) ∙ h
      | inr g ↦ or_left _ _ (only_self (eqb a q) (eqb (ws.master a) (ws.master q) && lies_within ws a q) (member q (T (ws.master q))) (ltb (place a (T (ws.master q))) (place q (T (ws.master q)))) h g)
    ]
    | inr f ↦ ap (λ l. eqb a q || ((eqb (ws.master a) (ws.master q) && lies_within ws a q) && before l a q)) (hear_away (ws.master q) f) ∙ h
  ]

  -- x is not among what room k has taken
  untaken : (q : ℕ) → member q (s.taken k) ≡ true → q ≡ x → ⊥
  untaken q h e = both_ways (member x (T k)) new (rw e at (i.taken_heard k q h))

  taken_stay : (n a q : ℕ) → ws.master a ≡ n → member q (s.taken n) ≡ true → goes_with ws T' a q ≡ goes_with ws T a q
  taken_stay n a q e h = with_stay a q (λ f _. untaken q (rw (sym e ∙ f) at h))

  pub sits_stay : (n a q : ℕ) → member q (s.taken n) ≡ true → sits w s' n a q ≡ sits w s n a q
  sits_stay n a q h = elim (cases_Bool (eqb (ws.master a) n)) [ inl t ↦ rw t (taken_stay n a q (eqb-true _ _ t) h) | inr f ↦ rw f ]

  pub seat_stay : (n a : ℕ) → seat w s' n a ≡ seat w s n a
  seat_stay n a = first-same (sits w s' n a) (sits w s n a) (s.taken n) (sits_stay n a)

  settled-first' : (b : ℕ) → member b s.released ≡ true → any (goes_with ws T' b) (s.taken (ws.master b)) ≡ true
  settled-first' b h = any_same _ _ (s.taken (ws.master b)) (λ q m. taken_stay (ws.master b) b q refl m) ∙ i.settled_first b h

  -- a released batch keeps its serializer
  pub turn_stay : (b : ℕ) → member b s.released ≡ true → turn ws T' D b ≡ turn ws T D b
  turn_stay b h =
      let n : ℕ = ws.master b in
      (front-any D (s.taken n) (i.front n).0 (i.front n).1 (goes_with ws T' b) (settled-first' b h)).0 ∙
      first-same _ _ (s.taken n) (λ q m. taken_stay n b q refl m) ∙ sym (front-any D (s.taken n) (i.front n).0 (i.front n).1 (goes_with ws T b) (i.settled_first b h)).0

  short : (b : ℕ) → member b s.released ≡ true → turn ws T D b < length (s.taken (ws.master b))
  short b h = let n : ℕ = ws.master b in let z = front-any D (s.taken n) (i.front n).0 (i.front n).1 (goes_with ws T b) (i.settled_first b h) in omega (arith, z)

  -- where a's serializer has changed, it is x
  changed : (a : ℕ) → member a H' ≡ true → (turn ws T' D a ≡ turn ws T D a → ⊥) → (serializer ws T' D a ≡ x) × (ws.master x ≡ k)
  changed a ma ne = go (cases_eq g x) (cases_eq (ws.master g) k)
    where
      g : ℕ
      g = serializer ws T' D a

      same : (ws.master a ≡ k → ws.master g ≡ k → g ≡ x → ⊥) → ⊥
      same h =
          let r : goes_with ws T a g ≡ true = sym (with_stay a g h) ∙ serializer_with ws T' D i.numbered_once a ma in
          let l = first_least (goes_with ws T a) g D r (serializer_entry ws T' D i.numbered_once a ma) in
          let u = first_mono (goes_with ws T a) (goes_with ws T' a) D (with_grow a) in
          let e = serializer-place ws T' D i.numbered_once a ma in
          ne (omega (arith, l, u, e))

      go : (g ≡ x) ⊎ (g ≡ x → ⊥) → (ws.master g ≡ k) ⊎ (ws.master g ≡ k → ⊥) → (serializer ws T' D a ≡ x) × (ws.master x ≡ k)
      go (inl e) (inl f) = (e, rw e at f)
      go (inl e) (inr f) = absurd (same (λ _ z. absurd (f z)))
      go (inr e) y = absurd (same (λ _ _. e))

  -- then x stood before b already, and its master had heard it
  impossible : (a b : ℕ) → member b s.released ≡ true → before H' a b ≡ true → share ws a b ≡ true → (turn ws T' D a ≡ turn ws T D a → ⊥) → ⊥
  unfolding serializer
  impossible a b h bef sh ne = both_ways (member x (T k)) new (elim (before_turns ws T' D i.numbered_once a b bef) [ inl l ↦ less l | inr l ↦ equal l.0 ])
    where
      ma : member a H' ≡ true
      ma = (before_members a b H' bef).0

      ch : (serializer ws T' D a ≡ x) × (ws.master x ≡ k)
      ch = changed a ma ne

      at : place x D ≡ turn ws T' D a
      at = rw ch.0 at (serializer-place ws T' D i.numbered_once a ma)

      in_D : member x D ≡ true
      in_D = rw ch.0 at (serializer_entry ws T' D i.numbered_once a ma)

      hb : member b H ≡ true
      hb = released-placed w s i b h

      sh_x : share ws x b ≡ true
      sh_x = with_shares ws T' a x b (rw ch.0 at (serializer_with ws T' D i.numbered_once a ma)) sh

      less : turn ws T' D a < turn ws T' D b → member x (T k) ≡ true
      less l =
          let u = first_least (goes_with ws T x) x D (with_self ws T x) in_D in
          let v : turn ws T D x < turn ws T D b = omega (arith, l, u, at, turn_stay b h) in
          let n : ℕ = ws.master b in
          let o = i.closed n x b (turns_before ws T D i.numbered_once x b (entry_placed ws T D x in_D) hb (inl v)) sh_x (i.home_first b h) in
          rw ch.1 at (i.installed_heard (ws.master x) x (i.home_first x (i.installed_released n x o)))

      equal : turn ws T' D a ≡ turn ws T' D b → member x (T k) ≡ true
      equal e =
          let n : ℕ = ws.master b in
          let f : get_or D (turn ws T D b) 0 ≡ x = ap (λ j. get_or D j 0) (sym (turn_stay b h) ∙ sym e) ∙ ch.0 in
          let m : ws.master x ≡ n = sym (ap ws.master f) ∙ serializer-master ws T D i.numbered_once b hb in
          let o = i.taken_heard n _ (serializer-taken w s i n b hb (short b h)).0 in
          rw (f, sym m ∙ ch.1) at o

  pub before_back : (a b : ℕ) → member b s.released ≡ true → before H' a b ≡ true → share ws a b ≡ true → before H a b ≡ true
  before_back a b h bef sh = elim (cases_eq (turn ws T' D a) (turn ws T D a)) [ inr ne ↦ absurd (impossible a b h bef sh ne) | inl e ↦ back e ]
    where
      J : ℕ → Bool
      J z = eqb (turn ws T' D z) (turn ws T D z)

      st : (z : ℕ) → J z ≡ true → turn ws T' D z ≡ turn ws T D z
      st z j = eqb-true _ _ j

      back : turn ws T' D a ≡ turn ws T D a → before H a b ≡ true
      back e =
          let ja : J a ≡ true = eq-eqb _ _ e in
          let jb : J b ≡ true = eq-eqb _ _ (turn_stay b h) in
          let ma : member a H ≡ true = sym (same-placed ws T k x i.heard_once new D J st a ja) ∙ (before_members a b H' bef).0 in
          let mb : member b H ≡ true = released-placed w s i b h in
          let o = same-sorted ws T k x i.heard_once new D J st a b ja jb ma mb in
          and_from _ _ (sym o ∙ (and_parts _ _ bef).0) mb

  -- what is not heard yet comes after everything in the room's lists
  unheard_last : (n c b : ℕ) → member c (T n) ≡ false → seat w s n b ≤ seat w s n c
  unheard_last n c b f = elim (cases_Bool (any (sits w s n c) (s.taken n))) [
    | inl t ↦ clash (member c (T n)) (settled-heard w s i n c t) f
    | inr z ↦ let u = none-long (sits w s n c) (s.taken n) z in let v = first_le (sits w s n b) (s.taken n) in omega (arith, u, v)
  ]

  first' : (n b : ℕ) → s.marked n b ≡ true → First w s' n b
  first' n b m c hc nc sh = rw (seat_stay n c, seat_stay n b) (elim (cases_eq n k) [
    | inr ne ↦ rw (hear_away n ne) (i.marks_first n b m c (rw (hear_away n ne) at hc) nc sh)
    | inl e ↦ elim (cases_Bool (member c (T n))) [
      | inl t ↦ rw (hear-here n e, place_in c (T n) (x ∷ []) t, place_in b (T n) (x ∷ []) (i.marks n b m).1) (i.marks_first n b m c t nc sh)
      | inr f ↦ rw (hear-here n e, place_out c (T n) (x ∷ []) f, place_in b (T n) (x ∷ []) (i.marks n b m).1) (not-sooner _ _ _ _ (unheard_last n c b f) (le_of_lt (place-front b (T n) _ (i.marks n b m).1)))
    ]
  ])

  pub hear-keeps : Invariant w (picture_hear s k x)
  hear-keeps = record {
    heard_once = hear-once T k x i.heard_once new;
    numbered_once = i.numbered_once;
    front = i.front;
    taken_heard = λ n q h. hear-member n q (i.taken_heard n q h);
    installed_released = i.installed_released;
    installed_heard = λ n b h. hear-member n b (i.installed_heard n b h);
    home_first = i.home_first;
    settled_first = settled-first';
    in_turn = i.in_turn;
    closed = λ n a b bef sh h. i.closed n a b (before_back a b (i.installed_released n b h) bef sh) sh h;
    release_order = λ a b h bef sh. i.release_order a b h (before_back a b h bef sh) sh;
    books = λ n y. i.books n y ∙ ap (λ l. serial_run ws l w.opening y) (sym (hearing_keeps ws T k x i.heard_once new D (s.installed n) (λ a j. turn_stay a (i.installed_released n a j))));
    announcements = λ b y h hb. i.announcements b y h hb ∙ ap (λ l. after w b (serial_run ws l w.opening) y)
        (sym (hearing_keeps ws T k x i.heard_once new D (λ a. before s.released a b) (λ a j. turn_stay a (before_members a b s.released j).0)));
    marks = λ n b m. let z = i.marks n b m in (z.0, hear-member n b z.1, z.2);
    marks_first = first';
    marks_right = i.marks_right;
  }
