-- Where batches stand in a room, against the house order. What comes before b in the house order and shares a base with
-- it is installed once b may be released or installed: an own batch stands in the room's lists by its own turn, and one
-- of another room is stood for by its serializer.
use Rattle.std.proofs.Common.{◌≡◌, ℕ, ◌<◌, true, false, ◌&&◌, ◌||◌, eqb, ltb, ◌⊎◌, List, length, get_or, sym, ap, ◌∙◌, inl, inr, arith}
use Rattle.std.proofs.lemmas.Bool.{cases_Bool, cases_eq, eqb-true, eq-eqb, ne_eqb}
use Rattle.lists.specs.Words.{member, any, first, place, before}
use Rattle.lists.proofs.Keys.{by_first, by_second}
use Rattle.lists.proofs.Members.{member-get_or}
use Rattle.lists.proofs.Places.{first-same, any-short, first_passes, place_inj}
use Rattle.lists.proofs.Befores.{before_members}
use Rattle.lists.proofs.Fronts.{front-place, front-short, front-any, front-first}
use Rattle.order.specs.Works.{Works, share}
use Rattle.order.specs.Laws.{goes_with, turn, serializer}
use Rattle.order.proofs.Walks.{with_shares, with_heard, with_master}
use Rattle.order.proofs.Serials.{share_sym, share_self}
use Rattle.order.proofs.Serializers.{before_turns, serializer_with, serializer-place, serializer-master, serializer-after}
use Rattle.agreement.proofs.Pictures.{Scene, Picture, Invariant, First, order_of, sits, seat, sooner, serializer_of}
use Rattle.agreement.proofs.Puts.{clash}

-- two batches of which neither stands before the other are one
pub sooner-same : (w : Scene) (s : Picture) (k a b : ℕ) → member a (s.heard k) ≡ true → sooner w s k a b ≡ false → sooner w s k b a ≡ false → a ≡ b
sooner-same w s k a b h f g = place_inj a b (s.heard k) h (level (seat w s k a) (seat w s k b) _ _ f g)
  where
    level : (x y u v : ℕ) → (ltb x y || (eqb x y && ltb u v)) ≡ false → (ltb y x || (eqb y x && ltb v u)) ≡ false → u ≡ v
    level x y u v f g = grind arith

pub sits_own : (w : Scene) (s : Picture) (k a q : ℕ) → w.works.master a ≡ k → sits w s k a q ≡ goes_with w.works s.heard a q
sits_own w s k a q e = let t : eqb (w.works.master a) k ≡ true = eq-eqb _ _ e in rw t

pub sits_other : (w : Scene) (s : Picture) (k a q : ℕ) → (w.works.master a ≡ k → ⊥) → sits w s k a q ≡ eqb a q
sits_other w s k a q ne = let f : eqb (w.works.master a) k ≡ false = ne_eqb _ _ ne in rw f

pub seat_own : (w : Scene) (s : Picture) (k a : ℕ) → w.works.master a ≡ k → seat w s k a ≡ first (goes_with w.works s.heard a) (s.taken k)
seat_own w s k a e = first-same _ _ (s.taken k) (λ q _. sits_own w s k a q e)

pub seat_other : (w : Scene) (s : Picture) (k a : ℕ) → (w.works.master a ≡ k → ⊥) → seat w s k a ≡ place a (s.taken k)
seat_other w s k a ne = first-same _ _ (s.taken k) (λ q _. sits_other w s k a q ne)

module _ (w : Scene) (s : Picture) (i : Invariant w s) where
  abbrev ws : Works
  ws = w.works

  abbrev T : ℕ → List ℕ
  T = s.heard

  abbrev D : List ℕ
  D = s.definitive

  abbrev H : List ℕ
  H = order_of w s

  abbrev ser : ℕ → ℕ
  ser a = serializer_of w s a

  abbrev trn : ℕ → ℕ
  trn a = turn w.works s.heard s.definitive a

  -- what is settled here is heard here
  pub sits-heard : (n c q : ℕ) → member q (s.taken n) ≡ true → sits w s n c q ≡ true → member c (T n) ≡ true
  sits-heard n c q m z = elim (cases_eq (ws.master c) n) [
    | inl t ↦ let r : goes_with ws T c q ≡ true = sym (sits_own w s n c q t) ∙ z in let e : ws.master q ≡ n = with_master ws T c q r ∙ t in rw e at (with_heard ws T c q r (rw e (i.taken_heard n q m)))
    | inr f ↦ let e : c ≡ q = eqb-true c q (sym (sits_other w s n c q f) ∙ z) in rw e (i.taken_heard n q m)
  ]

  pub settled-heard : (n c : ℕ) → any (sits w s n c) (s.taken n) ≡ true → member c (T n) ≡ true
  settled-heard n c t = let l = any-short (sits w s n c) (s.taken n) t in
      sits-heard n c _ (member-get_or (s.taken n) (seat w s n c) l) (first_passes (sits w s n c) (s.taken n) 0 l)

  pub serializer-taken : (k a : ℕ) → member a H ≡ true → trn a < length (s.taken k) → (member (ser a) (s.taken k) ≡ true) × (place (ser a) (s.taken k) ≡ trn a)
  serializer-taken k a h l =
      let at = serializer-place ws T D i.numbered_once a h in
      let z = front-short D (s.taken k) (i.front k).0 (i.front k).1 (ser a) (rw at l) in (z.0, z.1 ∙ at)

  -- a batch of another master that is not installed here: its serializer stands in this room's lists, at its turn
  standing : (k a b : ℕ) → member a H ≡ true → (ws.master a ≡ k → ⊥) → trn a < length (s.taken k) → s.installed k a ≡ false → share ws a b ≡ true →
      (member (ser a) (T k) ≡ true) × (s.installed k (ser a) ≡ false) × (share ws (ser a) b ≡ true) × (seat w s k (ser a) ≡ trn a)
  standing k a b h ne l f sh = (
    i.taken_heard k (ser a) (serializer-taken k a h l).0,
    out (cases_Bool (s.installed k (ser a))),
    with_shares ws T a (ser a) b goes sh,
    seat_other w s k (ser a) (λ e. ne (sym same ∙ e)) ∙ (serializer-taken k a h l).1,
  )
    where
      goes : goes_with ws T a (ser a) ≡ true
      goes = serializer_with ws T D i.numbered_once a h

      same : ws.master (ser a) ≡ ws.master a
      same = serializer-master ws T D i.numbered_once a h

      together : share ws a (ser a) ≡ true
      together = share_sym ws (ser a) a (with_shares ws T a (ser a) a goes (share_self ws a b sh))

      out : (s.installed k (ser a) ≡ true) ⊎ (s.installed k (ser a) ≡ false) → s.installed k (ser a) ≡ false
      out (inr g) = g
      out (inl t) = elim (cases_eq a (ser a)) [
        | inl e ↦ clash (s.installed k (ser a)) t (rw e at f)
        | inr d ↦ clash (s.installed k a) (i.closed k a (ser a) (serializer-after ws T D i.numbered_once a h d) together t) f
      ]

  -- a batch of this room whose serializer is taken is heard here, and its seat is its turn
  own_standing : (k a : ℕ) → member a H ≡ true → ws.master a ≡ k → trn a < length (s.taken k) → (member a (T k) ≡ true) × (seat w s k a ≡ trn a)
  own_standing k a h e l =
      let m : ws.master (ser a) ≡ k = serializer-master ws T D i.numbered_once a h ∙ e in
      let t : member (ser a) (T (ws.master (ser a))) ≡ true = rw m (i.taken_heard k (ser a) (serializer-taken k a h l).0) in
      let r = with_heard ws T a (ser a) (serializer_with ws T D i.numbered_once a h) t in
      (rw m at r, seat_own w s k a e ∙ front-first D (s.taken k) (i.front k).0 (i.front k).1 (goes_with ws T a) l)

  -- with one serializer goes one master
  same-serializer : (a b : ℕ) → member a H ≡ true → member b H ≡ true → trn a ≡ trn b → ws.master a ≡ ws.master b
  unfolding serializer
  same-serializer a b ha hb e = sym (serializer-master ws T D i.numbered_once a ha) ∙ ap (λ n. ws.master (get_or D n 0)) e ∙ serializer-master ws T D i.numbered_once b hb

  -- at a release
  pub front-release : (k b : ℕ) → ws.master b ≡ k → any (goes_with ws T b) (s.taken k) ≡ true → First w s k b → (a : ℕ) → before H a b ≡ true → share ws a b ≡ true → s.installed k a ≡ true
  front-release k b e set fst a bef sh = elim (cases_Bool (s.installed k a)) [ inl t ↦ t | inr f ↦ elim (cases_eq (ws.master a) k) [ inl ea ↦ here f ea | inr na ↦ there f na ] ]
    where
      ma : member a H ≡ true
      ma = (before_members a b H bef).0

      mb : member b H ≡ true
      mb = (before_members a b H bef).1

      at : (trn b ≡ first (goes_with ws T b) (s.taken k)) × (first (goes_with ws T b) (s.taken k) < length (s.taken k))
      at = front-any D (s.taken k) (i.front k).0 (i.front k).1 (goes_with ws T b) set

      seat-b : seat w s k b ≡ trn b
      seat-b = seat_own w s k b e ∙ sym at.0

      key : (trn a < trn b) ⊎ ((trn a ≡ trn b) × (place a (T (ws.master a)) < place b (T (ws.master a))))
      key = before_turns ws T D i.numbered_once a b bef

      short : trn a < length (s.taken k)
      short = omega (arith, key, at)

      here : s.installed k a ≡ false → ws.master a ≡ k → s.installed k a ≡ true
      here f ea =
          let o = own_standing k a ma ea short in
          let z : sooner w s k a b ≡ true = rw (o.1, seat-b) (elim key [ inl l ↦ by_first _ _ _ l | inr l ↦ by_second _ _ _ _ l.0 (rw ea at l.1) ]) in
          clash (sooner w s k a b) z (fst a o.0 f sh)

      there : s.installed k a ≡ false → (ws.master a ≡ k → ⊥) → s.installed k a ≡ true
      there f na =
          let o = standing k a b ma na short f sh in
          let l : trn a < trn b = elim key [ inl l ↦ l | inr l ↦ absurd (na (same-serializer a b ma mb l.0 ∙ e)) ] in
          let z : sooner w s k (ser a) b ≡ true = rw (o.3, seat-b) (by_first _ _ _ l) in
          clash (sooner w s k (ser a) b) z (fst (ser a) o.0 o.1 o.2)

  -- and at an install
  pub front-install : (k c : ℕ) → (ws.master c ≡ k → ⊥) → member c H ≡ true → member c s.released ≡ true → member (ser c) (s.taken k) ≡ true →
      ((a : ℕ) → before s.released a c ≡ true → ws.master a ≡ ws.master c → s.installed k a ≡ true) →
      ((d : ℕ) → member d (T k) ≡ true → s.installed k d ≡ false → (d ≡ c → ⊥) → share ws d c ≡ true → sooner w s k d (ser c) ≡ false) →
      (a : ℕ) → before H a c ≡ true → share ws a c ≡ true → s.installed k a ≡ true
  front-install k c e hc lc set next fst a bef sh = elim (cases_Bool (s.installed k a)) [
    | inl t ↦ t
    | inr f ↦ elim (cases_eq (ws.master a) (ws.master c)) [
      | inl q ↦ next a (i.release_order a c lc bef sh) q
      | inr n ↦ elim (cases_eq (ws.master a) k) [ inl ea ↦ here f n ea | inr na ↦ there f n na ]
    ]
  ]
    where
      ma : member a H ≡ true
      ma = (before_members a c H bef).0

      same : ws.master (ser c) ≡ ws.master c
      same = serializer-master ws T D i.numbered_once c hc

      at : (place (ser c) D ≡ place (ser c) (s.taken k)) × (place (ser c) (s.taken k) < length (s.taken k))
      at = front-place D (s.taken k) (i.front k).0 (i.front k).1 (ser c) set

      seat-c : seat w s k (ser c) ≡ trn c
      seat-c = seat_other w s k (ser c) (λ z. e (sym same ∙ z)) ∙ sym at.0 ∙ serializer-place ws T D i.numbered_once c hc

      key : (trn a < trn c) ⊎ ((trn a ≡ trn c) × (place a (T (ws.master a)) < place c (T (ws.master a))))
      key = before_turns ws T D i.numbered_once a c bef

      short : trn a < length (s.taken k)
      short = omega (arith, key, at, serializer-place ws T D i.numbered_once c hc)

      less : (ws.master a ≡ ws.master c → ⊥) → trn a < trn c
      less n = elim key [ inl l ↦ l | inr l ↦ absurd (n (same-serializer a c ma hc l.0)) ]

      here : s.installed k a ≡ false → (ws.master a ≡ ws.master c → ⊥) → ws.master a ≡ k → s.installed k a ≡ true
      here f n ea =
          let o = own_standing k a ma ea short in
          let z : sooner w s k a (ser c) ≡ true = rw (o.1, seat-c) (by_first _ _ _ (less n)) in
          clash (sooner w s k a (ser c)) z (fst a o.0 f (λ q. n (ap ws.master q)) sh)

      there : s.installed k a ≡ false → (ws.master a ≡ ws.master c → ⊥) → (ws.master a ≡ k → ⊥) → s.installed k a ≡ true
      there f n na =
          let o = standing k a c ma na short f sh in
          let z : sooner w s k (ser a) (ser c) ≡ true = rw (o.3, seat-c) (by_first _ _ _ (less n)) in
          clash (sooner w s k (ser a) (ser c)) z (fst (ser a) o.0 o.1 (λ q. n (sym (serializer-master ws T D i.numbered_once a ma) ∙ ap ws.master q)) o.2)
