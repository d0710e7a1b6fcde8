-- A house whose placed batches are settled or installed everywhere goes on until all are installed everywhere. If some
-- room lacks a released batch, it may install the first one in the order of release. If no room does, the first batch
-- of the house order that is not released may be run, and once marked released.
use Rattle.std.proofs.Common.{◌≡◌, ℕ, ◌<◌, ◌≤◌, Bool, true, false, not, ◌||◌, ◌⊎◌, List, length, get_or, sym, refl, ap, ◌∙◌, inl, inr, le_refl, arith}
use Rattle.std.proofs.lemmas.List.{get_or_append_left}
use Rattle.std.proofs.lemmas.Bool.{cases_Bool, cases_eq, eqb-true, or_cases, not-true, not-false, both_ways}
use Rattle.lists.specs.Words.{member, any, first, place, before}
use Rattle.lists.proofs.Keys.{by_keys, not-sooner}
use Rattle.lists.proofs.Members.{member-get_or, any_same}
use Rattle.lists.proofs.Places.{first_passes, first_least, first-min, any-short, short-any, short-member, place-get_or_le}
use Rattle.lists.proofs.Befores.{before_less}
use Rattle.lists.proofs.Fronts.{front-member, front-some, front-place, front-any}
use Rattle.order.specs.Works.{Works}
use Rattle.order.specs.Laws.{goes_with, turn, serializer}
use Rattle.order.proofs.Walks.{with_self, with_shares, with_master, member-order, entry_placed}
use Rattle.order.proofs.Serializers.{turns_before, serializer_with, serializer-place, serializer-master, serializer-placed, serializer-after}
use Rattle.order.proofs.Serials.{share_sym, right-share}
use Rattle.agreement.proofs.Pictures.{Scene, Picture, Invariant, order_of, sits, seat, sooner, serializer_of, MayRun, MayRelease, MayInstall}
use Rattle.agreement.proofs.Puts.{clash}
use Rattle.agreement.proofs.Standing.{sits_own, sits_other, seat_own, seat_other, settled-heard}
use Rattle.agreement.proofs.Growing.{released-placed}

-- every batch's master is one of the first so many rooms, and in each of them what the order places is settled or installed
pub record AllSettled (w : Scene) (s : Picture) (rooms : ℕ) : Type 0 where
  pub masters : (b : ℕ) → w.works.master b < rooms
  pub everywhere : (k a : ℕ) → k < rooms → member a (order_of w s) ≡ true → (any (sits w s k a) (s.taken k) || s.installed k a) ≡ true

-- the released batch that a room installs next
abbrev pub next_install : Picture → ℕ → ℕ
next_install s k = get_or s.released (first (λ c. not (s.installed k c)) s.released) 0

-- the batch that is run and released next
abbrev pub next_run : Scene → Picture → ℕ
next_run w s = get_or (order_of w s) (first (λ b. not (member b s.released)) (order_of w s)) 0

-- the first element that passes a test
module _ (f : ℕ → Bool) (l : List ℕ) (some : any f l ≡ true) where
  abbrev found : ℕ
  found = get_or l (first f l) 0

  found_passes : f found ≡ true
  found_passes = first_passes f l 0 (any-short f l some)

  found-member : member found l ≡ true
  found-member = member-get_or l (first f l) (any-short f l some)

  found_least : (c : ℕ) → before l c found ≡ true → f c ≡ false
  found_least c h = first-min f l c (let e = place-get_or_le l (first f l) (any-short f l some) in let z = before_less c found l h in omega arith)

module _ (w : Scene) (s : Picture) (i : Invariant w s) where
  abbrev ws : Works
  ws = w.works

  abbrev T : ℕ → List ℕ
  T = s.heard

  abbrev D : List ℕ
  D = s.definitive

  abbrev H : List ℕ
  H = order_of w s

  abbrev ser : ℕ → ℕ
  ser a = serializer_of w s a

  abbrev trn : ℕ → ℕ
  trn a = turn w.works s.heard s.definitive a

  -- what room k has placed is placed in the house, no later
  low : (k d : ℕ) → seat w s k d < length (s.taken k) → (member d H ≡ true) × (trn d ≤ seat w s k d)
  low k d l = elim (cases_eq (ws.master d) k) [
    | inl m ↦ let t : seat w s k d ≡ first (goes_with ws T d) (s.taken k) = seat_own w s k d m in
        let y : any (goes_with ws T d) (s.taken k) ≡ true = short-any (goes_with ws T d) (s.taken k) (omega (arith, t, l)) in
        let z = front-any D (s.taken k) (i.front k).0 (i.front k).1 (goes_with ws T d) y in
        (member-order ws T D d ∙ front-some D (s.taken k) (i.front k).0 (i.front k).1 (goes_with ws T d) y, omega (arith, t, z.0))
    | inr m ↦ let t : seat w s k d ≡ place d (s.taken k) = seat_other w s k d m in
        let y : member d (s.taken k) ≡ true = short-member d (s.taken k) (omega (arith, t, l)) in
        let z = front-place D (s.taken k) (i.front k).0 (i.front k).1 d y in
        let v = front-member D (s.taken k) (i.front k).0 (i.front k).1 d y in
        let u = first_least (goes_with ws T d) d D (with_self ws T d) v in (entry_placed ws T D d v, omega (arith, t, z.0, u))
  ]

  seat-before : (k d c : ℕ) → seat w s k d < length (s.taken k) → member c H ≡ true → seat w s k d < trn c → before H d c ≡ true
  seat-before k d c e hc l = let o = low k d e in turns_before ws T D i.numbered_once d c o.0 hc (inl (omega (arith, o.1, l)))

  -- who has c's turn for a seat in room k sits with c's serializer
  seat-sits : (k d c : ℕ) → trn c < length (s.taken k) → seat w s k d ≡ trn c → sits w s k d (ser c) ≡ true
  unfolding serializer
  seat-sits k d c e t =
      let v : get_or D (trn c) 0 ≡ get_or (s.taken k) (seat w s k d) 0 =
      ap (λ l. get_or l (trn c) 0) (i.front k).1 ∙ get_or_append_left (s.taken k) (i.front k).0 0 (trn c) e ∙ ap (λ j. get_or (s.taken k) j 0) (sym t) in
      rw v (first_passes (sits w s k d) (s.taken k) 0 (omega (arith, e, t)))

  sits_cases : (k d q : ℕ) → sits w s k d q ≡ true → ((ws.master d ≡ k) × (goes_with ws T d q ≡ true)) ⊎ ((ws.master d ≡ k → ⊥) × (d ≡ q))
  sits_cases k d q h = elim (cases_eq (ws.master d) k) [ inl t ↦ inl (t, sym (sits_own w s k d q t) ∙ h) | inr f ↦ inr (f, eqb-true d q (sym (sits_other w s k d q f) ∙ h)) ]

  any_other : (n c : ℕ) → (ws.master c ≡ n → ⊥) → any (sits w s n c) (s.taken n) ≡ true → member c (s.taken n) ≡ true
  any_other n c ne h = short-member c (s.taken n) (let z = any-short (sits w s n c) (s.taken n) h in let e = seat_other w s n c ne in omega (arith, z, e))

  -- a batch that stands before c's serializer in a room where c is not at home comes before c in the house
  sooner-install : (k d c : ℕ) → member (ser c) (s.taken k) ≡ true → member c H ≡ true → (ws.master c ≡ k → ⊥) → sooner w s k d (ser c) ≡ true → before H d c ≡ true
  sooner-install k d c taken hc away so = elim (by_keys (seat w s k d) (seat w s k (ser c)) _ _ so) [
    | inl l ↦ seat-before k d c (omega (arith, l, tc, lc)) hc (rw tc at l)
    | inr q ↦ elim (sits_cases k d (ser c) (seat-sits k d c lc (q.0 ∙ tc))) [
      | inl o ↦ absurd (away (sym mc ∙ with_master ws T d (ser c) o.1 ∙ o.0))
      | inr o ↦ clash (sooner w s k d (ser c)) so (rw o.1 (not-sooner (seat w s k (ser c)) (seat w s k (ser c)) (place (ser c) (T k)) (place (ser c) (T k)) (le_refl _) (le_refl _)))
    ]
  ]
    where
      mc : ws.master (ser c) ≡ ws.master c
      mc = serializer-master ws T D i.numbered_once c hc

      at : (place (ser c) D ≡ place (ser c) (s.taken k)) × (place (ser c) (s.taken k) < length (s.taken k))
      at = front-place D (s.taken k) (i.front k).0 (i.front k).1 (ser c) taken

      tc : seat w s k (ser c) ≡ trn c
      tc = seat_other w s k (ser c) (λ e. away (sym mc ∙ e)) ∙ sym at.0 ∙ serializer-place ws T D i.numbered_once c hc

      lc : trn c < length (s.taken k)
      lc = let v = serializer-place ws T D i.numbered_once c hc in omega (arith, at.0, at.1, v)

  -- and one that stands before b in b's own room
  sooner-run : (k d b : ℕ) → any (goes_with ws T b) (s.taken k) ≡ true → member b H ≡ true → ws.master b ≡ k → sooner w s k d b ≡ true → before H d b ≡ true
  sooner-run k d b an hb home so = elim (by_keys (seat w s k d) (seat w s k b) _ _ so) [
    | inl l ↦ seat-before k d b (omega (arith, l, tb, lb)) hb (rw tb at l)
    | inr q ↦ elim (sits_cases k d (ser b) (seat-sits k d b lb (q.0 ∙ tb))) [
      | inl o ↦ let td : seat w s k d ≡ trn d = own_seat d o.0 (omega (arith, q.0, tb, lb)) in
          turns_before ws T D i.numbered_once d b (low k d (omega (arith, q.0, tb, lb))).0 hb (inr (sym td ∙ q.0 ∙ tb, rw o.0 q.1))
      | inr o ↦ absurd (o.0 (ap ws.master o.1 ∙ serializer-master ws T D i.numbered_once b hb ∙ home))
    ]
  ]
    where
      at : (trn b ≡ first (goes_with ws T b) (s.taken k)) × (first (goes_with ws T b) (s.taken k) < length (s.taken k))
      at = front-any D (s.taken k) (i.front k).0 (i.front k).1 (goes_with ws T b) an

      tb : seat w s k b ≡ trn b
      tb = seat_own w s k b home ∙ sym at.0

      lb : trn b < length (s.taken k)
      lb = omega (arith, at.0, at.1)

      own_seat : (d : ℕ) → ws.master d ≡ k → seat w s k d < length (s.taken k) → seat w s k d ≡ trn d
      own_seat d e l = let t = seat_own w s k d e in
          t ∙ sym (front-any D (s.taken k) (i.front k).0 (i.front k).1 (goes_with ws T d) (short-any (goes_with ws T d) (s.taken k) (omega (arith, t, l)))).0

  module _ (rooms : ℕ) (z : AllSettled w s rooms) where
    heard_all : (k a : ℕ) → k < rooms → member a H ≡ true → member a (T k) ≡ true
    heard_all k a kN ha = elim (or_cases (any (sits w s k a) (s.taken k)) (s.installed k a) (z.everywhere k a kN ha)) [ inl t ↦ settled-heard w s i k a t | inr t ↦ i.installed_heard k a t ]

    settled-all : (k a : ℕ) → k < rooms → member a H ≡ true → s.installed k a ≡ false → any (sits w s k a) (s.taken k) ≡ true
    settled-all k a kN ha f = elim (or_cases (any (sits w s k a) (s.taken k)) (s.installed k a) (z.everywhere k a kN ha)) [ inl t ↦ t | inr t ↦ clash (s.installed k a) t f ]

    pub may_install : (k : ℕ) → k < rooms → any (λ c. not (s.installed k c)) s.released ≡ true → MayInstall w s k (next_install s k)
    may_install k kN some = record {
      elsewhere = away;
      heard = heard_all k c kN hc;
      new = new;
      released = lc;
      next = λ a bef _. least a bef;
      settled = taken;
      there = there';
      leading = λ d hd nd _ sh. elim (cases_Bool (sooner w s k d (ser c))) [
        | inr f ↦ f
        | inl t ↦
            clash (s.installed k d) (least d (i.release_order d c lc (sooner-install k d c taken hc away t) sh)) nd
      ];
    }
      where
        c : ℕ
        c = next_install s k

        lc : member c s.released ≡ true
        lc = found-member (λ c. not (s.installed k c)) s.released some

        hc : member c H ≡ true
        hc = released-placed w s i c lc

        new : s.installed k c ≡ false
        new = not-true (s.installed k c) (found_passes (λ c. not (s.installed k c)) s.released some)

        least : (a : ℕ) → before s.released a c ≡ true → s.installed k a ≡ true
        least a bef = not-false (s.installed k a) (found_least (λ c. not (s.installed k c)) s.released some a bef)

        away : ws.master c ≡ k → ⊥
        away e = both_ways (s.installed k c) new (rw e at (i.home_first c lc))

        there' : s.installed k (ser c) ≡ false
        there' = elim (cases_Bool (s.installed k (ser c))) [
          | inr f ↦ f
          | inl t ↦ elim (cases_eq c (ser c)) [
            | inl e ↦ clash (s.installed k (ser c)) t (rw e at new)
            | inr ne ↦ clash (s.installed k c) (i.closed k c (ser c) (serializer-after ws T D i.numbered_once c hc ne)
                (share_sym ws (ser c) c (with_shares ws T c (ser c) c (serializer_with ws T D i.numbered_once c hc) (right-share ws w.right c))) t) new
          ]
        ]

        taken : member (ser c) (s.taken k) ≡ true
        taken = any_other k (ser c) (λ e. away (sym (serializer-master ws T D i.numbered_once c hc) ∙ e)) (settled-all k (ser c) kN (serializer-placed ws T D i.numbered_once c hc) there')

    pub may_run : ((k a : ℕ) → k < rooms → member a s.released ≡ true → s.installed k a ≡ true) → any (λ b. not (member b s.released)) H ≡ true →
        MayRun w s (ws.master (next_run w s)) (next_run w s) × (s.marked (ws.master (next_run w s)) (next_run w s) ≡ true → MayRelease w s (ws.master (next_run w s)) (next_run w s))
    may_run all_in some = (
      record {
        home = refl;
        heard = heard_all m b (z.masters b) hb;
        new = new;
        leading = λ d hd nd sh. elim (cases_Bool (sooner w s m d b)) [
          | inr f ↦ f
          | inl t ↦
              clash (s.installed m d) (all_in m d (z.masters b) (least d (sooner-run m d b goes hb refl t))) nd
        ];
      },
      λ mk. record { marked = mk; settled = goes },
    )
      where
        b : ℕ
        b = next_run w s

        m : ℕ
        m = ws.master b

        hb : member b H ≡ true
        hb = found-member (λ b. not (member b s.released)) H some

        fresh : member b s.released ≡ false
        fresh = not-true (member b s.released) (found_passes (λ b. not (member b s.released)) H some)

        least : (c : ℕ) → before H c b ≡ true → member c s.released ≡ true
        least c bef = not-false (member c s.released) (found_least (λ b. not (member b s.released)) H some c bef)

        new : s.installed m b ≡ false
        new = elim (cases_Bool (s.installed m b)) [ inr f ↦ f | inl t ↦ clash (member b s.released) (i.installed_released m b t) fresh ]

        goes : any (goes_with ws T b) (s.taken m) ≡ true
        goes = any_same (goes_with ws T b) (sits w s m b) (s.taken m) (λ q _. sym (sits_own w s m b q refl)) ∙ settled-all m b (z.masters b) hb new
