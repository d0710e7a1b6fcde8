-- After settle the house fits its picture again: the lists move as the closed forms do, who moves gets q as serializer,
-- and the marks thrown are those that the picture throws.
use Rattle.std.proofs.Common.{◌≡◌, ℕ, ◌+◌, ◌<◌, Bool, true, false, cond, not, ◌&&◌, ◌||◌, eqb, ltb, List, [], ◌∷◌, ◌++◌, length, get_or, is_some, None, Option, sym, refl, ap, ◌∙◌, subst, inl, inr, arith}
use lib.Seq.{get_or-append_seam}
use Rattle.std.proofs.lemmas.List.{get_or_append_left, length_push}
use Rattle.std.proofs.lemmas.Bool.{cases_Bool, and_parts, or_cases, ltb-true}
use Rattle.lists.specs.Words.{member, any, keep, first, before}
use Rattle.lists.proofs.Members.{member-append, push_cases, any_same}
use Rattle.lists.proofs.Keeps.{member-keep}
use Rattle.lists.proofs.Places.{first-append, any-short}
use Rattle.lists.proofs.Fronts.{front-next}
use Rattle.lists.proofs.Updates.{updated-there, updated_each, updated-map, updated-same}
use Rattle.refusals.specs.declared.refusal.Refusal.TheVariants.{OutOfRange, NothingWaits}
use Rattle.batches.specs.declared.outcome.RunResult.{RunResult}
use Rattle.wire.specs.Calls.{next_entry, entry_waits, entry_cause, no_room}
use Rattle.order.specs.Works.{Works, set_of, has_base, lies_within, share}
use Rattle.order.specs.Order.{house_order}
use Rattle.order.specs.Laws.{goes_with}
use Rattle.agreement.specs.Rooms.{Room, is_marked, marked_result, gone_ahead, still_waiting, thrown, room_settled, room_settle}
use Rattle.agreement.specs.Houses.{Given, House, works}
use Rattle.agreement.specs.Calls.{cause, settle, after_settle}
use Rattle.agreement.specs.Promises.{own_heard}
use Rattle.agreement.proofs.Pictures.{Scene, Picture, Invariant, sits, seat, settled_of, waiting_of, mark_stays, picture_settle, MaySettle}
use Rattle.agreement.proofs.Puts.{clash}
use Rattle.agreement.proofs.Standing.{sits_own}
use Rattle.agreement.proofs.Lines.{member-waiting}
use Rattle.agreement.proofs.Settling.{taken_here, ahead_of, settled_same, waiting-same, settled_moves, waiting_moves, moves_sits}
use Rattle.agreement.proofs.KeepSettle.{mark-here, settle-keeps}
use Rattle.agreement.proofs.Causes.{passed, passed_not, room_passed}
use Rattle.agreement.proofs.Known as KnownSo
use Rattle.agreement.proofs.Fits.{unpacked, RoomFits, Fits, settled-sits, heard-known}

-- a mark taken off
pub marked_off : (c : Bool) (m : Option RunResult) → is_some (cond c None m) ≡ (not c && is_some m)
marked_off true m = refl
marked_off false m = refl

-- tests
mark-test : (m a sh wq st : Bool) → wq ≡ true → (m ≡ true → st ≡ not a) → (not ((sh && m) && st) && m) ≡ (m && ((a || not sh) || not wq))
mark-test m a sh wq st e k = grind arith

pass_test : (m a sh wq : Bool) → wq ≡ false → (m && ((a || not sh) || not wq)) ≡ m
pass_test m a sh wq e = grind arith

pub off_parts : (c m : Bool) → (not c && m) ≡ true → (c ≡ false) × (m ≡ true)
off_parts c m h = (grind arith, grind arith)

wait_parts : (i st m : Bool) → ((not i && not st) && m) ≡ true → ((not i && not st) ≡ true) × (m ≡ true) × (st ≡ false)
wait_parts i st m h = (grind arith, grind arith, grind arith)

stay_test : (i a m : Bool) → i ≡ false → m ≡ true → ((not i && not a) && m) ≡ not a
stay_test i a m e f = grind arith

module _ (g : Given) (w : Scene) (s : Picture) (h : House) (o : Fits g w s h) (k : ℕ) (c : cause g h (settle k) ≡ None) where
  abbrev ws : Works
  ws = w.works

  abbrev i : Invariant w s
  i = o.inv

  abbrev r : Room
  r = h.room k

  abbrev q : ℕ
  q = next_entry h.wire k

  abbrev W : List ℕ
  W = waiting_of w s k

  abbrev s' : Picture
  s' = picture_settle w s k q

  pub ready : (h.wire.taken k < length h.wire.definitive) × (member q (h.wire.tentative k) ≡ true)
  ready =
      let z = room_passed g.plan k (entry_cause h.wire k) c in
      let y = passed (no_room k) OutOfRange _ z.1 in
      let x = passed_not (entry_waits h.wire k) NothingWaits None y.1 in
      let u = and_parts (ltb (h.wire.taken k) (length h.wire.definitive)) (member q (h.wire.tentative k)) x.0 in
      (ltb-true _ _ u.0, u.1)

  pub may_settle : MaySettle s k q
  may_settle = let z = front-next s.definitive (s.taken k) (i.front k).0 (i.front k).1 (rw (o.wire.taken_is k, o.wire.definitive_is) ready.0) in
      record {
        rest = z.0;
        next = z.1 ∙ ap (λ j. s.taken k ++ j ∷ z.0) (ap (λ l. get_or l (length (s.taken k)) 0) o.wire.definitive_is ∙ ap (λ n. get_or h.wire.definitive n 0) (o.wire.taken_is k));
        heard = ap (member q) (o.wire.heard_is k) ∙ ready.1;
      }

  -- who was settled keeps its serializer
  serializer-old : (b : ℕ) → member b r.settled ≡ true → ws.master b ≡ k → r.serializer b ≡ get_or (s'.taken k) (seat w s' k b) 0
  serializer-old b m e =
      let a : any (sits w s k b) (s.taken k) ≡ true = (and_parts (not (s.installed k b)) (any (sits w s k b) (s.taken k)) (sym (settled-sits w s i k r (o.rooms k) b) ∙ m)).1 in
      let f : first (sits w s k b) (s.taken k ++ q ∷ []) ≡ first (sits w s k b) (s.taken k) = first-append (sits w s k b) (s.taken k) (q ∷ []) ∙ rw a in
      (o.rooms k).serializer_is b m e ∙
      sym (ap (λ l. get_or l (first (sits w s k b) l) 0) (taken_here w s k q) ∙ rw f (get_or_append_left (s.taken k) (q ∷ []) 0 (first (sits w s k b) (s.taken k)) (any-short (sits w s k b) (s.taken k) a)))

  other_room : (n : ℕ) → (n ≡ k → ⊥) → RoomFits w s' n (h.room n)
  other_room n ne = let z = o.rooms n in record {
    waiting_is = z.waiting_is ∙ ap (λ l. keep (λ a. not (s.installed n a) && not (any (sits w s n a) l)) (s.heard n)) (sym there);
    settled_is = z.settled_is ∙ ap (λ l. keep (λ a. not (s.installed n a)) (house_order ws (own_heard s.heard n) l)) (sym there);
    installed_is = z.installed_is;
    installed_once = z.installed_once;
    installed_order = z.installed_order;
    marked_is = λ b. ap (λ (f : ℕ → Bool). f b) (updated-there s.marked k (mark_stays w s k q) n ne) ∙ z.marked_is b;
    result_is = z.result_is;
    serializer_is = λ b m e. z.serializer_is b m e ∙ ap (λ l. get_or l (first (sits w s n b) l) 0) (sym there);
  }
    where
      there : s'.taken n ≡ s.taken n
      there = updated-there s.taken k (s.taken k ++ q ∷ []) n ne

  -- q waits no longer
  passed_by : member q r.waiting ≡ false → RoomFits w s' k r
  passed_by f = let z = o.rooms k in let gone : member q W ≡ false = ap (member q) (sym z.waiting_is) ∙ f in record {
    waiting_is = z.waiting_is ∙ sym (waiting-same w s i k q may_settle gone);
    settled_is = z.settled_is ∙ sym (settled_same w s i k q may_settle gone);
    installed_is = z.installed_is;
    installed_once = z.installed_once;
    installed_order = z.installed_order;
    marked_is = λ b. mark-here w s i k q may_settle b ∙ pass_test (s.marked k b) (any (goes_with ws s.heard b) (s.taken k ++ q ∷ [])) (share ws b q) (member q W) gone ∙ z.marked_is b;
    result_is = z.result_is;
    serializer_is = serializer-old;
  }

  -- q waits
  module _ (waits : member q r.waiting ≡ true) where
    waitsW : member q W ≡ true
    waitsW = ap (member q) (sym (o.rooms k).waiting_is) ∙ waits

    abbrev gone : List ℕ
    gone = gone_ahead w.works k (h.room k) (next_entry h.wire k)

    abbrev lost : List ℕ
    lost = thrown w.works k (h.room k) (next_entry h.wire k)

    moved_is : gone ++ q ∷ [] ≡ ahead_of w k W q ++ q ∷ []
    moved_is = ap (λ l. ahead_of w k l q ++ q ∷ []) (o.rooms k).waiting_is

    still_is : still_waiting ws k r q ≡ waiting_of w s' k
    still_is = ap (λ l. keep (λ a. not (member a l)) r.waiting) moved_is ∙ ap (keep (λ a. not (member a (ahead_of w k W q ++ q ∷ [])))) (o.rooms k).waiting_is ∙ sym (waiting_moves w s i k q may_settle waitsW)

    settled-new : r.settled ++ (gone ++ q ∷ []) ≡ settled_of w s' k
    settled-new = ap (λ l. l ++ (gone ++ q ∷ [])) (o.rooms k).settled_is ∙ ap (λ l. settled_of w s k ++ l) moved_is ∙ sym (settled_moves w s i k q may_settle waitsW)

    -- who moves has waited
    pub moved_waited : (b : ℕ) → member b (gone ++ q ∷ []) ≡ true → member b r.waiting ≡ true
    moved_waited b m = elim (push_cases b gone q m) [ inl e ↦ rw e waits | inr t ↦ from t ]
      where
        R : ℕ → Bool
        R a = (eqb (ws.master a) k && lies_within ws a q) && before r.waiting a q

        from : member b gone ≡ true → member b r.waiting ≡ true
        from u = elim (cases_Bool (eqb (ws.master q) k)) [
          | inl t ↦ (and_parts (R b) (member b r.waiting) (sym (member-keep R b r.waiting) ∙ rw t at u)).1
          | inr f ↦ clash false (rw f at u) refl
        ]

    serializer-moved : (b : ℕ) → member b (gone ++ q ∷ []) ≡ true → q ≡ get_or (s'.taken k) (seat w s' k b) 0
    serializer-moved b m =
        let z = wait_parts (s.installed k b) (any (sits w s k b) (s.taken k)) (member b (s.heard k)) (sym (member-waiting w s k b) ∙ ap (member b) (sym (o.rooms k).waiting_is) ∙ moved_waited b m) in
        let f : sits w s k b q ≡ true = sym (moves_sits w s i k q may_settle waitsW b z.1 z.0) ∙ ap (member b) (sym moved_is) ∙ m in
        let e : first (sits w s k b) (s.taken k ++ q ∷ []) ≡ length (s.taken k) = first-append (sits w s k b) (s.taken k) (q ∷ []) ∙ rw (z.2, f) (omega arith) in
        sym (ap (λ l. get_or l (first (sits w s k b) l) 0) (taken_here w s k q) ∙ rw e (get_or-append_seam (s.taken k) q [] 0))

    serializer-new : (b : ℕ) → member b (r.settled ++ (gone ++ q ∷ [])) ≡ true → ws.master b ≡ k → cond (member b (gone ++ q ∷ [])) q (r.serializer b) ≡ get_or (s'.taken k) (seat w s' k b) 0
    serializer-new b m e = elim (cases_Bool (member b (gone ++ q ∷ []))) [
      | inl t ↦ rw t (serializer-moved b t)
      | inr f ↦ rw f (elim (or_cases (member b r.settled) (member b (gone ++ q ∷ [])) (sym (member-append b r.settled (gone ++ q ∷ [])) ∙ m)) [
        | inl t ↦ serializer-old b t e
        | inr t ↦ clash (member b (gone ++ q ∷ [])) t f
      ])
    ]

    -- a marked batch still waits exactly if it goes with nothing taken
    still : (b : ℕ) → s.marked k b ≡ true → member b (waiting_of w s' k) ≡ not (any (goes_with ws s.heard b) (s.taken k ++ q ∷ []))
    still b m = let z = i.marks k b m in
        member-waiting w s' k b ∙ stay_test (s.installed k b) _ (member b (s.heard k)) z.2 z.1 ∙ ap (λ l. not (any (sits w s k b) l)) (taken_here w s k q) ∙
        ap not (any_same _ _ (s.taken k ++ q ∷ []) (λ v _. sits_own w s k b v z.0))

    lost_is : (b : ℕ) → member b lost ≡ ((share ws b q && s.marked k b) && member b (waiting_of w s' k))
    lost_is b = member-keep (λ a. share ws a q && is_marked r a) b (still_waiting ws k r q) ∙ ap (λ l. (share ws b q && is_marked r b) && member b l) still_is ∙
        ap (λ m. (share ws b q && m) && member b (waiting_of w s' k)) (sym ((o.rooms k).marked_is b))

    marked-new : (b : ℕ) → s'.marked k b ≡ is_some (cond (member b lost) None (r.mark b))
    marked-new b = mark-here w s i k q may_settle b ∙ sym (marked_off (member b lost) (r.mark b) ∙ ap (λ m. not (member b lost) && m) (sym ((o.rooms k).marked_is b)) ∙ ap (λ l. not l && s.marked k b) (lost_is b) ∙
        mark-test (s.marked k b) (any (goes_with ws s.heard b) (s.taken k ++ q ∷ [])) (share ws b q) (member q W) (member b (waiting_of w s' k)) waitsW (still b))

    result-new : (b x : ℕ) → is_some (cond (member b lost) None (r.mark b)) ≡ true → has_base ws b x ≡ true →
        unpacked (set_of ws b) (marked_result (room_settled ws k r q) b).amounts x ≡ s.result k b x
    result-new b x m hx = let z = off_parts (member b lost) (is_marked r b) (sym (marked_off (member b lost) (r.mark b)) ∙ m) in rw z.0 ((o.rooms k).result_is b x z.1 hx)

    moved : RoomFits w s' k (room_settled ws k r q)
    moved = let z = o.rooms k in record {
      waiting_is = still_is;
      settled_is = settled-new;
      installed_is = z.installed_is;
      installed_once = z.installed_once;
      installed_order = z.installed_order;
      marked_is = marked-new;
      result_is = result-new;
      serializer_is = serializer-new;
    }

  this_room : RoomFits w s' k (room_settle (works g h) k r q)
  this_room = elim (cases_Bool (member q r.waiting)) [
    | inl t ↦ subst (RoomFits w s' k) (sym (ap (λ c. cond c (room_settled (works g h) k r q) r) t ∙ KnownSo.settled_same (works g h) ws r (heard-known g w s h o k) k q t)) (moved t)
    | inr f ↦ subst (RoomFits w s' k) (sym (ap (λ c. cond c (room_settled (works g h) k r q) r) f)) (passed_by f)
  ]

  pub fits-settle : Fits g w (picture_settle w s k q) (after_settle g h k)
  fits-settle = record {
    inv = settle-keeps w s i k q may_settle;
    released_once = o.released_once;
    books = o.books;
    batches = o.batches;
    masters = o.masters;
    wire = let v = o.wire in record {
      definitive_is = v.definitive_is;
      heard_is = v.heard_is;
      taken_is = λ n. updated-map s.taken k (s.taken k ++ q ∷ []) length n ∙
          updated-same (λ m. length (s.taken m)) k (length (s.taken k ++ q ∷ [])) h.wire.taken (h.wire.taken k + 1) v.taken_is (length_push (s.taken k) q ∙ ap (λ m. m + 1) (v.taken_is k)) n;
      numbered_posted = v.numbered_posted;
      heard_posted = v.heard_posted;
      announced_are = v.announced_are;
      serializers_are = v.serializers_are;
      amounts_are = v.amounts_are;
      received_are = v.received_are;
      received_low = v.received_low;
    };
    rooms = updated_each h.room k (room_settle (works g h) k r q) (RoomFits w s') this_room other_room;
  }
