-- After install the house fits its picture again: the announcement was the sender's next, so the batch comes after all
-- that the sender had released before and all of these are installed here.
use Rattle.std.proofs.Common.{◌≡◌, ℕ, ◌+◌, ◌<◌, ◌≤◌, Bool, true, false, not, ◌&&◌, ◌||◌, eqb, ltb, leb, ◌++◌, length, None, sym, ap, ◌∙◌, subst, inl, inr, arith}
use Rattle.std.proofs.lemmas.Bool.{cases_eq, eqb-true, eqb-false, eq-eqb, and_parts, or_left, or_parts, not-true, ltb-true, lt-ltb}
use Rattle.lists.specs.Words.{member, any, place, before, updated}
use Rattle.lists.proofs.Members.{member-append}
use Rattle.lists.proofs.Keeps.{without_cases}
use Rattle.lists.proofs.Places.{any-short, short-member}
use Rattle.lists.proofs.Befores.{before_members, before_less}
use Rattle.lists.proofs.Distincts.{distinct_push}
use Rattle.lists.proofs.Updates.{updated-here, updated-there, updated_each}
use Rattle.refusals.specs.declared.refusal.Refusal.TheVariants.{OutOfRange, NothingWaits, NotItsTurn}
use Rattle.wire.specs.Calls.{announcement_waits, next_announcement, with_received}
use Rattle.wire.specs.declared.announcement.Announcement.{Announcement}
use Rattle.order.specs.Works.{Works}
use Rattle.order.proofs.Serializers.{serializer-master}
use Rattle.agreement.specs.Rooms.{Room, heard_here, first_before, turn_come, room_install, install_cause}
use Rattle.agreement.specs.Houses.{Given, House, works}
use Rattle.agreement.specs.Calls.{cause, install, after_install}
use Rattle.agreement.proofs.Pictures.{Scene, Picture, Invariant, sits, sooner, put, settled_of, waiting_of, serializer_of, picture_install, MayInstall}
use Rattle.agreement.proofs.Puts.{put-here, put-there, put_other}
use Rattle.agreement.proofs.Standing.{seat_other}
use Rattle.agreement.proofs.Growing.{released-placed}
use Rattle.agreement.proofs.KeepInstall.{install-keeps, install-front}
use Rattle.agreement.proofs.Causes.{passed, passed_not, room_passed}
use Rattle.agreement.proofs.Known.{install_cause-same}
use Rattle.agreement.proofs.Leads.{first-sooner}
use Rattle.agreement.proofs.Announced.{announced_by, announced-place, announced_at, announced-order}
use Rattle.agreement.proofs.Fits.{announcement, RoomFits, Fits, settled-sits, heard-listed, announced-released, heard-known}
use Rattle.agreement.proofs.FitInstalled.{installed-new, order-new, settled-new, waiting-new, waiting_other, settled_other, books-new}

one_later : (j n : ℕ) (e : Bool) → (e ≡ true → j ≡ n) → (j ≡ n → e ≡ true) → (ltb j n || e) ≡ ltb j (n + 1)
one_later j n e f k = grind arith

module _ (g : Given) (w : Scene) (s : Picture) (h : House) (o : Fits g w s h) (k m : ℕ) (c : cause g h (install k m) ≡ None) where
  abbrev ws : Works
  ws = w.works

  abbrev i : Invariant w s
  i = o.inv

  abbrev r : Room
  r = h.room k

  abbrev ann : Announcement
  ann = next_announcement h.wire k m

  abbrev b : ℕ
  b = (next_announcement h.wire k m).batch

  abbrev q : ℕ
  q = (next_announcement h.wire k m).serializer

  abbrev s' : Picture
  s' = picture_install w s k b

  abbrev got : ℕ
  got = h.wire.received k m

  checks : (m ≡ k → ⊥) × (got < length (h.wire.announced m)) × (turn_come ws r m ann ≡ true)
  checks =
      let c0 = room_passed g.plan k (install_cause g.plan.rooms (works g h) h.wire k r (h.book k) m) c in
      let c1 = passed (leb g.plan.rooms m || eqb m k) OutOfRange _ (sym (install_cause-same (works g h) ws r (heard-known g w s h o k) g.plan.rooms h.wire k (h.book k) m) ∙ c0.1) in
      let c2 = passed_not (announcement_waits h.wire k m) NothingWaits _ c1.1 in
      let c3 = passed_not (turn_come ws r m ann) NotItsTurn _ c2.1 in
      (eqb-false m k (or_parts (leb g.plan.rooms m) (eqb m k) c1.0).1, ltb-true _ _ c2.0, c3.0)

  away : m ≡ k → ⊥
  away = checks.0

  waits : got < length (h.wire.announced m)
  waits = checks.1

  come : (heard_here r b ≡ true) × (member b r.installed ≡ false) × (member q r.settled ≡ true) × (first_before ws r b q ≡ true)
  come =
      let z = and_parts (eqb (ws.master b) m && (heard_here r b && not (member b r.installed))) (member q r.settled && first_before ws r b q) checks.2 in
      let y = and_parts (heard_here r b) (not (member b r.installed)) (and_parts (eqb (ws.master b) m) (heard_here r b && not (member b r.installed)) z.0).1 in
      let x = and_parts (member q r.settled) (first_before ws r b q) z.1 in
      (y.0, not-true (member b r.installed) y.1, x.0, x.1)

  b-released : (member b s.released ≡ true) × (ws.master b ≡ m)
  b-released = announced-released w s h.wire o.wire m got waits

  q_is : q ≡ serializer_of w s b
  q_is = o.wire.serializers_are m got waits

  hb : member b (s.heard k) ≡ true
  hb = sym (heard-listed w s i k r (o.rooms k) b) ∙ come.0

  q-master : ws.master q ≡ m
  q-master = ap ws.master q_is ∙ serializer-master ws s.heard s.definitive i.numbered_once b (released-placed w s i b b-released.0) ∙ b-released.1

  q-settled : (not (s.installed k q) ≡ true) × (any (sits w s k q) (s.taken k) ≡ true)
  q-settled = and_parts (not (s.installed k q)) (any (sits w s k q) (s.taken k)) (sym (settled-sits w s i k r (o.rooms k) q) ∙ come.2)

  q-taken : member q (s.taken k) ≡ true
  q-taken = short-member q (s.taken k) (let z = any-short (sits w s k q) (s.taken k) q-settled.1 in let e = seat_other w s k q (λ e. away (sym q-master ∙ e)) in omega (arith, z, e))

  q-line : member q (settled_of w s k ++ waiting_of w s k) ≡ true
  q-line = member-append q (settled_of w s k) (waiting_of w s k) ∙ or_left (member q (settled_of w s k)) (member q (waiting_of w s k)) (ap (member q) (sym (o.rooms k).settled_is) ∙ come.2)

  -- what the sender released before b is installed here
  before-b : (a : ℕ) → before s.released a b ≡ true → ws.master a ≡ ws.master b → s.installed k a ≡ true
  before-b a bef e =
      let ea : ws.master a ≡ m = e ∙ b-released.1 in
      let z = before_members a b s.released bef in
      let y = announced_at w s h.wire o.wire o.released_once m a ea z.0 in
      let lt : place a (announced_by h.wire m) < got = subst (λ n. place a (announced_by h.wire m) < n) (announced-place w s h.wire o.wire o.released_once m got waits)
      (ltb-true _ _ (announced-order w s h.wire o.wire o.released_once m a b ea b-released.1 z.0 z.1 ∙ lt-ltb _ _ (before_less a b s.released bef))) in
      subst (λ v. s.installed k v ≡ true) y.1 (o.wire.received_are k m (place a (announced_by h.wire m)) (λ v. away (sym v)) y.0 ∙ lt-ltb _ _ lt)

  pub may_install : MayInstall w s k b
  may_install = record {
    elsewhere = λ e. away (sym b-released.1 ∙ e);
    heard = hb;
    new = (o.rooms k).installed_is b ∙ come.1;
    released = b-released.0;
    next = before-b;
    settled = subst (λ v. member v (s.taken k) ≡ true) q_is q-taken;
    there = subst (λ v. s.installed k v ≡ false) q_is (not-true (s.installed k q) q-settled.0);
    leading = λ d hd nd ne sh. subst (λ v. sooner w s k d v ≡ false) q_is (first-sooner w s i k r (o.rooms k) b q q-line come.3 d hd nd ne sh);
  }

  abbrev received' : ℕ → ℕ → ℕ
  received' = (with_received h.wire k m).received

  received-here : received' k m ≡ got + 1
  received-here = ap (λ (f : ℕ → ℕ). f m) (updated-here h.wire.received k (updated (h.wire.received k) m (got + 1))) ∙ updated-here (h.wire.received k) m (got + 1)

  received-there : (n z : ℕ) → (n ≡ k → z ≡ m → ⊥) → received' n z ≡ h.wire.received n z
  received-there n z ne = elim (cases_eq n k) [
    | inl e ↦ rw e (ap (λ (f : ℕ → ℕ). f z) (updated-here h.wire.received k (updated (h.wire.received k) m (got + 1))) ∙ updated-there (h.wire.received k) m (got + 1) z (ne e))
    | inr nk ↦ ap (λ (f : ℕ → ℕ). f z) (updated-there h.wire.received k (updated (h.wire.received k) m (got + 1)) n nk)
  ]

  received_this : (j : ℕ) → j < length (h.wire.announced m) → put s.installed k b true k (announcement h.wire m j).batch ≡ ltb j (received' k m)
  received_this j l =
      let a : ℕ = (announcement h.wire m j).batch in
      put-here s.installed k b a ∙ ap (λ x. x || eqb a b) (o.wire.received_are k m j (λ v. away (sym v)) l) ∙
      one_later j got (eqb a b)
      (λ t. sym (announced-place w s h.wire o.wire o.released_once m j l) ∙ ap (λ v. place v (announced_by h.wire m)) (eqb-true a b t) ∙ announced-place w s h.wire o.wire o.released_once m got waits)
      (λ e. eq-eqb a b (ap (λ n. (announcement h.wire m n).batch) e)) ∙ ap (ltb j) (sym received-here)

  received-new : (n z j : ℕ) → (n ≡ z → ⊥) → j < length (h.wire.announced z) → put s.installed k b true n (announcement h.wire z j).batch ≡ ltb j (received' n z)
  received-new n z j nz l = elim (cases_eq z m) [
    | inl ez ↦ elim (cases_eq n k) [
      | inl en ↦ subst (λ v. put s.installed k b true v (announcement h.wire z j).batch ≡ ltb j (received' v z)) (sym en)
          (subst (λ v. j < length (h.wire.announced v) → put s.installed k b true k (announcement h.wire v j).batch ≡ ltb j (received' k v)) (sym ez) (received_this j) l)
      | inr nk ↦ put-there s.installed k b n _ nk ∙ o.wire.received_are n z j nz l ∙ ap (ltb j) (sym (received-there n z (λ e _. nk e)))
    ]
    | inr nm ↦ put_other s.installed k b n _ (λ _ e. nm (sym (announced-released w s h.wire o.wire z j l).1 ∙ ap ws.master e ∙ b-released.1)) ∙
        o.wire.received_are n z j nz l ∙ ap (ltb j) (sym (received-there n z (λ _ e. nm e)))
  ]

  low_new : (n z : ℕ) → received' n z ≤ length (h.wire.announced z)
  low_new n z = elim (cases_eq n k) [
    | inl en ↦ elim (cases_eq z m) [
      | inl ez ↦ rw (en, ez) (let e = received-here in let l = waits in omega (arith, e, l))
      | inr nz ↦ let e = received-there n z (λ _ e. nz e) in let l = o.wire.received_low n z in omega (arith, e, l)
    ]
    | inr nk ↦ let e = received-there n z (λ e _. nk e) in let l = o.wire.received_low n z in omega (arith, e, l)
  ]

  other_room : (n : ℕ) → (n ≡ k → ⊥) → RoomFits w s' n (h.room n)
  other_room n ne = let z = o.rooms n in record {
    waiting_is = waiting_other w s n (h.room n) z k b ne;
    settled_is = settled_other w s n (h.room n) z k b ne;
    installed_is = λ a. put-there s.installed k b n a ne ∙ z.installed_is a;
    installed_once = z.installed_once;
    installed_order = z.installed_order;
    marked_is = z.marked_is;
    result_is = z.result_is;
    serializer_is = z.serializer_is;
  }

  this_room : RoomFits w s' k (room_install r b)
  this_room = let z = o.rooms k in record {
    waiting_is = waiting-new w s k r z b;
    settled_is = settled-new w s k r z b;
    installed_is = installed-new w s k r z b;
    installed_once = distinct_push r.installed b z.installed_once come.1;
    installed_order = order-new w s k r z b come.1 (install-front w s i k b may_install);
    marked_is = z.marked_is;
    result_is = z.result_is;
    serializer_is = λ a y e. z.serializer_is a (without_cases a b r.settled y).1 e;
  }

  pub fits-install : (left : ℕ) → Fits g w (picture_install w s k b) (after_install g h k m left)
  fits-install left = record {
    inv = install-keeps w s i k b may_install;
    released_once = o.released_once;
    batches = o.batches;
    masters = o.masters;
    wire = let v = o.wire in record {
      definitive_is = v.definitive_is;
      heard_is = v.heard_is;
      taken_is = v.taken_is;
      numbered_posted = v.numbered_posted;
      heard_posted = v.heard_posted;
      announced_are = v.announced_are;
      serializers_are = v.serializers_are;
      amounts_are = v.amounts_are;
      received_are = received-new;
      received_low = low_new;
    };
    rooms = updated_each h.room k (room_install r b) (RoomFits w s') this_room other_room;
    books = books-new g w s h o k b hb (s.announced b) ann.result.amounts left (λ x hx. o.wire.amounts_are m got x waits hx);
  }
