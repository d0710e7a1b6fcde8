-- A quiet house is complete. Every posted batch is placed, since its master has settled it; so if some room lacked a
-- released batch, or some batch were not released, an install, a run or a release would be taken.
use Rattle.std.proofs.Common.{◌≡◌, ℕ, ◌<◌, ◌≤◌, Bool, true, false, not, ◌&&◌, ◌||◌, eqb, ltb, leb, List, [], ◌∷◌, ◌++◌, length, None, unwrap_or, sym, refl, ap, ◌∙◌, subst, inl, inr, arith}
use Rattle.std.proofs.lemmas.Bool.{cases_Bool, eqb-true, eq-eqb, ne_eqb, lt-ltb, le-ltb, ltb-false, ltb-true, lt-leb, leb-true, and_parts, and_from, or_cases, or_left, or_right, or_from, not-false, both_ways}
use Rattle.lists.specs.Words.{member, any, all, place, before}
use Rattle.lists.proofs.Members.{member-append, any-member, any_same, none_of}
use Rattle.lists.proofs.Keeps.{keep_same}
use Rattle.lists.proofs.Befores.{before_members}
use Rattle.lists.proofs.Fronts.{front-some}
use Rattle.refusals.specs.declared.refusal.Refusal.TheVariants.{OutOfRange, NothingWaits, UnknownBatch, NotMaster, AlreadyInstalled, AlreadyMarked, NotFirst, NotMarked, StillWaiting, NotItsTurn, TooFewSpare}
use Rattle.sets.specs.Sets.{size, sized}
use Rattle.plan.specs.Plan.{Plan, master_in, line_right, plan_right}
use Rattle.plan.specs.declared.line.PlanLine.{PlanLine}
use Rattle.wire.specs.Calls.{announcement_waits, next_announcement}
use Rattle.order.specs.Works.{Works, set_of, lies_within, master_of}
use Rattle.order.specs.Order.{goes_ahead, serial_run}
use Rattle.order.specs.Laws.{goes_with}
use Rattle.order.proofs.Runs.{sized_of}
use Rattle.order.proofs.Walks.{with_base, member-order, with_self}
use Rattle.order.proofs.Serializers.{serializer_with, serializer_entry}
use Rattle.agreement.specs.Rooms.{heard_here, is_marked, first_in_lines, first_before, too_few, turn_come, run_cause, release_cause, install_cause}
use Rattle.agreement.specs.Houses.{Given, House, works}
use Rattle.agreement.specs.Calls.{cause, run, release, install}
use Rattle.agreement.specs.Promises.{Quiet, Complete}
use Rattle.agreement.proofs.Pictures.{Scene, Picture, Invariant, order_of, sits, settled_of, waiting_of, serializer_of, MayRun, MayRelease, MayInstall}
use Rattle.agreement.proofs.Standing.{sits_own}
use Rattle.agreement.proofs.Growing.{released-placed}
use Rattle.agreement.proofs.Going.{AllSettled, next_install, next_run, may_install, may_run}
use Rattle.agreement.proofs.Causes.{pass, pass_not, room_pass}
use Rattle.agreement.proofs.Leads.{sooner-first, is_first-first}
use Rattle.agreement.proofs.Announced.{announced_by, announced-place, announced_at, announced-order}
use Rattle.agreement.proofs.Fits.{announcement, Fits, settled-sits, waiting-sits, heard-listed, announced-released, in_room-placed}
use Rattle.agreement.proofs.FitRelease.{settled-goes}
use Rattle.agreement.proofs.Pictured.{AllRight, scene_of}

-- every set's master is one of the rooms
pub master_low : (plan : Plan) → plan_right plan ≡ true → (set : ℕ) → master_of plan set < plan.rooms
master_low plan right set = go plan.lines (and_parts (leb 1 plan.rooms && leb plan.rooms 8) (all (line_right plan.rooms) plan.lines) right).1
  where
    some : 1 ≤ plan.rooms
    some = leb-true _ _ (and_parts (leb 1 plan.rooms) (leb plan.rooms 8) (and_parts (leb 1 plan.rooms && leb plan.rooms 8) (all (line_right plan.rooms) plan.lines) right).0).0

    go : (lines : List PlanLine) → all (line_right plan.rooms) lines ≡ true → unwrap_or (master_in lines set) 0 < plan.rooms
    go [] r = omega (arith, some)
    go (l ∷ ls) r = let z = and_parts (line_right plan.rooms l) (all (line_right plan.rooms) ls) r in
        elim (cases_Bool (eqb l.set set)) [ inl t ↦ rw t (ltb-true _ _ (and_parts (sized l.set) (ltb l.master plan.rooms) z.0).1) | inr f ↦ rw f (go ls z.1) ]

module _ (g : Given) (plan : plan_right g.plan ≡ true) (h : House) (hP : AllRight h.wire.posts) (s : Picture) (o : Fits g (scene_of g h hP) s h) (quiet : Quiet g h) where
  abbrev w : Scene
  w = scene_of g h hP

  abbrev ws : Works
  ws = works g h

  abbrev i : Invariant (scene_of g h hP) s
  i = o.inv

  abbrev H : List ℕ
  H = order_of (scene_of g h hP) s

  abbrev rooms : ℕ
  rooms = g.plan.rooms

  home : (b : ℕ) → ws.master b < rooms
  home b = master_low g.plan plan (set_of ws b)

  -- what the order places is posted
  placed-posted : (a : ℕ) → member a H ≡ true → a < length h.wire.posts
  placed-posted a m =
      let q : ℕ = serializer_of w s a in
      elim (or_cases (eqb a q) (goes_ahead ws s.heard a q) (serializer_with ws s.heard s.definitive i.numbered_once a m)) [
        | inl t ↦ o.wire.numbered_posted a (ap (member a) (sym o.wire.definitive_is) ∙ ap (λ v. member v s.definitive) (eqb-true a q t) ∙ serializer_entry ws s.heard s.definitive i.numbered_once a m)
        | inr t ↦ o.wire.heard_posted (ws.master q) a (ap (member a) (sym (o.wire.heard_is (ws.master q))) ∙
            (before_members a q (s.heard (ws.master q)) (and_parts (eqb (ws.master a) (ws.master q) && lies_within ws a q) (before (s.heard (ws.master q)) a q) t).1).0)
      ]

  -- what is posted is placed
  posted-placed : (a : ℕ) → a < length h.wire.posts → member a H ≡ true
  posted-placed a l =
      let n : ℕ = ws.master a in
      elim (or_cases (member a (h.room n).settled) (member a (h.room n).installed) (quiet.settled n a (home a) l)) [
        | inl t ↦ member-order ws s.heard s.definitive a ∙ front-some s.definitive (s.taken n) (i.front n).0 (i.front n).1 (goes_with ws s.heard a) (settled-goes g w s h o n a refl t)
        | inr t ↦ in_room-placed g w s h o n a t
      ]

  all_settled : AllSettled w s rooms
  all_settled = record {
    masters = home;
    everywhere = λ k a kN m. elim (or_cases (member a (h.room k).settled) (member a (h.room k).installed) (quiet.settled k a kN (placed-posted a m))) [
      | inl t ↦ or_left (any (sits w s k a) (s.taken k)) (s.installed k a) (and_parts (not (s.installed k a)) (any (sits w s k a) (s.taken k)) (sym (settled-sits w s i k (h.room k) (o.rooms k) a) ∙ t)).1
      | inr t ↦ or_right (any (sits w s k a) (s.taken k)) (s.installed k a) ((o.rooms k).installed_is a ∙ t)
    ];
  }

  enough : (k b : ℕ) → k < rooms → too_few ws (h.book k) b ≡ false
  enough k b kN = le-ltb _ _ (let z = quiet.spare k kN in let y = leb-true _ _ (and_parts (leb 1 (size (set_of ws b))) (leb (size (set_of ws b)) 8) (sized_of (ws.batch b) (w.right b))).1 in omega (arith, z, y))

  -- a room that lacks a released batch would install the next
  module _ (k : ℕ) (kN : k < rooms) (lacks : any (λ c. not (s.installed k c)) s.released ≡ true) where
    abbrev c : ℕ
    c = next_install s k

    abbrev m : ℕ
    m = ws.master (next_install s k)

    abbrev q : ℕ
    q = serializer_of (scene_of g h hP) s (next_install s k)

    abbrev j : ℕ
    j = place (next_install s k) (announced_by h.wire (ws.master (next_install s k)))

    abbrev got : ℕ
    got = h.wire.received k (ws.master (next_install s k))

    may : MayInstall w s k c
    may = may_install w s i rooms all_settled k kN lacks

    away : k ≡ m → ⊥
    away e = may.elsewhere (sym e)

    found : (j < length (h.wire.announced m)) × ((announcement h.wire m j).batch ≡ c)
    found = announced_at w s h.wire o.wire o.released_once m c refl may.released

    got_le : got ≤ j
    got_le = ltb-false j got (sym (o.wire.received_are k m j away found.0) ∙ ap (s.installed k) found.1 ∙ may.new)

    -- an earlier announcement that is not taken would be an earlier released batch that is not installed
    not_less : got < j → ⊥
    not_less l =
        let lg : got < length (h.wire.announced m) = omega (arith, l, found.0) in
        let a : ℕ = (announcement h.wire m got).batch in
        let y = announced-released w s h.wire o.wire m got lg in
        let pa : place a (announced_by h.wire m) ≡ got = announced-place w s h.wire o.wire o.released_once m got lg in
        let bef : ltb (place a s.released) (place c s.released) ≡ true =
        sym (announced-order w s h.wire o.wire o.released_once m a c y.1 refl y.0 may.released) ∙ lt-ltb (place a (announced_by h.wire m)) j (subst (λ n. n < j) (sym pa) l) in
        both_ways (s.installed k a) (o.wire.received_are k m got away lg ∙ le-ltb got got (omega arith)) (may.next a (and_from (ltb (place a s.released) (place c s.released)) (member c s.released) bef may.released) y.1)

    got_is : got ≡ j
    got_is = let u = got_le in let v = not_less in omega (arith, u, v)

    waits : got < length (h.wire.announced m)
    waits = let u = found.0 in let v = got_is in omega (arith, u, v)

    c_is : (next_announcement h.wire k m).batch ≡ c
    c_is = ap (λ n. (announcement h.wire m n).batch) got_is ∙ found.1

    q_is : (next_announcement h.wire k m).serializer ≡ q
    q_is = o.wire.serializers_are m got waits ∙ ap (serializer_of w s) c_is

    q-settled : member q (h.room k).settled ≡ true
    q-settled = settled-sits w s i k (h.room k) (o.rooms k) q ∙ and_from (not (s.installed k q)) (any (sits w s k q) (s.taken k)) (ap not may.there) (any-member (sits w s k q) q (s.taken k) self may.settled)
      where
        self : sits w s k q q ≡ true
        self = elim (cases_Bool (eqb (ws.master q) k)) [ inl t ↦ rw t (with_self ws s.heard q) | inr f ↦ rw f (eq-eqb q q refl) ]

    q-line : member q (settled_of w s k ++ waiting_of w s k) ≡ true
    q-line = member-append q (settled_of w s k) (waiting_of w s k) ∙ or_left (member q (settled_of w s k)) (member q (waiting_of w s k)) (ap (member q) (sym (o.rooms k).settled_is) ∙ q-settled)

    leading : first_before ws (h.room k) c q ≡ true
    leading = sooner-first w s i k (h.room k) (o.rooms k) c q q-line (λ x hx. with_base ws s.heard c q x (serializer_with ws s.heard s.definitive i.numbered_once c (released-placed w s i c may.released)) hx) may.leading

    come : (b e : ℕ) → b ≡ c → e ≡ q → ((eqb (ws.master b) m && (heard_here (h.room k) b && not (member b (h.room k).installed))) && (member e (h.room k).settled && first_before ws (h.room k) b e)) ≡ true
    come b e eb ee = rw (eb, ee) (and_from _ _
        (and_from _ _ (eq-eqb m m refl) (and_from _ _ (heard-listed w s i k (h.room k) (o.rooms k) c ∙ may.heard) (ap not (sym ((o.rooms k).installed_is c) ∙ may.new))))
        (and_from _ _ q-settled leading))

    install-taken : cause g h (install k m) ≡ None
    install-taken = room_pass g.plan k (install_cause rooms ws h.wire k (h.room k) (h.book k) m) kN
        (pass (leb rooms m || eqb m k) OutOfRange _ (or_from _ _ (lt-leb _ _ (home c)) (ne_eqb m k may.elsewhere))
        (pass_not (announcement_waits h.wire k m) NothingWaits _ (lt-ltb _ _ waits)
        (pass_not (turn_come ws (h.room k) m (next_announcement h.wire k m)) NotItsTurn _ (come (next_announcement h.wire k m).batch (next_announcement h.wire k m).serializer c_is q_is)
        (pass (too_few ws (h.book k) (next_announcement h.wire k m).batch) TooFewSpare None (enough k (next_announcement h.wire k m).batch kN) refl))))

  all-installed : (k a : ℕ) → k < rooms → member a s.released ≡ true → s.installed k a ≡ true
  all-installed k a kN m = elim (cases_Bool (any (λ c. not (s.installed k c)) s.released)) [
    | inl t ↦ absurd (quiet.no_install k (ws.master (next_install s k)) (install-taken k kN t))
    | inr f ↦ not-false (s.installed k a) (none_of (λ c. not (s.installed k c)) a s.released f m)
  ]

  -- if some batch is not released, the next would be run or released
  module _ (some : any (λ b. not (member b s.released)) H ≡ true) where
    abbrev b : ℕ
    b = next_run (scene_of g h hP) s

    abbrev n : ℕ
    n = ws.master (next_run (scene_of g h hP) s)

    mays : MayRun w s n b × (s.marked n b ≡ true → MayRelease w s n b)
    mays = may_run w s i rooms all_settled all-installed some

    heard : heard_here (h.room n) b ≡ true
    heard = heard-listed w s i n (h.room n) (o.rooms n) b ∙ mays.0.heard

    new : member b (h.room n).installed ≡ false
    new = sym ((o.rooms n).installed_is b) ∙ mays.0.new

    run-taken : is_marked (h.room n) b ≡ false → cause g h (run n b) ≡ None
    run-taken f = room_pass g.plan n (run_cause ws n (h.room n) b) (home b)
        (pass_not (heard_here (h.room n) b) UnknownBatch _ heard
        (pass_not (eqb (ws.master b) n) NotMaster _ (eq-eqb n n refl)
        (pass (member b (h.room n).installed) AlreadyInstalled _ new
        (pass (is_marked (h.room n) b) AlreadyMarked _ f
        (pass_not (first_in_lines ws (h.room n) b) NotFirst None (is_first-first w s i n (h.room n) (o.rooms n) b mays.0.heard mays.0.new mays.0.leading) refl)))))

    seated : is_marked (h.room n) b ≡ true → any (sits w s n b) (s.taken n) ≡ true
    seated t = any_same (sits w s n b) (goes_with ws s.heard b) (s.taken n) (λ v _. sits_own w s n b v refl) ∙ (mays.1 ((o.rooms n).marked_is b ∙ t)).settled

    not-waiting : is_marked (h.room n) b ≡ true → member b (h.room n).waiting ≡ false
    not-waiting t = waiting-sits w s i n (h.room n) (o.rooms n) b ∙ ap (λ a. (not (s.installed n b) && not a) && member b (s.heard n)) (seated t) ∙ out (s.installed n b) (member b (s.heard n))
      where
        out : (x y : Bool) → ((not x && false) && y) ≡ false
        out x y = grind arith

    release-taken : is_marked (h.room n) b ≡ true → cause g h (release n b) ≡ None
    release-taken t = room_pass g.plan n (release_cause ws n (h.room n) (h.book n) b) (home b)
        (pass_not (heard_here (h.room n) b) UnknownBatch _ heard
        (pass_not (eqb (ws.master b) n) NotMaster _ (eq-eqb n n refl)
        (pass (member b (h.room n).installed) AlreadyInstalled _ new
        (pass_not (is_marked (h.room n) b) NotMarked _ t
        (pass (member b (h.room n).waiting) StillWaiting _ (not-waiting t)
        (pass (too_few ws (h.book n) b) TooFewSpare None (enough n b (home b)) refl))))))

  all-released : (a : ℕ) → member a H ≡ true → member a s.released ≡ true
  all-released a m = elim (cases_Bool (any (λ b. not (member b s.released)) H)) [
    | inr f ↦ not-false (member a s.released) (none_of (λ b. not (member b s.released)) a H f m)
    | inl t ↦ elim (cases_Bool (is_marked (h.room (ws.master (next_run w s))) (next_run w s))) [
      | inl y ↦ absurd (quiet.no_release (ws.master (next_run w s)) (next_run w s) (release-taken t y))
      | inr z ↦ absurd (quiet.no_run (ws.master (next_run w s)) (next_run w s) (run-taken t z))
    ]
  ]

  pub complete : Complete g h
  complete = record {
    installed = λ k b kN l. sym ((o.rooms k).installed_is b) ∙ all-installed k b kN (all-released b (posted-placed b l));
    equal = λ k n x kN nN. sym (o.books k x) ∙ i.books k x ∙
        ap (λ l. serial_run ws l g.opening x) (keep_same (s.installed k) (s.installed n) H (λ a m. all-installed k a kN (all-released a m) ∙ sym (all-installed n a nN (all-released a m)))) ∙ sym (i.books n x) ∙ o.books n x;
  }
