-- What a room's call comes to in its house. Taken, it is the house's call, since the room has the call's number and is the one
-- that the house has there; refused, it has the house's cause: what a room alone cannot rule out, that it has heard 256
-- batches and one is left, or that the wire is against an announcement, no performed list of calls leads to.
use Rattle.std.proofs.Common.{◌≡◌, ℕ, ◌<◌, Bool, true, false, cond, List, get_or, IfErr, Some, None, Ok, Err, vec_items, Option, Result, sym, refl, ap, ◌∙◌, subst, arith}
use Rattle.std.specs.Vec.{with_item}
use Rattle.std.proofs.lemmas.Bool.{le-ltb}
use Rattle.refusals.specs.declared.refusal.Refusal.{Refusal}
use Rattle.refusals.specs.declared.refusal.Refusal.TheVariants.{NothingWaits}
use Rattle.sets.specs.Sets.{size}
use Rattle.stock.specs.Stock.{Stock, Spends}
use Rattle.batches.specs.declared.outcome.Outcome.{Outcome}
use Rattle.plan.specs.Plan.{Plan}
use Rattle.plan.specs.Plans.{plan_of}
use Rattle.wire.specs.Wire.{Wire}
use Rattle.wire.specs.Calls.{with_heard, with_taken, with_announced, with_received, next_entry, next_announcement, no_room, all_there, hear_cause, entry_cause, announce_cause, Chosen}
use Rattle.order.specs.Works.{Works, works_of, set_of}
use Rattle.agreement.specs.Rooms.{Room, room_hear, room_settle, ahead_count, thrown_count, result_of, room_run, run_cause, marked_result, announcement_of, room_release, book_written, release_cause, room_install, install_cause, Picks}
use Rattle.agreement.specs.Houses.{Given, House, works}
use Rattle.agreement.specs.Calls.{Call, hear, settle, run, release, install, pick, Answer, batch, refused, settled, ran, picked, at_room, cause, with_room, with_book, arriving, Answers, hears, settles, runs, releases, installs, picks}
use Rattle.agreement.proofs.Kept.{promise-kept}
use Rattle.rooms.specs.Views as rooms
use Rattle.rooms.specs.Views.{room_of}
use Rattle.rooms.specs.Calls.{or_else, full, Hearing, Settling, Running, Releasing, Installing}
use Rattle.rooms.specs.declared.room.Room.{Room as CodeRoom}
use Rattle.house.specs.Numbers.{room_number}
use Rattle.house.specs.declared.house.House.{House as CodeHouse}
use Rattle.house.specs.Views.{Parts, parts_of, view, Held, Step, Steps, answered, as_batch, as_settled, as_ran, as_done}
use Rattle.house.proofs.Fulls.{all-heard}
use Rattle.house.proofs.Places as places
use Rattle.house.proofs.Steps as steps
use Rattle.house.proofs.Steps.{one_more, refused_step, room-cause}

-- one check after the other: none where neither has a cause
or_none : (first next : Option Refusal) → or_else first next ≡ None → (first ≡ None) × (next ≡ None)
or_none None next e = (refl, e)
or_none (Some x) next e = let z : ◌≡◌ {A = ℕ} 0 1 = cc in absurd (omega arith)

-- and the first has it, where the next has none unless the first has
or_first : (first next : Option Refusal) (e : Refusal) → or_else first next ≡ Some e → (first ≡ None → next ≡ None) → first ≡ Some e
or_first None next e o h = let n = h refl in let z : ◌≡◌ {A = ℕ} 0 1 = cc in absurd (omega arith)
or_first (Some x) next e o h = o

-- or the next has it, where it has the cause that the first would have
or_next : (test : Bool) (x : Refusal) (next : Option Refusal) (e : Refusal) → or_else (cond test (Some x) None) next ≡ Some e → (test ≡ true → next ≡ Some x) → next ≡ Some e
or_next true x next e o h = h refl ∙ o
or_next false x next e o h = o

module _ {W B : Type 0} (meaning : W → Wire) (holds : B → Stock) (h : CodeHouse W B) (k : ℕ) (low : k < (plan_of h.plan).rooms) (r : CodeRoom) (is : r ≡ get_or (vec_items h.rooms) k r) where
  abbrev p : Parts
  p = parts_of meaning holds h

  abbrev w : Wire
  w = meaning h.wire

  abbrev moved : W → CodeRoom → Parts
  moved = places.moved meaning holds h k low r is

  back : (q : CodeHouse W B) (s : CodeRoom) → q.plan ≡ h.plan → q.wire ≡ h.wire → q.rooms ≡ with_item h.rooms k s → q.books ≡ h.books → s ≡ r → q ≡ h
  back = places.back meaning holds h k low r is

  N : room_number r ≡ k
  N = places.number_is meaning holds h k low r is

  R : (g : Given) → room_of r ≡ (view g p).room k
  R = places.room_is meaning holds h k low r is

  moved_is : (g : Given) (v : W) (s : CodeRoom) → view g (moved v s) ≡ with_room (view g p) (meaning v) k (room_of s)
  moved_is = places.moved_is meaning holds h k low r is

  module _ {g : Given} {calls : List (Call × Answer)} (held : Held g calls p) where
    in_plan : k < g.plan.rooms
    in_plan = steps.in_plan held k low

    abbrev works_is : rooms.works h.plan w ≡ works g (view g p)
    works_is = ap (λ (P : Plan). works_of P w.posts) held.plan

    inside : {why : Option Refusal} → why ≡ None → at_room g.plan k why ≡ None
    inside {why} c = room-cause g.plan k why in_plan ∙ c

    inside_too : {why : Option Refusal} {e : Refusal} → why ≡ Some e → at_room g.plan k why ≡ Some e
    inside_too {why} {e} c = room-cause g.plan k why in_plan ∙ c

    goes : {call : Call} {answer : Answer} (v : W) (s : CodeRoom) {w' : Wire} {r' : Room} → meaning v ≡ w' → room_of s ≡ r' → Answers g (view g p) call answer (with_room (view g p) w' k r') → Step g calls p call answer (moved v s)
    goes {call} {answer} v s W' R' a = one_more held (moved v s) refl (subst (λ (H : House). Answers g (view g p) call answer H) (sym (moved_is g v s ∙ (λ i. with_room (view g p) (W' i) k (R' i)))) a)

  stays : {call : Call} {e : Refusal} (v : W) (s : CodeRoom) → v ≡ h.wire → s ≡ r → ((g : Given) (calls : List (Call × Answer)) → Held g calls p → cause g (view g p) call ≡ Some e) → Steps p call (refused e) (moved v s)
  stays {call} {e} v s V S why = subst (λ (q : Parts). Steps p call (refused e) q) (sym ((λ i. moved (V i) (S i)) ∙ places.moved_back meaning holds h k low r is)) (λ g calls held. refused_step held e (why g calls held))

  -- Hear.

  pub hear-number : (s : CodeRoom) (v : W) (a : Result ℕ Refusal) → Hearing meaning r s h.wire v a → room_number s ≡ room_number r
  hear-number s v (Ok b) t = t.number
  hear-number s v (Err e) t = ap room_number t.room

  pub hear-steps : (s : CodeRoom) (v : W) (a : Result ℕ Refusal) → Hearing meaning r s h.wire v a → Steps p (hear k) (answered as_batch a) (moved v s)
  hear-steps s v (Ok b) t = λ g calls held. goes held v s (t.wire ∙ (λ i. with_heard w (N i) b)) (t.room ∙ (λ i. room_hear (R g i) b))
      (hears (inside held ((λ i. hear_cause w (sym N i)) ∙ (or_none _ _ t.taken).1)) (subst (λ n. Chosen w (w.tentative n) b) N t.chosen))
  hear-steps s v (Err e) t = stays v s t.wire t.room (λ g calls held. inside_too held
      ((λ i. hear_cause w (sym N i)) ∙ or_next (full (room_of r)) NothingWaits _ e t.why (λ f. (λ i. hear_cause w (N i)) ∙ nothing (all-heard g calls (view g p) held.performed k ((λ i. full (sym (R g) i)) ∙ f)))))
    where
      nothing : all_there w (w.tentative k) ≡ true → hear_cause w k ≡ Some NothingWaits
      nothing t = let f : no_room k ≡ false = le-ltb 7 k (omega (arith, r.eight, N)) in rw (f, t)

  pub hear-same : (s : CodeRoom) (v : W) (a : Result ℕ Refusal) → Hearing meaning r s h.wire v a → (q : CodeHouse W B) → q.plan ≡ h.plan → q.wire ≡ v → q.rooms ≡ with_item h.rooms k s → q.books ≡ h.books → IfErr a (λ _. q ≡ h)
  hear-same s v (Ok b) t q P V X Y = tt
  hear-same s v (Err e) t q P V X Y = back q s P (V ∙ t.wire) X Y t.room

  -- Settle.

  pub settle-number : (s : CodeRoom) (v : W) (a : Result (ℕ × ℕ × ℕ) Refusal) → Settling meaning h.plan r s h.wire v a → room_number s ≡ room_number r
  settle-number s v (Ok a) t = t.number
  settle-number s v (Err e) t = ap room_number t.room

  pub settle-steps : (s : CodeRoom) (v : W) (a : Result (ℕ × ℕ × ℕ) Refusal) → Settling meaning h.plan r s h.wire v a → Steps p (settle k) (answered as_settled a) (moved v s)
  settle-steps s v (Ok a) t = λ g calls held.
      let K : next_entry w (room_number r) ≡ next_entry w k = λ i. next_entry w (N i) in
      let X = works_is held in
      let A : as_settled a ≡ settled (next_entry w k) (ahead_count (works g (view g p)) k ((view g p).room k) (next_entry w k)) (thrown_count (works g (view g p)) k ((view g p).room k) (next_entry w k)) =
      λ i. settled ((t.batch ∙ K) i) ((t.ahead ∙ (λ j. ahead_count (X j) (N j) (R g j) (K j))) i) ((t.thrown ∙ (λ j. thrown_count (X j) (N j) (R g j) (K j))) i) in
      subst (λ (y : Answer). Step g calls p (settle k) y (moved v s)) (sym A)
      (goes held v s (t.wire ∙ (λ i. with_taken w (N i))) (t.room ∙ (λ i. room_settle (X i) (N i) (R g i) (K i))) (settles (inside held ((λ i. entry_cause w (sym N i)) ∙ t.taken))))
  settle-steps s v (Err e) t = stays v s t.wire t.room (λ g calls held. inside_too held ((λ i. entry_cause w (sym N i)) ∙ t.why))

  pub settle-same : (s : CodeRoom) (v : W) (a : Result (ℕ × ℕ × ℕ) Refusal) → Settling meaning h.plan r s h.wire v a → (q : CodeHouse W B) → q.plan ≡ h.plan → q.wire ≡ v → q.rooms ≡ with_item h.rooms k s → q.books ≡ h.books → IfErr a (λ _. q ≡ h)
  settle-same s v (Ok a) t q P V X Y = tt
  settle-same s v (Err e) t q P V X Y = back q s P (V ∙ t.wire) X Y t.room

  -- Pick.

  pub pick-steps : (o : Option ℕ) → Picks (rooms.works h.plan w) (room_number r) (room_of r) o → Steps p (pick k) (picked o) p
  pick-steps o t = λ g calls held. one_more held p refl (picks (inside held refl)
      (subst (λ (x : Works × ℕ × Room). Picks x.0 x.1 x.2 o) (λ i. (works_is held i, N i, R g i)) t))

  module _ (m : B) (at : m ≡ get_or (vec_items h.books) k m) where
    abbrev written : W → CodeRoom → B → Parts
    written = places.written meaning holds h k low r is m at

    back_too : (q : CodeHouse W B) (s : CodeRoom) (n : B) → q.plan ≡ h.plan → q.wire ≡ h.wire → q.rooms ≡ with_item h.rooms k s → q.books ≡ with_item h.books k n → s ≡ r → n ≡ m → q ≡ h
    back_too = places.back_too meaning holds h k low r is m at

    S : (g : Given) → holds m ≡ (view g p).book k
    S = places.book_is meaning holds h k low m at

    -- Run.

    pub run-number : (s : CodeRoom) (b : ℕ) (a : Result (Outcome × ℕ) Refusal) → Running meaning holds h.plan r s h.wire m b a → room_number s ≡ room_number r
    run-number s b (Ok a) t = t.number
    run-number s b (Err e) t = ap room_number t.room

    pub run-steps : (s : CodeRoom) (b : ℕ) (a : Result (Outcome × ℕ) Refusal) → Running meaning holds h.plan r s h.wire m b a → Steps p (run k b) (answered as_ran a) (moved h.wire s)
    run-steps s b (Ok a) t = λ g calls held.
        let X = works_is held in
        let A : as_ran a ≡ ran (result_of ((works g (view g p)).batch b) ((view g p).book k).amounts).outcome (result_of ((works g (view g p)).batch b) ((view g p).book k).amounts).step =
        λ i. ran ((t.outcome ∙ (λ j. (result_of ((X j).batch b) (S g j).amounts).outcome)) i) ((t.step ∙ (λ j. (result_of ((X j).batch b) (S g j).amounts).step)) i) in
        subst (λ (y : Answer). Step g calls p (run k b) y (moved h.wire s)) (sym A)
        (goes held h.wire s refl (t.room ∙ (λ i. room_run (X i) (R g i) (S g i) b)) (runs (inside held (sym (λ i. run_cause (X i) (N i) (R g i) b) ∙ t.taken))))
    run-steps s b (Err e) t = stays h.wire s refl t.room (λ g calls held. inside_too held (sym (λ i. run_cause (works_is held i) (N i) (R g i) b) ∙ t.why))

    pub run-same : (s : CodeRoom) (b : ℕ) (a : Result (Outcome × ℕ) Refusal) → Running meaning holds h.plan r s h.wire m b a → (q : CodeHouse W B) → q.plan ≡ h.plan → q.wire ≡ h.wire → q.rooms ≡ with_item h.rooms k s → q.books ≡ h.books → IfErr a (λ _. q ≡ h)
    run-same s b (Ok a) t q P V X Y = tt
    run-same s b (Err e) t q P V X Y = back q s P V X Y t.room

    writes : {g : Given} {calls : List (Call × Answer)} (held : Held g calls p) {call : Call} {answer : Answer} (v : W) (s : CodeRoom) (n : B) {w' : Wire} {r' : Room} {s' : Stock} → meaning v ≡ w' → room_of s ≡ r' → holds n ≡ s' →
        Answers g (view g p) call answer (with_book (view g p) w' k r' s') → Step g calls p call answer (written v s n)
    writes {g} {calls} held {call} {answer} v s n W' R' S' a = one_more held (written v s n) refl
        (subst (λ (H : House). Answers g (view g p) call answer H) (sym (places.written_is meaning holds h k low r is m at g v s n ∙ (λ i. with_book (view g p) (W' i) k (R' i) (S' i)))) a)

    stays_too : {call : Call} {e : Refusal} (v : W) (s : CodeRoom) (n : B) → v ≡ h.wire → s ≡ r → n ≡ m → ((g : Given) (calls : List (Call × Answer)) → Held g calls p → cause g (view g p) call ≡ Some e) → Steps p call (refused e) (written v s n)
    stays_too {call} {e} v s n V S M why = subst (λ (q : Parts). Steps p call (refused e) q) (sym ((λ i. written (V i) (S i) (M i)) ∙ places.written_back meaning holds h k low r is m at)) (λ g calls held. refused_step held e (why g calls held))

    -- Release.

    pub release-number : (s : CodeRoom) (v : W) (n : B) (b : ℕ) (a : Result (Unit {0}) Refusal) → Releasing meaning holds h.plan r s h.wire v m n b a → room_number s ≡ room_number r
    release-number s v n b (Ok _) t = t.number
    release-number s v n b (Err e) t = ap room_number t.room

    pub release-steps : (s : CodeRoom) (v : W) (n : B) (b : ℕ) (a : Result (Unit {0}) Refusal) → Releasing meaning holds h.plan r s h.wire v m n b a → Steps p (release k b) (answered as_done a) (written v s n)
    release-steps s v n b (Ok _) t = λ g calls held.
        let X = works_is held in
        writes held v s n (t.wire ∙ (λ i. with_announced w (N i) (announcement_of (R g i) b))) (t.room ∙ (λ i. room_release (R g i) b))
        (t.book ∙ (λ i. book_written (set_of (X i) b) (marked_result (R g i) b).amounts (holds n).spare (S g i)))
        (releases (inside held (sym (λ i. release_cause (X i) (N i) (R g i) (S g i) b) ∙ (or_none _ _ t.taken).0))
        (subst (λ (x : Works × Stock). Spends (size (set_of x.0 b)) x.1.spare (holds n).spare) (λ i. (X i, S g i)) t.spare))
    release-steps s v n b (Err e) t = stays_too v s n t.wire t.room t.book (λ g calls held.
        let C : release_cause (rooms.works h.plan w) (room_number r) (room_of r) (holds m) b ≡ release_cause (works g (view g p)) k ((view g p).room k) ((view g p).book k) b =
        λ i. release_cause (works_is held i) (N i) (R g i) (S g i) b in
        inside_too held (sym C ∙ or_first _ _ e t.why
        (λ o. (λ i. announce_cause w (N i) (announcement_of (R g i) b)) ∙ (promise-kept g calls (view g p) held.performed).parts.announces k b (inside held (sym C ∙ o)))))

    pub release-same : (s : CodeRoom) (v : W) (n : B) (b : ℕ) (a : Result (Unit {0}) Refusal) → Releasing meaning holds h.plan r s h.wire v m n b a → (q : CodeHouse W B) → q.plan ≡ h.plan → q.wire ≡ v → q.rooms ≡ with_item h.rooms k s → q.books ≡ with_item h.books k n → IfErr a (λ _. q ≡ h)
    release-same s v n b (Ok a) t q P V X Y = tt
    release-same s v n b (Err e) t q P V X Y = back_too q s n P (V ∙ t.wire) X Y t.room t.book

    -- Install.

    pub install-number : (s : CodeRoom) (v : W) (n : B) (sender : ℕ) (a : Result ℕ Refusal) → Installing meaning holds h.plan r s h.wire v m n sender a → room_number s ≡ room_number r
    install-number s v n sender (Ok b) t = t.number
    install-number s v n sender (Err e) t = ap room_number t.room

    pub install-steps : (s : CodeRoom) (v : W) (n : B) (sender : ℕ) (a : Result ℕ Refusal) → Installing meaning holds h.plan r s h.wire v m n sender a → Steps p (install k sender) (answered as_batch a) (written v s n)
    install-steps s v n sender (Ok b) t = λ g calls held.
        let X = works_is held in
        let A : b ≡ arriving (view g p) k sender = t.batch ∙ (λ i. (next_announcement w (N i) sender).batch) in
        subst (λ (y : Answer). Step g calls p (install k sender) y (written v s n)) (sym (ap batch A))
        (writes held v s n (t.wire ∙ (λ i. with_received w (N i) sender)) (t.room ∙ (λ i. room_install (R g i) (A i)))
        (t.book ∙ (λ i. book_written (set_of (X i) (A i)) (next_announcement w (N i) sender).result.amounts (holds n).spare (S g i)))
        (installs (inside held (sym (installing_is held) ∙ t.taken))
        (subst (λ (x : Works × ℕ × Stock). Spends (size (set_of x.0 x.1)) x.2.spare (holds n).spare) (λ i. (X i, A i, S g i)) t.spare)))
      where
        installing_is : {g : Given} {calls : List (Call × Answer)} (held : Held g calls p) → install_cause (plan_of h.plan).rooms (rooms.works h.plan w) w (room_number r) (room_of r) (holds m) sender
            ≡ install_cause g.plan.rooms (works g (view g p)) w k ((view g p).room k) ((view g p).book k) sender
        installing_is {g} held = λ i. install_cause (held.plan i).rooms (works_is held i) w (N i) (R g i) (S g i) sender
    install-steps s v n sender (Err e) t = stays_too v s n t.wire t.room t.book (λ g calls held.
        inside_too held (sym (λ i. install_cause (held.plan i).rooms (works_is held i) w (N i) (R g i) (S g i) sender) ∙ t.why))

    pub install-same : (s : CodeRoom) (v : W) (n : B) (sender : ℕ) (a : Result ℕ Refusal) → Installing meaning holds h.plan r s h.wire v m n sender a → (q : CodeHouse W B) → q.plan ≡ h.plan → q.wire ≡ v → q.rooms ≡ with_item h.rooms k s → q.books ≡ with_item h.books k n → IfErr a (λ _. q ≡ h)
    install-same s v n sender (Ok a) t q P V X Y = tt
    install-same s v n sender (Err e) t q P V X Y = back_too q s n P (V ∙ t.wire) X Y t.room t.book
