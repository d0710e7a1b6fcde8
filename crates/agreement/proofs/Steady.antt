-- What the parts of a house count on stays: few posts, of rooms that there are; amounts within the limit in books, marks
-- and announcements; and none for what is no base.
use Rattle.std.proofs.Common.{◌≡◌, ℕ, ◌≤◌, Bool, true, false, cond, ◌&&◌, eqb, ltb, leb, List, [], ◌∷◌, ◌++◌, length, Some, None, Option, unwrap_or, refl, inl, inr, arith}
use Rattle.std.proofs.lemmas.List.{length_push}
use Rattle.std.proofs.lemmas.Bool.{cases_Bool, leb-true, leb-false, lt-ltb, and_parts}
use Rattle.lists.specs.Words.{member, all}
use Rattle.lists.proofs.Members.{all_push, all_get_d}
use Rattle.lists.proofs.Updates.{updated_each}
use Rattle.refusals.specs.declared.refusal.Refusal.TheVariants.{OutOfRange, SetUnplanned, WireFull}
use Rattle.sets.specs.Sets.{bases}
use Rattle.sets.proofs.Bases.{base_below}
use Rattle.stock.specs.Stock.{Stock, Sound}
use Rattle.plan.specs.Plan.{Plan, planned, line_right, plan_right}
use Rattle.batches.specs.declared.outcome.RunResult.{RunResult}
use Rattle.wire.specs.Wire.{Posted}
use Rattle.wire.specs.Calls.{no_announcement, amounts_small, next_announcement, next_entry}
use Rattle.order.specs.Works.{set_of}
use Rattle.order.proofs.Runs.{run_small}
use Rattle.agreement.specs.Rooms.{Room, marked_result, thrown, room_settled, room_settle, result_of, room_hear, room_run, announcement_of, room_release, book_written, room_install}
use Rattle.agreement.specs.Houses.{Given, House, Openable, works}
use Rattle.agreement.specs.Calls.{Call, Answer, Answers, refuses, posts, numbers, hears, settles, runs, releases, installs, wishes, tells, picks, arriving, Performed, opens, also}
use Rattle.agreement.proofs.Causes.{passed, passed_not}
use Rattle.agreement.proofs.Packing.{small_all, packed-small, laid-small}

-- the room that posted is one of eight
abbrev pub room_right : Posted → Bool
room_right p = ltb p.room 8

-- each mark's amounts are small
abbrev MarksSmall : Room → Type 0
MarksSmall r = (b : ℕ) → small_all (marked_result r b).amounts ≡ true

pub record Steady (h : House) : Type 0 where
  pub few : length h.wire.posts ≤ 256
  pub rooms : all room_right h.wire.posts ≡ true
  pub books : (k : ℕ) → Sound (h.book k)
  pub marks : (k b : ℕ) → small_all (marked_result (h.room k) b).amounts ≡ true
  pub announced : (m : ℕ) → all amounts_small (h.wire.announced m) ≡ true

written-sound : (set : ℕ) (values : List ℕ) (left : ℕ) (s : Stock) → small_all values ≡ true → Sound s → Sound (book_written set values left s)
written-sound set values left s v o = record {
  small = laid-small set values s.amounts v o.small;
  none_above = λ x l. elim (cases_Bool (member x (bases set))) [ inl t ↦ absurd (let z = base_below set x t in omega (arith, z, l)) | inr f ↦ rw f (o.none_above x l) ];
}

-- a mark taken off or put on
mark-small : (c : Bool) (m : Option RunResult) (r : Room) (b : ℕ) → small_all (unwrap_or m no_announcement.result).amounts ≡ true → small_all (marked_result r b).amounts ≡ true →
    small_all (unwrap_or (cond c m (r.mark b)) no_announcement.result).amounts ≡ true
mark-small true m r b h k = h
mark-small false m r b h k = k

settle-small : (c : Bool) (r v : Room) → MarksSmall r → MarksSmall v → MarksSmall (cond c v r)
settle-small true r v h k = k
settle-small false r v h k = h

pub rooms_low : (plan : Plan) → plan_right plan ≡ true → plan.rooms ≤ 8
rooms_low plan right = leb-true _ _ (and_parts (leb 1 plan.rooms) (leb plan.rooms 8) (and_parts (leb 1 plan.rooms && leb plan.rooms 8) (all (line_right plan.rooms) plan.lines) right).0).1

arriving-small : (h : House) (k m : ℕ) → Steady h → small_all (next_announcement h.wire k m).result.amounts ≡ true
arriving-small h k m o = all_get_d amounts_small (h.wire.announced m) no_announcement (o.announced m) refl (h.wire.received k m)

steady_step : (g : Given) → g.plan.rooms ≤ 8 → {h h' : House} {c : Call} {a : Answer} → Answers g h c a h' → Steady h → Steady h'
steady_step g low (refuses _) o = o
steady_step g low (posts {h = h} {room = room} {b = b} c _) o =
    let c1 = passed (leb g.plan.rooms room) OutOfRange _ c in
    let c2 = passed_not (planned g.plan.lines b.set) SetUnplanned _ c1.1 in
    let c3 = passed (leb 256 (length h.wire.posts)) WireFull None c2.1 in record {
      few = let z = leb-false _ _ c3.0 in let y = length_push h.wire.posts (record { room = room; batch = b }) in omega (arith, z, y);
      rooms = all_push room_right h.wire.posts (record { room = room; batch = b }) o.rooms (lt-ltb _ _ (let z = leb-false _ _ c1.0 in omega (arith, z, low)));
      books = o.books;
      marks = o.marks;
      announced = o.announced;
    }
steady_step g low (numbers _ _) o = record { few = o.few; rooms = o.rooms; books = o.books; marks = o.marks; announced = o.announced }
steady_step g low (hears {h = h} {k = k} {b = b} _ _) o = record {
  few = o.few;
  rooms = o.rooms;
  books = o.books;
  announced = o.announced;
  marks = updated_each h.room k (room_hear (h.room k) b) (λ _ r. MarksSmall r) (o.marks k) (λ n _. o.marks n);
}
steady_step g low (settles {h = h} {k = k} _) o = record {
  few = o.few;
  rooms = o.rooms;
  books = o.books;
  announced = o.announced;
  marks = updated_each h.room k (room_settle (works g h) k (h.room k) (next_entry h.wire k)) (λ _ r. MarksSmall r)
      (settle-small _ (h.room k) (room_settled (works g h) k (h.room k) (next_entry h.wire k)) (o.marks k)
      (λ b. mark-small (member b (thrown (works g h) k (h.room k) (next_entry h.wire k))) None (h.room k) b refl (o.marks k b))) (λ n _. o.marks n);
}
steady_step g low (runs {h = h} {k = k} {b = b} _) o = record {
  few = o.few;
  rooms = o.rooms;
  books = o.books;
  announced = o.announced;
  marks = updated_each h.room k (room_run (works g h) (h.room k) (h.book k) b) (λ _ r. MarksSmall r)
      (λ a. mark-small (eqb a b) (Some (result_of ((works g h).batch b) (h.book k).amounts)) (h.room k) a
      (packed-small (set_of (works g h) b) _ (run_small ((works g h).batch b) (h.book k).amounts (o.books k).small)) (o.marks k a)) (λ n _. o.marks n);
}
steady_step g low (releases {h = h} {k = k} {b = b} {left = left} _ _) o = record {
  few = o.few;
  rooms = o.rooms;
  books = updated_each h.book k (book_written (set_of (works g h) b) (marked_result (h.room k) b).amounts left (h.book k)) (λ _ s. Sound s)
      (written-sound (set_of (works g h) b) (marked_result (h.room k) b).amounts left (h.book k) (o.marks k b) (o.books k)) (λ n _. o.books n);
  marks = updated_each h.room k (room_release (h.room k) b) (λ _ r. MarksSmall r) (λ a. mark-small (eqb a b) None (h.room k) a refl (o.marks k a)) (λ n _. o.marks n);
  announced = updated_each h.wire.announced k (h.wire.announced k ++ announcement_of (h.room k) b ∷ []) (λ _ l. all amounts_small l ≡ true)
      (all_push amounts_small (h.wire.announced k) (announcement_of (h.room k) b) (o.announced k) (o.marks k b)) (λ n _. o.announced n);
}
steady_step g low (installs {h = h} {k = k} {m = m} {left = left} _ _) o = record {
  few = o.few;
  rooms = o.rooms;
  announced = o.announced;
  books = updated_each h.book k (book_written (set_of (works g h) (arriving h k m)) (next_announcement h.wire k m).result.amounts left (h.book k)) (λ _ s. Sound s)
      (written-sound (set_of (works g h) (arriving h k m)) (next_announcement h.wire k m).result.amounts left (h.book k) (arriving-small h k m o) (o.books k)) (λ n _. o.books n);
  marks = updated_each h.room k (room_install (h.room k) (arriving h k m)) (λ _ r. MarksSmall r) (o.marks k) (λ n _. o.marks n);
}
steady_step g low wishes o = o
steady_step g low (tells _) o = o
steady_step g low (picks _ _) o = o

pub openable : (g : Given) {l : List (Call × Answer)} {h : House} → Performed g l h → Openable g
openable g (opens o) = o
openable g (also p _) = openable g p

pub steady : (g : Given) {l : List (Call × Answer)} {h : House} → Performed g l h → Steady h
steady g (opens o) = record { few = omega arith; rooms = refl; books = o.books; marks = λ _ _. refl; announced = λ _. refl }
steady g (also p d) = steady_step g (rooms_low g.plan (openable g p).plan) d (steady g p)
