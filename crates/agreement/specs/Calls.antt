-- The calls of a house: when each is refused and why, what it answers, and what it leaves. A wire may choose among
-- batches and a book may spare an entry, so a call with its answer is a relation between a house before and after.
use Rattle.std.specs.Prelude.{◌≡◌, ℕ, true, cond, not, List, [], ◌∷◌, ◌++◌, length, Some, None, Option, nat_le}
use Rattle.lists.specs.Words.{updated}
use Rattle.refusals.specs.Causes.{first_cause}
use Rattle.refusals.specs.declared.refusal.Refusal.{Refusal}
use Rattle.refusals.specs.declared.refusal.Refusal.TheVariants.{OutOfRange, SetUnplanned, WireFull}
use Rattle.sets.specs.Sets.{size}
use Rattle.stock.specs.Stock.{Stock, Spends}
use Rattle.plan.specs.Plan.{Plan, planned}
use Rattle.batches.specs.Batches.{Batch, batch_right}
use Rattle.batches.specs.declared.outcome.Outcome.{Outcome}
use Rattle.wire.specs.Wire.{Wire}
use Rattle.wire.specs.Calls.{with_post, with_number, with_heard, with_taken, with_announced, with_received, next_entry, next_announcement, number_cause, hear_cause, entry_cause, Chosen}
use Rattle.order.specs.Works.{set_of}
use Rattle.agreement.specs.Rooms.{Room, room_hear, room_settle, ahead_count, thrown_count, result_of, room_run, run_cause, marked_result, announcement_of, room_release, book_written, release_cause, room_install, install_cause, Picks, amount_cause}
use Rattle.agreement.specs.Houses.{Given, House, opened, Openable, works}

-- the calls of a house
pub data Call : Type 0 where
  -- the posting room, and a sealed batch
  post : ℕ → Batch → Call
  number : Call
  -- the room
  hear settle pick : ℕ → Call
  -- the room, and the batch
  run release : ℕ → ℕ → Call
  -- the room, and the sender
  install : ℕ → ℕ → Call
  -- a batch, posted or not
  wish : ℕ → Call
  -- the room, and the base
  amount : ℕ → ℕ → Call

-- what it answers
pub data Answer : Type 0 where
  refused : Refusal → Answer
  -- release and wish
  done : Answer
  -- post, number, hear and install
  batch : ℕ → Answer
  -- settle: the batch, how many went ahead, how many marks were thrown
  settled : ℕ → ℕ → ℕ → Answer
  -- run: the outcome, and the failing step's place from 1, or 0
  ran : Outcome → ℕ → Answer
  -- the amount, in grams
  amount_is : ℕ → Answer
  -- pick: a batch, or none
  picked : Option ℕ → Answer

-- a call of a room: refused where the house has no such room, else as the room does
abbrev pub at_room : Plan → ℕ → Option Refusal → Option Refusal
at_room plan k cause = cond (nat_le plan.rooms k) (Some OutOfRange) cause

-- why a call is refused, none where it is taken; a post's set and steps are right, since its batch is sealed
abbrev pub cause : Given → House → Call → Option Refusal
cause g h (post room b) = first_cause (
    (nat_le g.plan.rooms room, OutOfRange)
    ∷ (not (planned g.plan.lines b.set), SetUnplanned)
    ∷ (nat_le 256 (length h.wire.posts), WireFull)
    ∷ [])
cause g h number = number_cause h.wire
cause g h (hear k) = at_room g.plan k (hear_cause h.wire k)
cause g h (settle k) = at_room g.plan k (entry_cause h.wire k)
cause g h (pick k) = at_room g.plan k None
cause g h (run k b) = at_room g.plan k (run_cause (works g h) k (h.room k) b)
cause g h (release k b) = at_room g.plan k (release_cause (works g h) k (h.room k) (h.book k) b)
cause g h (install k m) = at_room g.plan k (install_cause g.plan.rooms (works g h) h.wire k (h.room k) (h.book k) m)
cause g h (wish b) = None
cause g h (amount k x) = at_room g.plan k (amount_cause x)

-- what a taken call leaves

-- another wire, and a room changed
abbrev pub with_room : House → Wire → ℕ → Room → House
with_room h w k r = record { wire = w; room = updated h.room k r; book = h.book }

-- and its book too
abbrev pub with_book : House → Wire → ℕ → Room → Stock → House
with_book h w k r s = record { wire = w; room = updated h.room k r; book = updated h.book k s }

-- a post: one more posted batch
abbrev pub after_post : House → ℕ → Batch → House
after_post h room b = record { wire = with_post h.wire room b; room = h.room; book = h.book }

-- a number: one more definitive entry
abbrev pub after_number : House → ℕ → House
after_number h b = record { wire = with_number h.wire b; room = h.room; book = h.book }

-- a hear: one more in the room's tentative list, and in its waiting list
abbrev pub after_hear : House → ℕ → ℕ → House
after_hear h k b = with_room h (with_heard h.wire k b) k (room_hear (h.room k) b)

-- a settle: the room has taken its next definitive entry
abbrev pub after_settle : Given → House → ℕ → House
after_settle g h k = with_room h (with_taken h.wire k) k (room_settle (works g h) k (h.room k) (next_entry h.wire k))

-- a run: the room has marked the batch
abbrev pub after_run : Given → House → ℕ → ℕ → House
after_run g h k b = with_room h h.wire k (room_run (works g h) (h.room k) (h.book k) b)

-- a release: announced, installed and written
abbrev pub after_release : Given → House → ℕ → ℕ → ℕ → House
after_release g h k b left = with_book h (with_announced h.wire k (announcement_of (h.room k) b)) k (room_release (h.room k) b)
    (book_written (set_of (works g h) b) (marked_result (h.room k) b).amounts left (h.book k))

-- the batch that an install takes up
abbrev pub arriving : House → ℕ → ℕ → ℕ
arriving h k m = (next_announcement h.wire k m).batch

-- an install: the sender's announcement taken, installed and written
abbrev pub after_install : Given → House → ℕ → ℕ → ℕ → House
after_install g h k m left = with_book h (with_received h.wire k m) k (room_install (h.room k) (arriving h k m))
    (book_written (set_of (works g h) (arriving h k m)) (next_announcement h.wire k m).result.amounts left (h.book k))

-- A call of a house, its answer, and the house after it.
pub data Answers (g : Given) : House → Call → Answer → House → Type 0 where
  -- a refusal changes nothing
  refuses : {h : House} {c : Call} {e : Refusal} → cause g h c ≡ Some e → Answers g h c (refused e) h
  posts : {h : House} {room : ℕ} {b : Batch} → cause g h (post room b) ≡ None → batch_right b ≡ true →
      Answers g h (post room b) (batch (length h.wire.posts)) (after_post h room b)
  -- the wire chooses a posted batch that is not there yet
  numbers : {h : House} {b : ℕ} → cause g h number ≡ None → Chosen h.wire h.wire.definitive b → Answers g h number (batch b) (after_number h b)
  hears : {h : House} {k b : ℕ} → cause g h (hear k) ≡ None → Chosen h.wire (h.wire.tentative k) b → Answers g h (hear k) (batch b) (after_hear h k b)
  settles : {h : House} {k : ℕ} → cause g h (settle k) ≡ None →
      Answers g h (settle k) (settled (next_entry h.wire k) (ahead_count (works g h) k (h.room k) (next_entry h.wire k))
      (thrown_count (works g h) k (h.room k) (next_entry h.wire k))) (after_settle g h k)
  runs : {h : House} {k b : ℕ} → cause g h (run k b) ≡ None →
      Answers g h (run k b) (ran (result_of ((works g h).batch b) (h.book k).amounts).outcome (result_of ((works g h).batch b) (h.book k).amounts).step) (after_run g h k b)
  -- the book may spare some of the entries
  releases : {h : House} {k b left : ℕ} → cause g h (release k b) ≡ None → Spends (size (set_of (works g h) b)) (h.book k).spare left →
      Answers g h (release k b) done (after_release g h k b left)
  installs : {h : House} {k m left : ℕ} → cause g h (install k m) ≡ None → Spends (size (set_of (works g h) (arriving h k m))) (h.book k).spare left →
      Answers g h (install k m) (batch (arriving h k m)) (after_install g h k m left)
  wishes : {h : House} {b : ℕ} → Answers g h (wish b) done h
  tells : {h : House} {k x : ℕ} → cause g h (amount k x) ≡ None → Answers g h (amount k x) (amount_is ((h.book k).amounts x)) h
  -- some batch that run would take, or none
  picks : {h : House} {k : ℕ} {o : Option ℕ} → cause g h (pick k) ≡ None → Picks (works g h) k (h.room k) o → Answers g h (pick k) (picked o) h

-- the calls made on one house since it was opened, the latest last, with their answers
pub data Performed (g : Given) : List (Call × Answer) → House → Type 0 where
  opens : Openable g → Performed g [] (opened g)
  also : {l : List (Call × Answer)} {h h' : House} {c : Call} {a : Answer} → Performed g l h → Answers g h c a h' → Performed g (l ++ (c, a) ∷ []) h'
