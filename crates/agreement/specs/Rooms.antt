-- A room: what it holds, and what each of its calls does to it, to its wire and to its book.
-- Throughout, w knows the posted batches and their masters, k is the room's number, r the room, b a batch.
use Rattle.std.specs.Prelude.{◌≡◌, ℕ, Bool, false, cond, not, ◌&&◌, ◌||◌, List, [], ◌∷◌, ◌++◌, length, is_some, Some, None, Option, ◌==◌, ◌≢◌, nat_le, nat_lt}
use Rattle.std.specs.Option.{unwrap_or}
use Rattle.lists.specs.Words.{member, all, before, keep, without, updated}
use Rattle.refusals.specs.Causes.{first_cause}
use Rattle.refusals.specs.declared.refusal.Refusal.{Refusal}
use Rattle.refusals.specs.declared.refusal.Refusal.TheVariants.{OutOfRange, NothingWaits, UnknownBatch, NotMaster, AlreadyInstalled, AlreadyMarked, NotFirst, NotMarked, StillWaiting, NotItsTurn, TooFewSpare, OverLimit}
use Rattle.sets.specs.Sets.{bases, size}
use Rattle.stock.specs.Stock.{Amounts, Stock, packed, laid}
use Rattle.batches.specs.Batches.{Batch}
use Rattle.batches.specs.Runs.{run}
use Rattle.batches.specs.declared.outcome.RunResult.{RunResult}
use Rattle.wire.specs.Wire.{Wire}
use Rattle.wire.specs.Calls.{announcement_waits, next_announcement, no_announcement}
use Rattle.wire.specs.declared.announcement.Announcement.{Announcement}
use Rattle.order.specs.Works.{Works, set_of, has_base, lies_within, share}

pub record Room : Type 0 where
  -- heard, and neither settled nor installed
  pub waiting : List ℕ
  pub settled : List ℕ
  pub installed : List ℕ
  -- the result of each batch that has been run here and waits for its release
  pub mark : ℕ → Option RunResult
  -- the serializer of each batch that has been settled here
  pub serializer : ℕ → ℕ

-- a room just opened
abbrev pub new_room : Room
new_room = record { waiting = []; settled = []; installed = []; mark = (λ _. None); serializer = (λ _. 0) }

-- the room has heard the batch
abbrev pub heard_here : Room → ℕ → Bool
heard_here r b = member b r.waiting || (member b r.settled || member b r.installed)

-- the batch has been run here
abbrev pub is_marked : Room → ℕ → Bool
is_marked r b = is_some (r.mark b)

-- the line of a base: the settled, then the waiting batches that have it
abbrev pub line : Works → Room → ℕ → List ℕ
line w r x = keep (λ b. has_base w b x) (r.settled ++ r.waiting)

-- b is first in a line
abbrev pub leads : ℕ → List ℕ → Bool
leads b [] = false
leads b (c ∷ cs) = c == b

-- b is first in all its lines
abbrev pub first_in_lines : Works → Room → ℕ → Bool
first_in_lines w r b = all (λ x. leads b (line w r x)) (bases (set_of w b))

-- q is first in the line of each base of b, leaving out b where it is another
abbrev pub first_before : Works → Room → ℕ → ℕ → Bool
first_before w r b q = all (λ x. leads q (keep (λ c. (c == q) || not (c == b)) (line w r x))) (bases (set_of w b))

-- Hear: the batch goes to the end of the waiting list.
abbrev pub room_hear : Room → ℕ → Room
room_hear r b = record { waiting = r.waiting ++ b ∷ []; settled = r.settled; installed = r.installed; mark = r.mark; serializer = r.serializer }

-- Settle takes the next definitive batch t.

-- who goes ahead of t: where this room is t's master, the batches before t in the waiting list that have this master and
-- lie within t's set
abbrev pub gone_ahead : Works → ℕ → Room → ℕ → List ℕ
gone_ahead w k r t = cond (w.master t == k) (keep (λ a. (w.master a == k && lies_within w a t) && before r.waiting a t) r.waiting) []

-- who still waits after those and t
abbrev pub still_waiting : Works → ℕ → Room → ℕ → List ℕ
still_waiting w k r t = keep (λ a. not (member a (gone_ahead w k r t ++ t ∷ []))) r.waiting

-- of those, the ones that lose a mark: they share a base with t
abbrev pub thrown : Works → ℕ → Room → ℕ → List ℕ
thrown w k r t = keep (λ a. share w a t && is_marked r a) (still_waiting w k r t)

-- those who go ahead, then t, move to the end of the settled list with t as serializer, and marks are thrown
abbrev pub room_settled : Works → ℕ → Room → ℕ → Room
room_settled w k r t = record {
  waiting = still_waiting w k r t;
  settled = r.settled ++ (gone_ahead w k r t ++ t ∷ []);
  installed = r.installed;
  mark = (λ a. cond (member a (thrown w k r t)) None (r.mark a));
  serializer = (λ a. cond (member a (gone_ahead w k r t ++ t ∷ [])) t (r.serializer a));
}

-- if t no longer waits, nothing else happens
abbrev pub room_settle : Works → ℕ → Room → ℕ → Room
room_settle w k r t = cond (member t r.waiting) (room_settled w k r t) r

-- how many went ahead
abbrev pub ahead_count : Works → ℕ → Room → ℕ → ℕ
ahead_count w k r t = cond (member t r.waiting) (length (gone_ahead w k r t)) 0

-- how many marks were thrown
abbrev pub thrown_count : Works → ℕ → Room → ℕ → ℕ
thrown_count w k r t = cond (member t r.waiting) (length (thrown w k r t)) 0

-- Run works out a batch from the book's amounts, and marks it.

-- what a run of a batch gives, with the amounts of its bases after it
abbrev pub result_of : Batch → Amounts → RunResult
result_of b m = record { outcome = (run b m).outcome; step = (run b m).step; amounts = packed b.set (run b m).after }

-- the room with that result in the batch's mark
abbrev pub room_run : Works → Room → Stock → ℕ → Room
room_run w r s b = record {
  waiting = r.waiting;
  settled = r.settled;
  installed = r.installed;
  mark = updated r.mark b (Some (result_of (w.batch b) s.amounts));
  serializer = r.serializer;
}

-- why a run is refused
abbrev pub run_cause : Works → ℕ → Room → ℕ → Option Refusal
run_cause w k r b = first_cause (
    (not (heard_here r b), UnknownBatch)
    ∷ (not (w.master b == k), NotMaster)
    ∷ (member b r.installed, AlreadyInstalled)
    ∷ (is_marked r b, AlreadyMarked)
    ∷ (not (first_in_lines w r b), NotFirst)
    ∷ [])

-- Release writes a marked, settled batch's amounts to the book, announces it, and moves it to the end of the installed list.

-- the result in the batch's mark
abbrev pub marked_result : Room → ℕ → RunResult
marked_result r b = unwrap_or (r.mark b) no_announcement.result

-- what is announced
abbrev pub announcement_of : Room → ℕ → Announcement
announcement_of r b = record { batch = b; serializer = r.serializer b; result = marked_result r b }

-- the room after the release: the batch needs its mark no more
abbrev pub room_release : Room → ℕ → Room
room_release r b = record { waiting = r.waiting; settled = without b r.settled; installed = r.installed ++ b ∷ []; mark = updated r.mark b None; serializer = r.serializer }

-- a book with a set's amounts written, and so many spare entries left
abbrev pub book_written : ℕ → List ℕ → ℕ → Stock → Stock
book_written set values left s = record { amounts = laid set values s.amounts; spare = left }

-- fewer entries are spare than the batch has bases
abbrev pub too_few : Works → Stock → ℕ → Bool
too_few w s b = nat_lt s.spare (size (set_of w b))

-- why a release is refused
abbrev pub release_cause : Works → ℕ → Room → Stock → ℕ → Option Refusal
release_cause w k r s b = first_cause (
    (not (heard_here r b), UnknownBatch)
    ∷ (not (w.master b == k), NotMaster)
    ∷ (member b r.installed, AlreadyInstalled)
    ∷ (not (is_marked r b), NotMarked)
    ∷ (member b r.waiting, StillWaiting)
    ∷ (too_few w s b, TooFewSpare)
    ∷ [])

-- Install takes a sender's next announcement, and the batch goes to the end of the installed list.

-- an announcement's turn has come: the sender is the batch's master, the batch is heard and not installed, and the
-- serializer is settled and first in the line of each base of the batch, leaving out the batch where it is another
abbrev pub turn_come : Works → Room → ℕ → Announcement → Bool
turn_come w r sender a = (w.master a.batch == sender && (heard_here r a.batch && not (member a.batch r.installed))) &&
    (member a.serializer r.settled && first_before w r a.batch a.serializer)

-- the room after the install
abbrev pub room_install : Room → ℕ → Room
room_install r b = record { waiting = without b r.waiting; settled = without b r.settled; installed = r.installed ++ b ∷ []; mark = r.mark; serializer = r.serializer }

-- why an install is refused, in a house of so many rooms
abbrev pub install_cause : ℕ → Works → Wire → ℕ → Room → Stock → ℕ → Option Refusal
install_cause rooms w wire k r s sender = first_cause (
    (nat_le rooms sender || (sender == k), OutOfRange)
    ∷ (not (announcement_waits wire k sender), NothingWaits)
    ∷ (not (turn_come w r sender (next_announcement wire k sender)), NotItsTurn)
    ∷ (too_few w s (next_announcement wire k sender).batch, TooFewSpare)
    ∷ [])

-- Questions change nothing.

-- Pick answers some batch that run would take, and none exactly where run would take none
abbrev pub Picks : Works → ℕ → Room → Option ℕ → Type 0
Picks w k r None = (b : ℕ) → run_cause w k r b ≢ None
Picks w k r (Some b) = run_cause w k r b ≡ None

-- why a book does not tell a base's amount
abbrev pub amount_cause : ℕ → Option Refusal
amount_cause base = first_cause ((nat_lt 31 base, OverLimit) ∷ [])
