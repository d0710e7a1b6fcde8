-- The promise: what holds after every list of calls on a house, for one to eight rooms, whatever its wire chooses and
-- its books spare.
use Rattle.std.specs.Prelude.{◌≡◌, ℕ, ◌+◌, ◌<◌, ◌≤◌, true, false, cond, not, ◌&&◌, ◌||◌, List, [], length, take, None, ◌==◌, ◌≢◌}
use Rattle.lists.specs.Words.{member, before, keep, Distinct}
use Rattle.stock.specs.Stock as stock
use Rattle.wire.specs.Calls.{announce_cause, Sound}
use Rattle.order.specs.Works.{Works, share}
use Rattle.order.specs.Order.{house_order, serial_run}
use Rattle.agreement.specs.Rooms.{Room, heard_here, is_marked, room_settle, ahead_count, thrown_count, announcement_of}
use Rattle.agreement.specs.Houses.{Given, House, works, order}
use Rattle.agreement.specs.Calls.{Call, run, release, install, Answer, cause, Performed}
use Rattle.agreement.specs.Tellings.{Told}
use Rattle.agreement.specs.Answering.{Answered}

-- Each book holds what its room's installed batches leave, run singly in the house order from the opening amounts.
abbrev pub BooksSerial : Given → House → Type 0
BooksSerial g h = (k x : ℕ) → (h.book k).amounts x ≡ serial_run (works g h) (keep (λ b. member b (h.room k).installed) (order g h)) g.opening x

-- Installed batches keep to the house order.
pub record InstalledInOrder (g : Given) (h : House) : Type 0 where
  -- they are in it, each once
  pub placed : (k b : ℕ) → member b (h.room k).installed ≡ true → member b (order g h) ≡ true
  pub once : (k : ℕ) → Distinct (h.room k).installed
  -- those that share a base stand in each room's list in the house order
  pub in_order : (k a b : ℕ) → member a (h.room k).installed ≡ true → member b (h.room k).installed ≡ true → share (works g h) a b ≡ true →
      before (h.room k).installed a b ≡ before (order g h) a b
  -- none is there while an earlier one that shares a base is missing
  pub none_missing : (k a b : ℕ) → member b (h.room k).installed ≡ true → before (order g h) a b ≡ true → share (works g h) a b ≡ true → member a (h.room k).installed ≡ true

-- How much a settle of t in room k moved and threw, by what changed.
pub record SettleCounts (w : Works) (k : ℕ) (r : Room) (t : ℕ) : Type 0 where
  -- where t waits, those who went ahead and t are new in the settled list
  pub ahead : member t r.waiting ≡ true → length (room_settle w k r t).settled ≡ length r.settled + (ahead_count w k r t + 1)
  -- the marks thrown are those borne by waiting batches before and not after
  pub thrown : thrown_count w k r t ≡ length (keep (λ a. is_marked r a && not (is_marked (room_settle w k r t) a)) r.waiting)
  -- where t no longer waits, nothing moved
  pub none : member t r.waiting ≡ false → room_settle w k r t ≡ r

-- every settle counts so
abbrev pub SettlesCount : Type 0
SettlesCount = (w : Works) (k : ℕ) (r : Room) (t : ℕ) → SettleCounts w k r t

-- A quiet house: every posted batch is settled or installed everywhere, each book has eight spare entries, and every run,
-- release and install would be refused, whatever it names.
pub record Quiet (g : Given) (h : House) : Type 0 where
  pub settled : (k b : ℕ) → k < g.plan.rooms → b < length h.wire.posts → (member b (h.room k).settled || member b (h.room k).installed) ≡ true
  pub spare : (k : ℕ) → k < g.plan.rooms → 8 ≤ (h.book k).spare
  pub no_run : (k b : ℕ) → cause g h (run k b) ≢ None
  pub no_release : (k b : ℕ) → cause g h (release k b) ≢ None
  pub no_install : (k m : ℕ) → cause g h (install k m) ≢ None

-- Every batch is installed everywhere, and all books hold equal amounts.
pub record Complete (g : Given) (h : House) : Type 0 where
  pub installed : (k b : ℕ) → k < g.plan.rooms → b < length h.wire.posts → member b (h.room k).installed ≡ true
  pub equal : (k n x : ℕ) → k < g.plan.rooms → n < g.plan.rooms → (h.book k).amounts x ≡ (h.book n).amounts x

-- room k's own view of the tentative lists: only its own lets batches go ahead
abbrev pub own_heard : (ℕ → List ℕ) → ℕ → ℕ → List ℕ
own_heard heard k n = cond (n == k) (heard n) []

-- the order in which room k settles: the house order of the entries that it has taken, in its own view
abbrev pub settling_order : Given → House → ℕ → List ℕ
settling_order g h k = house_order (works g h) (own_heard h.wire.tentative k) (take (h.wire.taken k) h.wire.definitive)

-- A room's lists in closed form.
pub record ClosedForm (g : Given) (h : House) (k : ℕ) : Type 0 where
  -- settled: in the order of settling, without what is installed
  pub settled : (h.room k).settled ≡ keep (λ b. not (member b (h.room k).installed)) (settling_order g h k)
  -- waiting: as heard, without what is settled or installed
  pub waiting : (h.room k).waiting ≡ keep (λ b. not (member b (h.room k).installed) && not (member b (settling_order g h k))) (h.wire.tentative k)
  -- together they hold just what the room has heard
  pub heard : (b : ℕ) → heard_here (h.room k) b ≡ member b (h.wire.tentative k)

-- No list outgrows 256.
pub record Bounded (h : House) : Type 0 where
  pub posts : length h.wire.posts ≤ 256
  pub definitive : length h.wire.definitive ≤ 256
  pub tentative : (k : ℕ) → length (h.wire.tentative k) ≤ 256
  pub announced : (m : ℕ) → length (h.wire.announced m) ≤ 256
  pub waiting : (k : ℕ) → length (h.room k).waiting ≤ 256
  pub settled : (k : ℕ) → length (h.room k).settled ≤ 256
  pub installed : (k : ℕ) → length (h.room k).installed ≤ 256

-- What the parts of a house count on.
pub record PartsRight (g : Given) (h : House) : Type 0 where
  pub wire : Sound h.wire
  pub books : (k : ℕ) → stock.Sound (h.book k)
  -- the wire refuses no announcement of a release that is taken
  pub announces : (k b : ℕ) → cause g h (release k b) ≡ None → announce_cause h.wire k (announcement_of (h.room k) b) ≡ None

-- The promise whole, of a house after a list of calls with their answers.
pub record Promise (g : Given) (l : List (Call × Answer)) (h : House) : Type 0 where
  pub books : BooksSerial g h
  pub installed : InstalledInOrder g h
  pub quiet : Quiet g h → Complete g h
  pub told : Told g l h
  pub answered : (c : Call) → Answered g h c
  pub rooms : (k : ℕ) → ClosedForm g h k
  pub bounded : Bounded h
  pub parts : PartsRight g h

-- it holds after every list of calls
abbrev pub Always : (Given → List (Call × Answer) → House → Type 0) → Type 0
Always Holds = (g : Given) (l : List (Call × Answer)) (h : House) → Performed g l h → Holds g l h
