-- What each call of a wire does, and why it is refused. Which batch numbering and tentative telling choose is left open:
-- any posted batch that is not in the list yet.
use Rattle.std.specs.Prelude.{◌≡◌, ℕ, ◌+◌, ◌<◌, ◌≤◌, Bool, true, false, not, ◌&&◌, ◌||◌, ltb, leb, List, [], ◌∷◌, ◌++◌, length, Option, nat_eq, nat_le, nat_lt, slice_index, slice_index_or}
use Rattle.lists.specs.Words.{any, all, member, updated, rising, Distinct}
use Rattle.refusals.specs.Causes.{first_cause}
use Rattle.refusals.specs.declared.refusal.Refusal.{Refusal}
use Rattle.refusals.specs.declared.refusal.Refusal.TheVariants.{OutOfRange, WireFull, NothingWaits, UnknownBatch, AlreadyInstalled, OverLimit}
use Rattle.batches.specs.Batches.{Batch, batch_right}
use Rattle.batches.specs.declared.outcome.Outcome.TheVariants.{Done}
use Rattle.wire.specs.declared.announcement.Announcement.{Announcement}
use Rattle.wire.specs.Wire.{Posted, Wire}

-- what a taken call leaves

abbrev pub with_post : Wire → ℕ → Batch → Wire
with_post w room b = record { posts = w.posts ++ (record { room = room; batch = b }) ∷ []; definitive = w.definitive; tentative = w.tentative; announced = w.announced; taken = w.taken; received = w.received }

abbrev pub with_number : Wire → ℕ → Wire
with_number w b = record { posts = w.posts; definitive = w.definitive ++ b ∷ []; tentative = w.tentative; announced = w.announced; taken = w.taken; received = w.received }

abbrev pub with_heard : Wire → ℕ → ℕ → Wire
with_heard w room b = record { posts = w.posts; definitive = w.definitive; tentative = updated w.tentative room (w.tentative room ++ b ∷ []); announced = w.announced; taken = w.taken; received = w.received }

abbrev pub with_taken : Wire → ℕ → Wire
with_taken w room = record { posts = w.posts; definitive = w.definitive; tentative = w.tentative; announced = w.announced; taken = updated w.taken room (w.taken room + 1); received = w.received }

abbrev pub with_announced : Wire → ℕ → Announcement → Wire
with_announced w sender a = record { posts = w.posts; definitive = w.definitive; tentative = w.tentative; announced = updated w.announced sender (w.announced sender ++ a ∷ []); taken = w.taken; received = w.received }

abbrev pub with_received : Wire → ℕ → ℕ → Wire
with_received w room sender = record { posts = w.posts; definitive = w.definitive; tentative = w.tentative; announced = w.announced; taken = w.taken; received = updated w.received room (updated (w.received room) sender (w.received room sender + 1)) }

-- what the causes speak of

-- every posted batch stands in the list
abbrev pub all_there : Wire → List ℕ → Bool
all_there w list = all (λ b. member b list) (rising 0 (length w.posts))

-- the definitive entry that a room takes next
abbrev pub next_entry : Wire → ℕ → ℕ
next_entry w room = slice_index w.definitive (w.taken room)

-- a room's next definitive entry is there, and its tentative list holds it
abbrev pub entry_waits : Wire → ℕ → Bool
entry_waits w room = nat_lt (w.taken room) (length w.definitive) && member (next_entry w room) (w.tentative room)

-- some room has announced the batch
abbrev pub announced_before : Wire → ℕ → Bool
announced_before w b = any (λ sender. any (λ a. nat_eq a.batch b) (w.announced sender)) (rising 0 8)

-- no announced amount is above 1,000,000,000
abbrev pub amounts_small : Announcement → Bool
amounts_small a = all (λ amount. leb amount 1000000000) a.result.amounts

-- a sender has an announcement that a room has not taken
abbrev pub announcement_waits : Wire → ℕ → ℕ → Bool
announcement_waits w room sender = nat_lt (w.received room sender) (length (w.announced sender))

-- what stands for a missing announcement
abbrev pub no_announcement : Announcement
no_announcement = record { batch = 0; serializer = 0; result = record { outcome = Done; step = 0; amounts = [] } }

-- a sender's next announcement for a room
abbrev pub next_announcement : Wire → ℕ → ℕ → Announcement
next_announcement w room sender = slice_index_or (w.announced sender) (w.received room sender) no_announcement

-- why a call is refused

abbrev pub no_room : ℕ → Bool
no_room room = nat_lt 7 room

abbrev pub post_cause : Wire → ℕ → Option Refusal
post_cause w room = first_cause ((no_room room, OutOfRange) ∷ (nat_le 256 (length w.posts), WireFull) ∷ [])

abbrev pub number_cause : Wire → Option Refusal
number_cause w = first_cause ((all_there w w.definitive, NothingWaits) ∷ [])

abbrev pub hear_cause : Wire → ℕ → Option Refusal
hear_cause w room = first_cause ((no_room room, OutOfRange) ∷ (all_there w (w.tentative room), NothingWaits) ∷ [])

abbrev pub entry_cause : Wire → ℕ → Option Refusal
entry_cause w room = first_cause ((no_room room, OutOfRange) ∷ (not (entry_waits w room), NothingWaits) ∷ [])

abbrev pub announce_cause : Wire → ℕ → Announcement → Option Refusal
announce_cause w sender a = first_cause (
    (no_room sender, OutOfRange)
    ∷ (nat_le (length w.posts) a.batch, UnknownBatch)
    ∷ (announced_before w a.batch, AlreadyInstalled)
    ∷ (not (amounts_small a), OverLimit)
    ∷ [])

abbrev pub announcement_cause : Wire → ℕ → ℕ → Option Refusal
announcement_cause w room sender = first_cause ((no_room room || no_room sender, OutOfRange) ∷ (not (announcement_waits w room sender), NothingWaits) ∷ [])

-- a batch that may be chosen for a list: posted, and not there yet
pub record Chosen (w : Wire) (list : List ℕ) (b : ℕ) : Type 0 where
  pub posted : b < length w.posts
  pub new : member b list ≡ false

-- no list holds a batch twice, and only posted ones; counts do not pass what they count
pub record Sound (w : Wire) : Type 0 where
  pub few : length w.posts ≤ 256
  pub batches_right : all (λ (p : Posted). batch_right p.batch) w.posts ≡ true
  pub posts_rooms : all (λ (p : Posted). ltb p.room 8) w.posts ≡ true
  pub numbered_once : Distinct w.definitive
  pub numbered_posted : (b : ℕ) → member b w.definitive ≡ true → b < length w.posts
  pub heard_once : (room : ℕ) → Distinct (w.tentative room)
  pub heard_posted : (room b : ℕ) → member b (w.tentative room) ≡ true → b < length w.posts
  pub announced_small : (sender : ℕ) → all amounts_small (w.announced sender) ≡ true
  pub taken_numbered : (room : ℕ) → w.taken room ≤ length w.definitive
  pub received_announced : (room sender : ℕ) → w.received room sender ≤ length (w.announced sender)
