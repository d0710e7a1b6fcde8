-- What each call of a wire promises, by how it ends: taken, and then there was no cause and this is the wire after it; or
-- refused, and then the cause is the first that holds and the wire means what it meant.
use Rattle.std.specs.Prelude.{◌≡◌, ℕ, List, length, Some, None, Ok, Err, Option, Result}
use Rattle.std.specs.List.{slice_get}
use Rattle.std.specs.Option.{option_map}
use Rattle.refusals.specs.declared.refusal.Refusal.{Refusal}
use Rattle.batches.specs.Batches.{Batch}
use Rattle.wire.specs.declared.announcement.Announcement.{Announcement}
use Rattle.wire.specs.Wire.{Posted, Wire}
use Rattle.wire.specs.Calls.{with_post, with_number, with_heard, with_taken, with_announced, with_received, next_entry, next_announcement, post_cause, number_cause, hear_cause, entry_cause, announce_cause, announcement_cause, Chosen}

-- Below, w is the wire before the call and v the wire after it.

-- a call was refused for a cause
pub record Refused (why : Option Refusal) (w v : Wire) (e : Refusal) : Type 0 where
  pub cause : why ≡ Some e
  pub same : v ≡ w

-- a call was taken, and left a wire
pub record Taken (why : Option Refusal) (v due : Wire) : Type 0 where
  pub cause : why ≡ None
  pub after : v ≡ due

-- a call was taken, with an answer, and left a wire
pub record Answered (why : Option Refusal) (answer right : ℕ) (v due : Wire) : Type 0 where
  pub cause : why ≡ None
  pub value : answer ≡ right
  pub after : v ≡ due

-- a call was taken that chose a batch for a list, and left a wire
pub record Chose (why : Option Refusal) (w : Wire) (list : List ℕ) (b : ℕ) (v due : Wire) : Type 0 where
  pub cause : why ≡ None
  pub chosen : Chosen w list b
  pub after : v ≡ due

-- a question was answered
pub record Looked {X : Type 0} (why : Option Refusal) (answer right : X) : Type 0 where
  pub cause : why ≡ None
  pub value : answer ≡ right

-- posting answers the batch's number
abbrev pub Posting : Wire → Wire → ℕ → Batch → Result ℕ Refusal → Type 0
Posting w v room b (Ok n) = Answered (post_cause w room) n (length w.posts) v (with_post w room b)
Posting w v room b (Err e) = Refused (post_cause w room) w v e

-- numbering chooses a batch for the definitive list
abbrev pub Numbering : Wire → Wire → Result ℕ Refusal → Type 0
Numbering w v (Ok b) = Chose (number_cause w) w w.definitive b v (with_number w b)
Numbering w v (Err e) = Refused (number_cause w) w v e

-- telling tentatively chooses a batch for the room's tentative list
abbrev pub Hearing : Wire → Wire → ℕ → Result ℕ Refusal → Type 0
Hearing w v room (Ok b) = Chose (hear_cause w room) w (w.tentative room) b v (with_heard w room b)
Hearing w v room (Err e) = Refused (hear_cause w room) w v e

-- telling definitively answers the room's next definitive entry
abbrev pub Telling : Wire → Wire → ℕ → Result ℕ Refusal → Type 0
Telling w v room (Ok b) = Answered (entry_cause w room) b (next_entry w room) v (with_taken w room)
Telling w v room (Err e) = Refused (entry_cause w room) w v e

abbrev pub Announcing : Wire → Wire → ℕ → Announcement → Result Unit Refusal → Type 0
Announcing w v sender a (Ok _) = Taken (announce_cause w sender a) v (with_announced w sender a)
Announcing w v sender a (Err e) = Refused (announce_cause w sender a) w v e

-- looking at an announcement leaves it there
abbrev pub Looking : Wire → ℕ → ℕ → Result Announcement Refusal → Type 0
Looking w room sender (Ok a) = Looked (announcement_cause w room sender) a (next_announcement w room sender)
Looking w room sender (Err e) = announcement_cause w room sender ≡ Some e

abbrev pub Taking : Wire → Wire → ℕ → ℕ → Result Unit Refusal → Type 0
Taking w v room sender (Ok _) = Taken (announcement_cause w room sender) v (with_received w room sender)
Taking w v room sender (Err e) = Refused (announcement_cause w room sender) w v e

-- the posted batch of a number, if there is one
abbrev pub posted_batch : Wire → ℕ → Option Batch
posted_batch w number = option_map (λ (p : Posted). p.batch) (slice_get w.posts number)
