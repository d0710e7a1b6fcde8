-- What a ledger keeps for one room, and a wire put together from that.
use Rattle.std.specs.Prelude.{ℕ, ◌+◌, Bool, cond, List, [], ◌∷◌, ◌++◌, nat_eq}
use Rattle.lists.specs.Words.{any, rising, updated}
use Rattle.wire.specs.Wire.{Posted, Wire}
use Rattle.wire.specs.declared.announcement.Announcement.{Announcement}

pub record Kept : Type 0 where
  -- the room's tentative list
  pub told : List ℕ
  -- its announcements
  pub announced : List Announcement
  -- how many definitive entries it has taken
  pub taken : ℕ
  -- how many announcements of each sender it has taken
  pub received : ℕ → ℕ

-- what is kept for a room at the start
abbrev pub blank : Kept
blank = record { told = []; announced = []; taken = 0; received = (λ _. 0) }

-- what is kept after one more of each kind

abbrev pub also_told : Kept → ℕ → Kept
also_told k b = record { told = k.told ++ b ∷ []; announced = k.announced; taken = k.taken; received = k.received }

abbrev pub also_announced : Kept → Announcement → Kept
also_announced k a = record { told = k.told; announced = k.announced ++ a ∷ []; taken = k.taken; received = k.received }

abbrev pub also_taken : Kept → Kept
also_taken k = record { told = k.told; announced = k.announced; taken = k.taken + 1; received = k.received }

abbrev pub also_received : Kept → ℕ → Kept
also_received k sender = record { told = k.told; announced = k.announced; taken = k.taken; received = updated k.received sender (k.received sender + 1) }

-- the wire of the posted batches, the definitive list and what is kept for each room
abbrev pub wire_of : List Posted → List ℕ → (ℕ → Kept) → Wire
wire_of posts definitive kept = record { posts = posts; definitive = definitive; tentative = (λ r. (kept r).told); announced = (λ r. (kept r).announced); taken = (λ r. (kept r).taken); received = (λ r. (kept r).received) }

-- some room has announced the batch
unfoldable pub announced_in : (ℕ → List Announcement) → ℕ → Bool
announced_in announced b = any (λ sender. any (λ (a : Announcement). nat_eq a.batch b) (announced sender)) (rising 0 8)

-- how many marks of a table are set
abbrev pub trues : List Bool → ℕ
trues [] = 0
trues (x ∷ xs) = cond x 1 0 + trues xs
