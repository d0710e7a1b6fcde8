-- What a wire means.
use Rattle.std.specs.Prelude.{ℕ, List, []}
use Rattle.batches.specs.Batches.{Batch}
use Rattle.wire.specs.declared.announcement.Announcement.{Announcement}

-- a posted batch, and the room that posted it
pub record Posted : Type 0 where
  pub room : ℕ
  pub batch : Batch

-- batches go by their numbers, from 0, in the order of posting
pub record Wire : Type 0 where
  -- the posted batches
  pub posts : List Posted
  -- the definitive list
  pub definitive : List ℕ
  -- each room's tentative list
  pub tentative : ℕ → List ℕ
  -- each room's announcements
  pub announced : ℕ → List Announcement
  -- how many definitive entries each room has taken
  pub taken : ℕ → ℕ
  -- how many announcements each room has taken of each sender: room, then sender
  pub received : ℕ → ℕ → ℕ

-- a new wire is empty
abbrev pub new_wire : Wire
new_wire = record { posts = []; definitive = []; tentative = (λ _. []); announced = (λ _. []); taken = (λ _. 0); received = (λ _ _. 0) }
