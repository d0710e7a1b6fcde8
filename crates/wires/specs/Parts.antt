-- What the parts of a ledger hold.
use Rattle.std.specs.Prelude.{ℕ, Bool, List, map, vec_items, slice_index, slice_index_or}
use Rattle.batches.specs.Sealed.{batch_of}
use Rattle.wire.specs.Wire.{Posted}
use Rattle.wire.specs.declared.announcement.Announcement.{Announcement}
use Rattle.wires.specs.declared.batch_list.BatchList.{BatchList}
use Rattle.wires.specs.declared.post.Post.{Post}
use Rattle.wires.specs.declared.page.Page.{Page}
use Rattle.wires.specs.Kept.{Kept, blank}

-- the batches of a list
abbrev pub numbers_of : BatchList → List ℕ
numbers_of l = vec_items l.numbers

-- a posted batch
abbrev pub posted_of : Post → Posted
posted_of p = record { room = p.room.number; batch = batch_of p.batch }

-- which posted batches were announced
abbrev pub marks_of : List Post → List Bool
marks_of posts = map (λ (p : Post). p.announced) posts

-- what a page keeps for its room
abbrev pub kept_of : Page → Kept
kept_of p = record { told = numbers_of p.told; announced = vec_items p.announced; taken = p.taken; received = (λ sender. slice_index p.received sender) }

-- what a row of pages keeps for each room, the first page for room 0
abbrev pub kept_in : List Page → ℕ → Kept
kept_in pages room = slice_index_or (map kept_of pages) room blank

-- what each room has announced
abbrev pub announced_by : List Page → ℕ → List Announcement
announced_by pages sender = (kept_in pages sender).announced
