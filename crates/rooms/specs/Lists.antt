-- The lists of a room.
use Rattle.std.specs.Prelude.{ℕ, List, vec_items}
use Rattle.rooms.specs.declared.batch_list.BatchList.{BatchList}

-- the batches of a list, in their order
abbrev pub numbers_of : BatchList → List ℕ
numbers_of l = vec_items l.numbers
