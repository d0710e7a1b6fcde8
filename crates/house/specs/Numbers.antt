-- The number of a room of the code.
use Rattle.std.specs.Prelude.{ℕ}
use Rattle.rooms.specs.declared.room.Room.{Room}

abbrev pub room_number : Room → ℕ
room_number r = r.number
