-- The numbers of rooms.
use Rattle.std.specs.Prelude.{◌≡◌, ℕ, true, Ok, Err, Result}
use Rattle.refusals.specs.declared.refusal.Refusal.{Refusal}
use Rattle.refusals.specs.declared.refusal.Refusal.TheVariants.{OutOfRange}
use Rattle.wire.specs.Calls.{no_room}
use Rattle.wires.specs.declared.room_number.RoomNumber.{RoomNumber}

-- the number was that of a room, or of none
abbrev pub RoomRead : ℕ → Result RoomNumber Refusal → Type 0
RoomRead number (Ok room) = room.number ≡ number
RoomRead number (Err e) = (e ≡ OutOfRange) × (no_room number ≡ true)
