use Rattle.std.proofs.Common.{◌≡◌, ◌+◌, ◌≤◌, map, vec_items, vec_len, vec_capacity}
use Rattle.lists.specs.Words.{rising}
use Rattle.rooms.specs.Views.{room_of}
use Rattle.house.specs.Numbers.{room_number}
use Rattle.house.specs.Openings.{AllNew}
use Rattle.house.proofs.open.open_rooms.Given as goal

abbrev pub invariant-loop-number : goal.invariant-loop-number
invariant-loop-number l = (vec_len l.rooms ≡ l.number) × (vec_len l.memories + l.number ≡ 8) × (8 ≤ vec_capacity l.rooms)
    × (map room_number (vec_items l.rooms) ≡ rising 0 l.number) × AllNew (map room_of (vec_items l.rooms))
