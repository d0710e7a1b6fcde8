use Rattle.std.proofs.Common.{◌≡◌, ◌+◌, [], ◌∷◌, ◌++◌, map, vec_items, vec_len, ap, ◌∙◌, arith}
use Rattle.std.proofs.lemmas.List.{map_push}
use Rattle.lists.specs.Words.{rising}
use Rattle.rooms.specs.Views.{room_of}
use Rattle.house.specs.Numbers.{room_number}
use Rattle.house.proofs.Opened.{rising-push, new-push}
use Rattle.house.proofs.open.open_rooms.Goals as goal

pub loop-number-preserved : goal.loop-number-preserved
loop-number-preserved c =
    let items = vec_items c.loop-number.rooms in
    let number = c.loop-number.number in
    let pushed = c.push_reserved.ensures in
    let room = c.unwrap-room.result in
    let opened = rw c.unwrap-room.ensures at c.open.ensures.cases in
    let left : vec_len c.pop.new.self + 1 ≡ vec_len c.loop-number.memories = rw c.unwrap-memory.ensures at c.pop.ensures.len in
    let inv = c.loop-number.invariant in
    let numbers : map room_number (vec_items c.push_reserved.new.self) ≡ rising 0 (number + 1) =
    ap (map room_number) pushed.items ∙ map_push room_number items room ∙ (λ i. inv.3 i ++ (opened.number_is ∙ (let e : number ≡ 0 + number = omega arith in e)) i ∷ []) ∙ rising-push 0 number in (
      pushed.len ∙ ap (λ n. n + 1) inv.0,
      omega (arith, inv.1, left),
      omega (arith, inv.2, pushed.capacity),
      numbers,
      rw (pushed.items, map_push room_of items room) (new-push (map room_of items) (room_of room) inv.4 opened.room),
    )
