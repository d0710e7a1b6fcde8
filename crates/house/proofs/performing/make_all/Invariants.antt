use Rattle.std.proofs.Common.{◌≡◌, ◌≤◌, length, take, drop, vec_items, vec_len, vec_capacity}
use Rattle.std.specs.Vec.Iter.{into_iter_items}
use Rattle.house.specs.Views.{parts_of}
use Rattle.house.specs.Performing.{MakesAll}
use Rattle.house.proofs.performing.make_all.Given as goal

abbrev pub invariant-loop-call : goal.invariant-loop-call
invariant-loop-call g l =
    let parts = parts_of g.W.Wire.meaning g.B.Book.holds in
    let calls = into_iter_items l.initial.call-iterator in
    let made = vec_len l.answers in
    (goal.iterator-loop-call g).can_next l.call-iterator × (goal.iterator-loop-call g).is_finite l.call-iterator
    × (drop made calls ≡ into_iter_items l.call-iterator)
    × MakesAll (parts l.initial.house) (take made calls) (vec_items l.answers) (parts l.house)
    × (length calls ≤ vec_capacity l.answers)
