use Rattle.std.proofs.Common.{◌≡◌, ◌+◌, ◌≤◌, ◌++◌, length, drop}
use Rattle.lists.specs.Words.{keep}
use Rattle.rooms.specs.Lists.{numbers_of}
use Rattle.rooms.specs.Settles.{goes_ahead}
use Rattle.rooms.specs.Views.{works_in}
use Rattle.rooms.proofs.next.Next.send_ahead.Given as goal

abbrev pub invariant-loop-batch : goal.invariant-loop-batch
invariant-loop-batch g l =
    let xs = numbers_of l.waiting in
    let goes = goes_ahead (works_in l.self.works.now) l.self.room xs l.self.batch in
    (numbers_of l.settled ++ keep goes (drop l.batch-index xs) ≡ numbers_of l.initial.settled ++ keep goes xs)
    × (l.ahead + length (keep goes (drop l.batch-index xs)) ≡ length (keep goes xs))
    × (length (numbers_of l.settled) ≡ length (numbers_of l.initial.settled) + l.ahead)
    × (l.ahead ≤ l.batch-index)
