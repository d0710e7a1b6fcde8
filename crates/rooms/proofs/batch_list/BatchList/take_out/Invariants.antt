use Rattle.std.proofs.Common.{◌≡◌, length}
use Rattle.lists.specs.Words.{without}
use Rattle.rooms.specs.Lists.{numbers_of}
use Rattle.rooms.proofs.batch_list.BatchList.take_out.Given as goal

abbrev pub invariant-loop-at : goal.invariant-loop-at
invariant-loop-at l = without l.batch (numbers_of l.self) ≡ without l.batch (numbers_of l.initial.self)

abbrev pub decreases-loop-at : goal.decreases-loop-at
decreases-loop-at l = length (numbers_of l.self)
