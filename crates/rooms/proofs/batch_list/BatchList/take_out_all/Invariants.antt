use Rattle.std.proofs.Common.{◌≡◌, not, drop}
use Rattle.lists.specs.Words.{keep, member}
use Rattle.rooms.specs.Lists.{numbers_of}
use Rattle.rooms.proofs.batch_list.BatchList.take_out_all.Given as goal

abbrev pub invariant-loop-batch : goal.invariant-loop-batch
invariant-loop-batch l = keep (λ b. not (member b (drop l.batch-index l.batches))) (numbers_of l.self) ≡ keep (λ b. not (member b l.batches)) (numbers_of l.initial.self)
