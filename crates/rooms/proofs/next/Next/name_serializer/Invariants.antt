use Rattle.std.proofs.Common.{◌≡◌, ℕ, cond, get_or, drop}
use Rattle.lists.specs.Words.{member}
use Rattle.rooms.specs.Records.{blank}
use Rattle.rooms.proofs.next.Next.name_serializer.Given as goal

abbrev pub invariant-loop-batch : goal.invariant-loop-batch
invariant-loop-batch g l =
    ((a : ℕ) → cond (member a (drop l.batch-index l.batches)) l.self.batch (get_or l.records a blank).serializer ≡ cond (member a l.batches) l.self.batch (get_or l.initial.records a blank).serializer)
    × ((a : ℕ) → (get_or l.records a blank).mark ≡ (get_or l.initial.records a blank).mark)
