use Rattle.std.proofs.Common.{◌≡◌, ℕ, ◌+◌, ◌≤◌, cond, length, get_or, drop, None}
use Rattle.lists.specs.Words.{keep}
use Rattle.rooms.specs.Records.{blank}
use Rattle.rooms.specs.Settles.{would_lose}
use Rattle.rooms.specs.Views.{works_in}
use Rattle.rooms.proofs.Throws.{lost}
use Rattle.rooms.proofs.next.Next.throw_marks.Given as goal

abbrev pub invariant-loop-at : goal.invariant-loop-at
invariant-loop-at g l =
    let test = would_lose (works_in l.self.works.now) l.initial.records l.self.batch in
    (l.thrown + length (keep test (drop l.at l.waiting)) ≡ length (keep test l.waiting))
    × (l.thrown ≤ l.at)
    × ((a : ℕ) → (get_or l.records a blank).mark ≡ cond (lost test l.waiting (drop l.at l.waiting) a) None (get_or l.initial.records a blank).mark)
    × ((a : ℕ) → (get_or l.records a blank).serializer ≡ (get_or l.initial.records a blank).serializer)
