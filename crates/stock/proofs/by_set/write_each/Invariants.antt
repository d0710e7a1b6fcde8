use Rattle.std.proofs.Common.{◌≡◌, ◌+◌, ◌≤◌, length, drop}
use Rattle.std.specs.Iterator.Adapters.{zip_first, zip_second}
use Rattle.std.specs.Slice.Iter.{iter_rest}
use Rattle.sets.specs.Sets.{bases, size}
use Rattle.sets.specs.Rising.{bases_left}
use Rattle.stock.specs.Stock.{Spends}
use Rattle.stock.proofs.Layings.{laid_from, Leads}
use Rattle.stock.proofs.by_set.write_each.Given as goal

-- as many bases are written as values, and what is left to write completes what is written
abbrev pub invariant-loop-base : goal.invariant-loop-base
invariant-loop-base g l =
    let first = g.B.Book.holds l.initial.book in
    let now = g.B.Book.holds l.book in
    let left = bases_left (zip_first l.base-iterator) in
    let k = length l.yielded in
    (length left + k ≡ size l.set)
    × (iter_rest (zip_second l.base-iterator) ≡ drop k l.amounts)
    × (length left ≤ now.spare)
    × Spends k first.spare now.spare
    × (laid_from left k l.amounts now.amounts ≡ laid_from (bases l.set) 0 l.amounts first.amounts)
    × Leads g.B.Book.leaves l.amounts (bases l.set) l.initial.book left k l.book
