use Rattle.std.proofs.Common.{◌≡◌, ℕ, cond, length}
use Rattle.lists.specs.Words.{member}
use Rattle.sets.specs.Rising.{bases_left}
use Rattle.stock.specs.Stock.{amounts_in}
use Rattle.stock.specs.BySet.{only}
use Rattle.stock.proofs.by_set.read_set.Given as goal

-- the bases left to read have their amounts still to come
abbrev pub invariant-loop-base : goal.invariant-loop-base
invariant-loop-base g l =
    let m = (g.B.Book.holds l.book).amounts in
    (length l.amounts ≡ 32)
    × ((x : ℕ) → cond (member x (bases_left l.base-iterator)) (m x) (amounts_in l.amounts x) ≡ only l.set m x)
