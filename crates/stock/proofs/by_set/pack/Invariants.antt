use Rattle.std.proofs.Common.{◌≡◌, length, drop}
use Rattle.std.specs.Iterator.Adapters.{zip_first, zip_second}
use Rattle.sets.specs.Sets.{bases}
use Rattle.sets.specs.Rising.{bases_left}
use Rattle.stock.specs.Stock.{amounts_in}
use Rattle.stock.proofs.Packings.{Packing}
use Rattle.stock.proofs.by_set.pack.Given as goal

-- the bases left are those not yet packed
abbrev pub invariant-loop-place : goal.invariant-loop-place
invariant-loop-place l =
    let k = length l.yielded in
    ((zip_first l.place-iterator).start ≡ k)
    × ((zip_first l.place-iterator).end ≡ 8)
    × (bases_left (zip_second l.place-iterator) ≡ drop k (bases l.set))
    × Packing (bases l.set) (amounts_in l.amounts) k l.packed
