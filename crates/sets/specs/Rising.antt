-- A walk over a set's bases.
use Rattle.std.specs.Prelude.{ℕ, List}
use Rattle.sets.specs.declared.rising.RisingBases.{RisingBases}
use Rattle.sets.specs.Sets.{bases}

-- the bases that a walk has left, rising
abbrev pub bases_left : RisingBases → List ℕ
bases_left walk = bases walk.left
