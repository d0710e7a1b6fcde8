-- Sets of bases. A set is a number below 2 ^ 32 whose bit x, counted from the lowest, stands for base x.
use Rattle.std.specs.Prelude.{ℕ, ◌/◌, ◌%◌, ◌^◌, Bool, ◌&&◌, List, length, ◌==◌, nat_le}
use Rattle.lists.specs.Words.{any, all, keep, rising}

-- base x is in the set
abbrev pub has : ℕ → ℕ → Bool
has set x = (set / 2 ^ x % 2) == 1

-- the bases of a set, rising: those of the numbers 0 to 31 that are in it
unfoldable pub bases : ℕ → List ℕ
bases set = keep (has set) (rising 0 32)

-- how many bases a set has
abbrev pub size : ℕ → ℕ
size set = length (bases set)

-- a set has the size that a plan line and a batch may have: one to eight bases
abbrev pub sized : ℕ → Bool
sized set = nat_le 1 (size set) && nat_le (size set) 8

-- a lies within b: it has no base that b lacks
abbrev pub within : ℕ → ℕ → Bool
within a b = all (has b) (bases a)

-- a and b share a base
abbrev pub shares : ℕ → ℕ → Bool
shares a b = any (has b) (bases a)
