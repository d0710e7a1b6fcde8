-- A list with an element taken out at a place.
use Rattle.std.specs.Prelude.{ℕ, ◌+◌, ◌-◌, List, ◌++◌, length, take, drop}

module _ {X : Type 0} where
  -- the list without the element at a place, the rest in order
  abbrev pub without_at : ℕ → List X → List X
  without_at at xs = take at xs ++ drop (at + 1) xs

  -- the list with the gap at a place closed: without the element there, and as long as before, since its last element
  -- stands once more at the end
  abbrev pub closed : ℕ → List X → List X
  closed at xs = without_at at xs ++ drop (length xs - 1) xs
