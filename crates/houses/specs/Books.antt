-- The books that a house opens with.
use Rattle.std.specs.Prelude.{ℕ, List, map}
use Rattle.lists.specs.Words.{rising}
use Rattle.stock.specs.Stock.{Amounts, Stock}
use Rattle.openings.specs.Books.{new_book}

-- the new books of so many rooms
abbrev pub new_books : ℕ → Amounts → List Stock
new_books rooms opening = map (new_book opening) (rising 0 rooms)
