-- The books that a house opens with, and what they lie over.
use Rattle.std.specs.Prelude.{ℕ, cond, nat_lt}
use Rattle.stock.specs.Stock.{Amounts, Stock}
use Rattle.openings.specs.declared.book_memory.BookMemory.{BookMemory}
use Rattle.openings.specs.declared.book_memory.BookMemory.TheVariants.{Table, Journal}

-- how many entries are spare in a new book over a room's memory
abbrev pub spare_in : BookMemory → ℕ
spare_in (Table buffer) = 4096
spare_in (Journal buffer) = 1024

-- the book that a room opens with: rooms 0 and 1 keep tables, the others journals of 1,024 entries
abbrev pub new_book : Amounts → ℕ → Stock
new_book opening room = record { amounts = opening; spare = cond (nat_lt room 2) 4096 1024 }
