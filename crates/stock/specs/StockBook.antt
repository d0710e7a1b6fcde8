-- A book of either kind.
use Rattle.std.specs.Prelude.{ℕ}
use Rattle.stock.specs.declared.stock_book.StockBook.{StockBook}
use Rattle.stock.specs.declared.stock_book.StockBook.TheVariants.{Table as a_table, Journal as a_journal}
use Rattle.stock.specs.Stock.{Stock}
use Rattle.stock.specs.Table.{table_holds, TableLeaves}
use Rattle.stock.specs.Journal.{journal_holds, JournalLeaves}

-- what a book of either kind holds
abbrev pub book_holds : StockBook → Stock
book_holds (a_table t) = table_holds t
book_holds (a_journal j) = journal_holds j

-- what a taken write leaves of a book of either kind: a book of the same kind, and what that kind leaves
abbrev pub BookLeaves : StockBook → StockBook → ℕ → ℕ → Type 0
BookLeaves (a_table t) (a_table u) base amount = TableLeaves t u base amount
BookLeaves (a_journal j) (a_journal k) base amount = JournalLeaves j k base amount
BookLeaves (a_table t) (a_journal k) base amount = ⊥
BookLeaves (a_journal j) (a_table u) base amount = ⊥
