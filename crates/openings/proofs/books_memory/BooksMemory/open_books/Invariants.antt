use Rattle.std.proofs.Common.{◌≡◌, ◌≤◌, map, length, vec_len, vec_items, vec_capacity}
use Rattle.stock.specs.StockBook.{book_holds}
use Rattle.openings.specs.Books.{spare_in}
use Rattle.openings.specs.Amounts.{amounts_of}
use Rattle.openings.proofs.books_memory.BooksMemory.open_books.Given as goal

abbrev pub invariant-loop-memory : goal.invariant-loop-memory
invariant-loop-memory l = record {
  space : 4 ≤ vec_capacity l.books;
  count : vec_len l.books ≡ length l.yielded;
  held : map book_holds (vec_items l.books) ≡ map (λ m. record { amounts = amounts_of l.opening; spare = spare_in m }) l.yielded;
}
