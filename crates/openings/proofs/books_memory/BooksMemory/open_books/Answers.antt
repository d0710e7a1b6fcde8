use Rattle.std.proofs.Common.{◌≡◌, ◌∙◌, sym, ap, map, take, min, List, rules, arith}
use Rattle.std.proofs.lemmas.List.{map-id}
use Rattle.std.proofs.lemmas.Iterator.{YieldsList-from_take}
use Rattle.std.proofs.lemmas.Iterator.Consumers.{YieldsList-from_shown, YieldsList-end}
use Rattle.std.specs.Array.Iter.{array_steps, array_into_iter_items}
use Rattle.std.specs.Iterator.Adapters.{take_source, take_count}
use Rattle.openings.specs.declared.book_memory.BookMemory.{BookMemory}
use Rattle.openings.specs.Books.{spare_in}
use Rattle.openings.specs.Amounts.{amounts_of}
use Rattle.openings.proofs.Opened.{with_spare, opened}
use Rattle.openings.proofs.books_memory.BooksMemory.open_books.Goals as goal

pub returns : goal.returns
returns c =
    let begun = c.into_iter-memory-iterator.result in
    let same = c.into_iter-memory-iterator.ensures.into_iter_gives in
    let count : take_count begun ≡ c.args.rooms = ap take_count same ∙ omega (arith, c.take-memory-items.ensures.count) in
    let road = YieldsList-from_take {s = begun} c.args.rooms (YieldsList-from_shown (array_steps {A = BookMemory} {n = 4}) (λ (x : BookMemory). x) (array_into_iter_items {X = BookMemory} {n = 4}) (λ s t h. h.0) (λ s x t h. h) (take_source begun)) count in
    let all = YieldsList-end road c.loop-memory.yielded c.loop-memory.memory-iterator c.loop-memory.yielded_by c.next.result c.next.new.self c.in-None.is c.next.ensures.steps in
    let memories : array_into_iter_items (take_source begun) ≡ c.args.self.rooms = search rules in
    let yielded : c.loop-memory.yielded ≡ take c.args.rooms c.args.self.rooms = sym (map-id c.loop-memory.yielded) ∙ all.0 ∙ ap (λ (l : List BookMemory). take c.args.rooms l) memories in
    let value = c.loop-memory.invariant.held ∙ ap (λ (l : List BookMemory). map (λ m. with_spare (amounts_of c.args.opening.now) (spare_in m)) l) yielded
    ∙ opened (amounts_of c.args.opening.now) c.args.self.rooms c.args.rooms c.args.self.kinds in
    record { value = value; whole = λ h. let all_asked : min c.args.rooms 4 ≡ c.args.rooms = omega arith in rw all_asked at value }
