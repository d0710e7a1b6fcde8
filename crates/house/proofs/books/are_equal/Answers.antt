use Rattle.std.proofs.Common.{◌≡◌, ap, sym, ◌∙◌, map, rules, get_or}
use borrow.Author.Tests.{tests}
use Rattle.std.proofs.lemmas.Iterator.{YieldsList-from_slice}
use Rattle.std.proofs.lemmas.Iterator.Search.{all_from_yields_List}
use Rattle.std.proofs.lemmas.List.Folds.{list_all-map}
use Rattle.lists.specs.Words.{all}
use Rattle.stock.specs.Stock.{Stock}
use Rattle.house.specs.Openings.{no_book, same_amounts}
use Rattle.house.proofs.Equals.{first_held}
use Rattle.house.proofs.books.are_equal.Goals as goal

pub returns : goal.returns
returns g c =
    let holds = g.B.Book.holds in
    let books = c.args.books.now in
    let first = c.in-Some.first.now in
    let is : holds first ≡ get_or (map holds books) 0 no_book = first_held holds no_book books first c.in-Some.ensures.value in
    record {
      value = all_from_yields_List (λ b. same_amounts (holds b) (holds first)) _ _ c.all.result c.all.ensures.ran (YieldsList-from_slice books cc) (λ x b q k. search (rules, tests))
          ∙ sym (list_all-map (λ b. same_amounts b (holds first)) holds books) ∙ ap (λ (s : Stock). all (λ b. same_amounts b s) (map holds books)) is;
    }
