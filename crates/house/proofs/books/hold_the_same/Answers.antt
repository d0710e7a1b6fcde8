use Rattle.std.proofs.Common.{◌||◌, ◌∙◌, refl, ltb, eqb, rules, Bool, ℕ}
use borrow.Author.Tests.{tests}
use Rattle.std.proofs.lemmas.Iterator.{YieldsList-from_range}
use Rattle.std.proofs.lemmas.Iterator.Search.{all_from_yields_List}
use Rattle.house.proofs.Equals.{told_alike}
use Rattle.house.proofs.books.hold_the_same.Goals as goal

pub returns : goal.returns
returns g c =
    let a = g.B.Book.holds c.args.left.now in
    let b = g.B.Book.holds c.args.right.now in
    let alike : ℕ → Bool = λ x. ltb 31 x || eqb (a.amounts x) (b.amounts x) in
    record { value = all_from_yields_List alike _ _ c.all.result c.all.ensures.ran (YieldsList-from_range 0 32 32 refl refl) (λ x r q k. search (rules, tests)) ∙ told_alike a b }
