-- No list gives an amount of what is no base: of a table, a part of the law that every book keeps. It stands here since an
-- impl's proof of a law may cite only specs/.
use Rattle.std.specs.Prelude.{◌≡◌, ℕ, ◌<◌, List}
use Rattle.std.proofs.lemmas.Bool.{le-ltb}
use Rattle.stock.specs.Stock.{amounts_in}

pub amounts_in-none : (xs : List ℕ) (x : ℕ) → 31 < x → amounts_in xs x ≡ 0
amounts_in-none xs x h = rw (le-ltb x 32 h)
