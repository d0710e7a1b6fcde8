-- Opening a book over a buffer that is handed in. It holds the opening amounts, or is refused and hands the buffer back.
use Rattle.std.specs.Prelude.{◌≡◌, ℕ, Bool, not, List, [], ◌∷◌, Some, Option, Vec}
use Rattle.std.specs.declared.alloc.Global.{Global}
use Rattle.refusals.specs.declared.refusal.Refusal.{Refusal}
use Rattle.stock.specs.declared.returned.Returned.{Returned}
use Rattle.refusals.specs.Causes.{first_cause}
use Rattle.refusals.specs.declared.refusal.Refusal.TheVariants.{BufferLength, OverLimit}
use Rattle.lists.specs.Words.{any}
use Rattle.stock.specs.Stock.{Stock, amounts_in, over_limit}

-- what a new book holds: the opening amounts, by base, and so many spare entries
abbrev pub opening_stock : List ℕ → ℕ → Stock
opening_stock opening spare = record { amounts = amounts_in opening; spare = spare }

-- why no book is opened over a buffer: its length does not fit, or an opening amount is above the limit
abbrev pub opening_cause : Bool → List ℕ → Option Refusal
opening_cause fits opening = first_cause ((not fits, BufferLength) ∷ (any over_limit opening, OverLimit) ∷ [])

-- a refused opening: the cause that it gives is the right one, and the buffer comes back as it was
pub record HandedBack {T : Type 0} (cause : Option Refusal) (buffer : Vec T Global) (e : Returned T) : Type 0 where
  pub why : cause ≡ Some e.cause
  pub same : e.buffer ≡ buffer
