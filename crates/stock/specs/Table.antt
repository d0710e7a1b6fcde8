-- The table: a book whose amounts stand first in its buffer.
use Rattle.std.specs.Prelude.{◌≡◌, ℕ, List, [], ◌∷◌, ◌++◌, length, drop, None, vec_items, Option, nat_lt, slice_set}
use Rattle.lists.specs.Words.{any}
use Rattle.refusals.specs.Causes.{first_cause}
use Rattle.refusals.specs.declared.refusal.Refusal.{Refusal}
use Rattle.refusals.specs.declared.refusal.Refusal.TheVariants.{BufferLength, OverLimit}
use Rattle.stock.specs.declared.table.Table.{Table}
use Rattle.stock.specs.Stock.{Stock, amounts_in, over_limit}
use Rattle.stock.specs.Openings.{opening_stock}

-- a table's buffer, as a list
abbrev pub table_items : Table → List ℕ
table_items t = vec_items t.buffer

-- what a table holds: the amounts that stand first in its buffer, and always 4,096 spare entries
abbrev pub table_holds : Table → Stock
table_holds t = record { amounts = amounts_in (table_items t); spare = 4096 }

-- why a table is not opened over a buffer: it is too short, or an opening amount is above the limit
abbrev pub table_cause : List ℕ → List ℕ → Option Refusal
table_cause buffer opening = first_cause ((nat_lt (length buffer) 32, BufferLength) ∷ (any over_limit opening, OverLimit) ∷ [])

-- a table that is opened: it holds the opening amounts, which stand first in its buffer; the rest of the buffer stays
pub record TableOpened (buffer opening : List ℕ) (t : Table) : Type 0 where
  pub taken : table_cause buffer opening ≡ None
  pub holds : table_holds t ≡ opening_stock opening 4096
  pub items : table_items t ≡ opening ++ drop 32 buffer

-- what a taken write leaves of a table: the amount stands at its base, and no other place of the buffer is touched
abbrev pub TableLeaves : Table → Table → ℕ → ℕ → Type 0
TableLeaves old new base amount = table_items new ≡ slice_set (table_items old) base amount
