-- The journal: a book whose buffer takes one entry a write, over the opening amounts.
use Rattle.std.specs.Prelude.{◌≡◌, ℕ, ◌+◌, ◌-◌, ◌||◌, List, [], ◌∷◌, length, take, None, vec_items, vec_len, Option, Vec, nat_lt, slice_set}
use Rattle.std.specs.declared.alloc.Global.{Global}
use Rattle.lists.specs.Words.{any}
use Rattle.refusals.specs.Causes.{first_cause}
use Rattle.refusals.specs.declared.refusal.Refusal.{Refusal}
use Rattle.refusals.specs.declared.refusal.Refusal.TheVariants.{BufferLength, OverLimit}
use Rattle.stock.specs.declared.entry.Entry.{Entry}
use Rattle.stock.specs.declared.journal.Journal.{Journal}
use Rattle.stock.specs.Stock.{Stock, amounts_in, over_limit}
use Rattle.stock.specs.Openings.{opening_stock}
use Rattle.stock.specs.Entries.{replayed}

-- a journal's buffer, as a list
abbrev pub journal_items : Journal → List Entry
journal_items j = vec_items j.buffer

-- the entries that are written, in their order
abbrev pub written_entries : Journal → List Entry
written_entries j = take j.used (journal_items j)

-- what a journal holds: the opening amounts as the written entries changed them; the other entries are spare
abbrev pub journal_holds : Journal → Stock
journal_holds j = record { amounts = replayed (written_entries j) (amounts_in j.opening); spare = vec_len j.buffer - j.used }

-- why a journal is not opened over a buffer: it is too short or too long, or an opening amount is above the limit
abbrev pub journal_cause : List Entry → List ℕ → Option Refusal
journal_cause buffer opening = first_cause ((nat_lt (length buffer) 64 || nat_lt 4096 (length buffer), BufferLength) ∷ (any over_limit opening, OverLimit) ∷ [])

-- a journal that is opened: it holds the opening amounts, all its entries are spare, and the buffer stays as it is
pub record JournalOpened (buffer : Vec Entry Global) (amounts : List ℕ) (j : Journal) : Type 0 where
  pub taken : journal_cause (vec_items buffer) amounts ≡ None
  pub holds : journal_holds j ≡ opening_stock amounts (vec_len buffer)
  pub same : j.buffer ≡ buffer
  pub opening : j.opening ≡ amounts
  pub used : j.used ≡ 0

-- what a taken write leaves of a journal: the first spare entry is filled, and no other place is touched
pub record JournalLeaves (old new : Journal) (base amount : ℕ) : Type 0 where
  pub items : journal_items new ≡ slice_set (journal_items old) old.used (record { base = base; amount = amount })
  pub used : new.used ≡ old.used + 1
  pub opening : new.opening ≡ old.opening
