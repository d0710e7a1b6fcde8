-- Entries of a journal, each a base and an amount, in the order in which they were written.
use Rattle.std.specs.Prelude.{◌≡◌, ℕ, suc, ◌<◌, ◌≤◌, ◌⊎◌, List, [], ◌∷◌, length, ◌≢◌, slice_index_or}
use Rattle.lists.specs.Words.{updated}
use Rattle.stock.specs.declared.entry.Entry.{Entry}
use Rattle.stock.specs.Stock.{Amounts}

-- the amounts after the entries: each in its turn replaces the amount of its base
abbrev pub replayed : List Entry → Amounts → Amounts
replayed [] opening = opening
replayed (e ∷ es) opening = replayed es (updated opening e.base e.amount)

-- the entry at a place, from 0
abbrev pub entry_at : List Entry → ℕ → Entry
entry_at entries place = slice_index_or entries place (record { base = 0; amount = 0 })

-- no entry from a place on has the base
abbrev pub NoneFrom : ℕ → List Entry → ℕ → Type 0
NoneFrom start entries base = (place : ℕ) → start ≤ place → place < length entries → (entry_at entries place).base ≢ base

-- the last entry of a base stands at the place
pub record LastAt (entries : List Entry) (base place : ℕ) : Type 0 where
  pub within : place < length entries
  pub here : (entry_at entries place).base ≡ base
  pub none_after : NoneFrom (suc place) entries base

-- the law of a journal: where no entry has a base its opening amount counts, and else the amount of its last entry
abbrev pub LastCounts : Type 0
LastCounts = (entries : List Entry) (opening : Amounts) (base : ℕ) →
    (NoneFrom 0 entries base × (replayed entries opening base ≡ opening base))
    ⊎ ((place : ℕ) × LastAt entries base place × (replayed entries opening base ≡ (entry_at entries place).amount))
