-- The parts of a settle, over the lists and the table of records.
use Rattle.std.specs.Prelude.{ℕ, Bool, cond, ◌&&◌, List, [], is_some, None, ◌==◌, slice_index_or, slice_set}
use Rattle.lists.specs.Words.{before, keep}
use Rattle.order.specs.Works.{Works, lies_within, share}
use Rattle.rooms.specs.declared.record.Record.{Record}
use Rattle.rooms.specs.Records.{blank}

-- in the room k, a goes ahead of its own batch t, with which it waits
abbrev pub goes_ahead : Works → ℕ → List ℕ → ℕ → ℕ → Bool
goes_ahead w k waiting t a = (w.master a == k && lies_within w a t) && before waiting a t

-- all that go ahead of t
abbrev pub ahead_of : Works → ℕ → List ℕ → ℕ → List ℕ
ahead_of w k waiting t = cond (w.master t == k) (keep (goes_ahead w k waiting t) waiting) []

-- a batch that would lose its mark to t: it bears one, and has a base in common with t
abbrev pub would_lose : Works → List Record → ℕ → ℕ → Bool
would_lose w records t a = share w a t && is_some (slice_index_or records a blank).mark

-- the table with a batch's mark taken off
abbrev pub unmarked : List Record → ℕ → List Record
unmarked records b = slice_set records b (record { mark = None; serializer = (slice_index_or records b blank).serializer })
