-- The house order, and the serial run that the books are held against.
use Rattle.std.specs.Prelude.{ℕ, Bool, cond, not, ◌&&◌, List, [], ◌∷◌, ◌++◌, ◌==◌}
use Rattle.lists.specs.Words.{member, before, keep}
use Rattle.stock.specs.Stock.{Amounts}
use Rattle.batches.specs.Runs.{run}
use Rattle.order.specs.Works.{Works, lies_within}

-- a goes ahead of q: both have one master, a lies within q, and a stands before q in that master's tentative list
abbrev pub goes_ahead : Works → (ℕ → List ℕ) → ℕ → ℕ → Bool
goes_ahead w heard a q = (w.master a == w.master q && lies_within w a q) && before (heard (w.master q)) a q

-- what is placed for an entry q: in the order of its master's tentative list, each batch that goes ahead of q and is
-- not placed yet, and then q; q alone where that list lacks it, since nothing stands before it there
abbrev pub group : Works → (ℕ → List ℕ) → List ℕ → ℕ → List ℕ
group w heard placed q = keep (λ a. goes_ahead w heard a q && not (member a placed)) (heard (w.master q)) ++ q ∷ []

-- walk the definitive list, and pass over entries that are placed already
abbrev pub walk : Works → (ℕ → List ℕ) → List ℕ → List ℕ → List ℕ
walk w heard placed [] = placed
walk w heard placed (q ∷ rest) = walk w heard (cond (member q placed) placed (placed ++ group w heard placed q)) rest

-- the house order, by the rooms' tentative lists and the definitive list
abbrev pub house_order : Works → (ℕ → List ℕ) → List ℕ → List ℕ
house_order w heard definitive = walk w heard [] definitive

-- batches singly in a given order, each by the rule of a run on what the last one left
abbrev pub serial_run : Works → List ℕ → Amounts → Amounts
serial_run w [] m = m
serial_run w (b ∷ bs) m = serial_run w bs (run (w.batch b) m).after
