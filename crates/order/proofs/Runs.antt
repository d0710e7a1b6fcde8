-- The laws of a run, in the words of the order: a run of a right batch changes no base outside its set, what it does
-- depends on its bases alone, and it leaves every amount at most 1,000,000,000.
use Rattle.std.proofs.Common.{◌≡◌, ℕ, ◌≤◌, true, false, ◌&&◌, leb, length}
use Rattle.std.proofs.lemmas.Bool.{and_parts}
use Rattle.lists.specs.Words.{member, all}
use Rattle.sets.specs.Sets.{bases, sized}
use Rattle.stock.specs.Stock.{Amounts}
use Rattle.batches.specs.Batches.{Batch, step_right, batch_right}
use Rattle.batches.specs.Laws.{Alike}
use Rattle.batches.specs.Runs.{run}
use Rattle.batches.proofs.Runs.{others_stay, own_bases-count, limit_holds}

-- no amount passes the limit
abbrev pub Small : Amounts → Type 0
Small m = (x : ℕ) → m x ≤ 1000000000

pub sized_of : (b : Batch) → batch_right b ≡ true → sized b.set ≡ true
sized_of b h = (and_parts (sized b.set) ((leb 1 (length b.steps) && leb (length b.steps) 6) && all (step_right b.set) b.steps) h).0

pub run_away : (b : Batch) → batch_right b ≡ true → (m : Amounts) (x : ℕ) → member x (bases b.set) ≡ false → (run b m).after x ≡ m x
run_away = others_stay

pub run_alike : (b : Batch) → batch_right b ≡ true → (m n : Amounts) → Alike b.set m n → Alike b.set (run b m).after (run b n).after
run_alike b h m n e = (own_bases-count b h m n e).after

pub run_small : (b : Batch) (m : Amounts) → Small m → Small (run b m).after
run_small = limit_holds
