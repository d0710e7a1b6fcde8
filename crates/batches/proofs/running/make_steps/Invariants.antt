-- The steps still to be made, from the amounts that the run has come to, give what the whole run gives.
use Rattle.std.proofs.Common.{◌≡◌, drop}
use Rattle.stock.specs.Stock.{amounts_in}
use Rattle.batches.specs.Runs.{run_from}
use Rattle.batches.proofs.running.make_steps.Given as goal

abbrev pub invariant-loop-place : goal.invariant-loop-place
invariant-loop-place l = run_from (drop l.place l.steps) l.place (amounts_in l.before) (amounts_in l.amounts) ≡ run_from l.steps 0 (amounts_in l.before) (amounts_in l.before)
