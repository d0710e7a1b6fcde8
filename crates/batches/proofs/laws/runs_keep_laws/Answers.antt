use Rattle.batches.proofs.Runs.{others_stay, own_bases-count, limit_holds, done_or_fails, total_follows}
use Rattle.batches.proofs.laws.runs_keep_laws.Goals as goal

pub returns : goal.returns
returns c = record { others = others_stay; own = own_bases-count; limit = limit_holds; fails = done_or_fails; total = total_follows }
