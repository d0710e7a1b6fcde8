use Rattle.agreement.proofs.Counts.{settle_counts}
use Rattle.agreement.proofs.settle_counts_what_changed.Goals as goal

pub returns : goal.returns
returns c = settle_counts
