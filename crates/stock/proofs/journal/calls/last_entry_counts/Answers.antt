use Rattle.stock.proofs.Replays.{last_counts}
use Rattle.stock.proofs.journal.calls.last_entry_counts.Goals as goal

pub returns : goal.returns
returns c = last_counts
