use Rattle.stock.proofs.Layings.{packed_back}
use Rattle.stock.proofs.by_set.packed_come_back.Goals as goal

pub returns : goal.returns
returns c = packed_back
