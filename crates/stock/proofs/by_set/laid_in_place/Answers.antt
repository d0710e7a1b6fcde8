use Rattle.stock.proofs.Layings.{laid-right}
use Rattle.stock.proofs.by_set.laid_in_place.Goals as goal

pub returns : goal.returns
returns c = laid-right
