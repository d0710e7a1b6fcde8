use Rattle.order.proofs.Walks.{order_appends}
use Rattle.order.proofs.numbering_appends.Goals as goal

pub returns : goal.returns
returns c = order_appends
