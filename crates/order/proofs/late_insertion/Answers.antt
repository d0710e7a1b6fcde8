use Rattle.order.proofs.Serials.{late_last}
use Rattle.order.proofs.late_insertion.Goals as goal

pub returns : goal.returns
returns c = late_last
