use Rattle.openings.proofs.Amounts.{amounts-none}
use Rattle.openings.proofs.opening.Opening.new.Goals as goal

pub returns : goal.returns
returns c = amounts-none
