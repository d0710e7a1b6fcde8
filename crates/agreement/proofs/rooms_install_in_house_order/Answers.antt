use Rattle.agreement.proofs.Kept.{promise-kept}
use Rattle.agreement.proofs.rooms_install_in_house_order.Goals as goal

pub returns : goal.returns
returns c = λ g l h p. (promise-kept g l h p).installed
