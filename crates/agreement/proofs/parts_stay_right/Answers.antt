use Rattle.agreement.proofs.Kept.{promise-kept}
use Rattle.agreement.proofs.parts_stay_right.Goals as goal

pub returns : goal.returns
returns c = λ g l h p. (promise-kept g l h p).parts
