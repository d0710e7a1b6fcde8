use Rattle.agreement.proofs.Kept.{promise-kept}
use Rattle.agreement.proofs.calls_have_one_kind_of_answer.Goals as goal

pub returns : goal.returns
returns c = λ g l h p. (promise-kept g l h p).answered
