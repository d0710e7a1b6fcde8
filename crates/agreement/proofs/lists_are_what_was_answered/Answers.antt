use Rattle.agreement.proofs.Kept.{promise-kept}
use Rattle.agreement.proofs.lists_are_what_was_answered.Goals as goal

pub returns : goal.returns
returns c = λ g l h p. (promise-kept g l h p).told
