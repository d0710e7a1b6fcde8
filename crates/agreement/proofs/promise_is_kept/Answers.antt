use Rattle.agreement.proofs.Kept.{promise-kept}
use Rattle.agreement.proofs.promise_is_kept.Goals as goal

pub returns : goal.returns
returns c = promise-kept
