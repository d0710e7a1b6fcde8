use Rattle.agreement.proofs.Kept.{promise-kept}
use Rattle.agreement.proofs.books_hold_the_serial_run.Goals as goal

pub returns : goal.returns
returns c = λ g l h p. (promise-kept g l h p).books
