use Rattle.agreement.proofs.ShiftWorked as shift
use Rattle.agreement.proofs.worked_shift.Goals as goal

pub returns : goal.returns
returns c = shift.worked_shift_lem
