use Rattle.frames.proofs.Faults.{faults_are_first_lem}
use Rattle.frames.proofs.laws.faults_are_first.Goals as goal

pub returns : goal.returns
returns c = faults_are_first_lem
