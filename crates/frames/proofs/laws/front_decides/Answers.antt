use Rattle.frames.proofs.Faults.{front_decides_lem}
use Rattle.frames.proofs.laws.front_decides.Goals as goal

pub returns : goal.returns
returns c = front_decides_lem
