use Rattle.std.proofs.Common.{arith}
use Rattle.sets.proofs.Masks.{within_mask}
use Rattle.sets.proofs.lies_within.Goals as goal

pub returns : goal.returns
returns c = within_mask c.args.a c.args.b (omega arith)
