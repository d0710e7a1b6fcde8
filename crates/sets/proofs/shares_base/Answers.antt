use Rattle.std.proofs.Common.{arith}
use Rattle.sets.proofs.Masks.{shares_mask}
use Rattle.sets.proofs.shares_base.Goals as goal

pub returns : goal.returns
returns c = shares_mask c.args.a c.args.b (omega arith)
