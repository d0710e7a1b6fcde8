use Rattle.std.proofs.Common.{sym, arith}
use Rattle.sets.proofs.Walks.{size_ones}
use Rattle.sets.proofs.count_bases.Goals as goal

pub returns : goal.returns
returns c = sym (size_ones c.args.set (omega arith))
