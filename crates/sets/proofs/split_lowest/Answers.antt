use Rattle.std.proofs.Common.{ap, ◌∙◌, arith}
use Rattle.sets.specs.Sets.{bases}
use Rattle.sets.proofs.Walks.{bases-none, bases_lowest, lowest_lt}
use Rattle.sets.proofs.split_lowest.Goals as goal

pub returns-then-set-eq0 : goal.returns-then-set-eq0
returns-then-set-eq0 c = ap bases c.if-set-eq0.true ∙ bases-none

pub returns : goal.returns
returns c = (bases_lowest c.args.set (omega arith) (omega arith), lowest_lt c.args.set (omega arith) (omega arith))
