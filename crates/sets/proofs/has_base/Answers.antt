use Rattle.std.proofs.Common.{rules}
use Rattle.sets.proofs.Bases.{member-bases}
use Rattle.sets.proofs.has_base.Goals as goal

pub returns-then-base-lt32 : goal.returns-then-base-lt32
returns-then-base-lt32 c = let e = member-bases c.args.set c.args.base in search rules

pub returns-else-base-lt32 : goal.returns-else-base-lt32
returns-else-base-lt32 c = let e = member-bases c.args.set c.args.base in search rules
