use Rattle.std.proofs.Common.{sym, ◌∙◌, rules}
use Rattle.wires.proofs.Ledgers.{posts-len, posts-few}
use Rattle.wires.proofs.ledger.Ledger.posted.Goals as goal

pub overflow_cast-result : goal.overflow_cast-result
overflow_cast-result c = let few = posts-few c.args.self.now in search rules

pub returns : goal.returns
returns c = c.len.ensures ∙ sym (posts-len c.args.self.now)
