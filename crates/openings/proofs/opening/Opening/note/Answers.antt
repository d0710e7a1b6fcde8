use Rattle.std.proofs.lemmas.Bool.{le-ltb}
use Rattle.stock.specs.Stock.{over_limit}
use Rattle.stock.proofs.Causes.{amount_taken}
use Rattle.openings.proofs.Amounts.{small-set}
use Rattle.openings.proofs.opening.Opening.note.Goals as goal

pub invariant_of-self : goal.invariant_of-self
invariant_of-self c =
    let taken = amount_taken c.args.base c.args.amount _ c.in_ok-check_amount.ensures in
    record {
      small = small-set over_limit c.args.self.now.amounts c.args.base c.args.amount c.args.self.now.small (le-ltb 1000000000 c.args.amount taken.1);
    }
