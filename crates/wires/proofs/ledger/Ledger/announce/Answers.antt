use Rattle.std.proofs.Common.{rules}
use Rattle.wires.proofs.Causes.{over-small}
use Rattle.wires.proofs.ledger.Ledger.announce.Goals as goal

pub returns-then-any_over_limit-clause-cases : goal.returns-then-any_over_limit-clause-cases
returns-then-any_over_limit-clause-cases c =
    let over = over-small c.args.announcement in
    let small = c.in_ok-sender.sender.small in
    search rules

pub write_announcement-requires-clause-small : goal.write_announcement-requires-clause-small
write_announcement-requires-clause-small c = let over = over-small c.args.announcement in search rules

pub returns-clause-cases : goal.returns-clause-cases
returns-clause-cases c =
    let over = over-small c.args.announcement in
    let small = c.in_ok-sender.sender.small in
    search rules
