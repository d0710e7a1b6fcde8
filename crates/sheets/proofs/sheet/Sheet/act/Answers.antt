use Rattle.std.proofs.Common.{sym}
use Rattle.openings.specs.Amounts.{amounts_of}
use Rattle.sheets.proofs.sheet.Sheet.act.Goals as goal

pub returns-in-Ok : goal.returns-in-Ok
returns-in-Ok c =
    rw c.in-Begin-Blank.is-0
    (c.replace_with.ensures c.args.self.now.lines c.in-Begin-Blank.rooms c.in-Begin-Blank.wire (amounts_of c.args.self.now.opening) (sym c.in-Ok.ensures.refused) c.in-Ok.ensures.made)

pub returns-in-Seal-Planning : goal.returns-in-Seal-Planning
returns-in-Seal-Planning c = rw c.in-Seal-Planning.is-0 (c.replace_with-in-Seal-Planning.ensures c.args.self.now.lines)
