use Rattle.std.proofs.Common.{arith}
use Rattle.wires.proofs.Pages.{page-read}
use Rattle.wires.proofs.ledger.Ledger.page.Goals as goal

pub returns : goal.returns
returns c =
    let l = c.args.self.now in
    page-read l.pages.items c.args.room.number c.index.result.now (omega (arith, l.eight, l.pages.ok.0, c.args.room.small)) c.index.ensures
