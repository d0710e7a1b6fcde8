use Rattle.std.proofs.Common.{vec_items, sym, arith}
use Rattle.wires.proofs.Ledgers.{posts-len}
use Rattle.wires.proofs.Scans.{poster-read}
use Rattle.wires.proofs.ledger.Ledger.poster.Goals as goal

pub index-requires : goal.index-requires
index-requires c = omega (arith, posts-len c.args.self.now, c.requires)

pub returns : goal.returns
returns c =
    let l = c.args.self.now in
    sym (poster-read (vec_items l.posts) c.args.batch c.index.result.now (omega (arith, posts-len l, l.posts.ok.0, c.requires)) c.index.ensures)
