use Rattle.std.proofs.Common.{false, vec_items, sym, ap, ◌∙◌, arith}
use Rattle.std.proofs.lemmas.List.{get_or-map}
use Rattle.wires.specs.declared.post.Post.{Post}
use Rattle.wires.proofs.Ledgers.{batch-below, marked_is}
use Rattle.wires.proofs.ledger.Ledger.is_announced.Goals as goal

pub index-requires : goal.index-requires
index-requires c = batch-below c.args.self.now c.args.batch c.requires

pub returns : goal.returns
returns c =
    let l = c.args.self.now in
    let within = batch-below l c.args.batch c.requires in
    ap (λ (p : Post). p.announced) c.index.ensures
    ∙ sym (get_or-map (λ (p : Post). p.announced) (vec_items l.posts) c.args.batch c.index.result.now false (omega (arith, l.posts.ok.0)))
    ∙ marked_is l c.args.batch
