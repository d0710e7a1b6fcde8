use Rattle.std.proofs.Common.{sym, ap, ◌∙◌}
use Rattle.batches.specs.Batches.{Batch}
use Rattle.wire.specs.Wire.{Posted}
use Rattle.agreement.specs.Rooms.{result_of}
use Rattle.rooms.proofs.Posts.{posted-none}
use Rattle.rooms.proofs.running.work_out.Goals as goal

pub returns-in-None : goal.returns-in-None
returns-in-None g c =
    let m = (g.B.Book.holds c.args.book.now).amounts in
    let none = ap (λ (p : Posted). p.batch) (posted-none (g.W.Wire.meaning c.works.inside.wire.now).posts c.args.number c.in-None.ensures) in
    rw (← c.works.view_is) (c.run_on-in-None.ensures ∙ ap (λ (b : Batch). result_of b m) (c.stand_in.ensures ∙ sym none))
