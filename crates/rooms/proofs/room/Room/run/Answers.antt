use Rattle.order.specs.Works.{Works}
use Rattle.rooms.specs.Views.{room_of, works}
use Rattle.rooms.proofs.Causes.{heard-known, run-heard, ok_cause}
use Rattle.rooms.proofs.room.Room.run.Goals as goal

pub mark-requires : goal.mark-requires
mark-requires g c =
    let r = c.args.self.now in
    let w : Works = works c.args.plan.now (g.W.Wire.meaning c.args.wire.now) in
    heard-known r c.args.batch (run-heard w r.number (room_of r) c.args.batch (ok_cause _ _ _ c.in_ok-check_run.ensures).0)
