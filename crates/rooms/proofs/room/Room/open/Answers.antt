use Rattle.std.proofs.Common.{rules, refl}
use Rattle.rooms.proofs.Blanks.{new_is}
use Rattle.rooms.proofs.room.Room.open.Goals as goal

pub returns : goal.returns
returns c = let m = c.args.memory in record { cases = record { cause = search rules; number_is = refl; room = new_is _ _ _ _ m.waiting_empty m.settled_empty m.installed_empty m.records_blank } }
