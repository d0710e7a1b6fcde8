use Rattle.std.proofs.Common.{sym, ◌∙◌}
use Rattle.rooms.specs.Views.{room_of, works_in}
use Rattle.rooms.proofs.Firsts.{first_is}
use Rattle.rooms.proofs.room.Room.is_first.Goals as goal

pub returns : goal.returns
returns g c = c.leads_lines.ensures ∙ sym (first_is (works_in c.args.works.now) (room_of c.args.self.now) c.args.batch)
