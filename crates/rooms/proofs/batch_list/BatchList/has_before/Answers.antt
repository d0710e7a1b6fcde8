use Rattle.rooms.specs.Lists.{numbers_of}
use Rattle.rooms.proofs.Moves.{before-found, before-missing}
use Rattle.rooms.proofs.batch_list.BatchList.has_before.Goals as goal

pub returns-in-Some-Some : goal.returns-in-Some-Some
returns-in-Some-Some c =
    let w = c.in-Some-Some in
    before-found (numbers_of c.args.self.now) c.args.batch c.args.other w.at w.other_at w.ensures.0 w.ensures'.0 w.ensures'.1

pub returns-in_default-2 : goal.returns-in_default-2
returns-in_default-2 c = before-missing (numbers_of c.args.self.now) c.args.batch c.args.other (rw c.in_default.is-0 at c.place_of.ensures)
