use Rattle.std.proofs.Common.{◌∙◌}
use Rattle.rooms.proofs.Loops.{member-any}
use Rattle.rooms.proofs.batch_list_calls.holds.Goals as goal

pub returns : goal.returns
returns c = c.contains.ensures.value ∙ member-any c.args.batch c.args.part.now
