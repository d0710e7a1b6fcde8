use Rattle.std.proofs.Common.{false, arith, rules}
use Rattle.std.proofs.lemmas.List.{get_or_past}
use Rattle.wires.proofs.batch_list.BatchList.holds.Goals as goal

pub returns-else-batch-len : goal.returns-else-batch-len
returns-else-batch-len c =
    let l = c.args.self.now in
    let e = l.marked c.args.batch in
    let past = get_or_past l.marks.items c.args.batch false (omega (arith, l.marks.ok.0)) in
    search rules
