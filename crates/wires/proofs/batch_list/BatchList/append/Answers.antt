use Rattle.std.proofs.Common.{arith, rules}
use Rattle.wires.specs.Parts.{numbers_of}
use Rattle.wires.proofs.Marks.{marks-push}
use Rattle.wires.proofs.batch_list.BatchList.append.Goals as goal

pub invariant_of-self : goal.invariant_of-self
invariant_of-self c =
    let l = c.args.self.now in
    let p = c.push_reserved.ensures in
    record {
      place = search rules;
      table = search rules;
      marked = λ b. rw p.items (marks-push l.marks.items (numbers_of l) c.args.batch (omega (arith, l.marks.ok.0, l.table)) l.marked b);
    }
