use Rattle.std.proofs.Common.{rules}
use Rattle.wires.proofs.Marks.{no_marks}
use Rattle.wires.proofs.batch_list.BatchList.open.Goals as goal

pub invariant_of-result : goal.invariant_of-result
invariant_of-result c =
    let m = c.in_ok-marks.ensures.items_if_clones_equal (λ y e. e) in
    record {
      place = search rules;
      table = search rules;
      marked = λ b. rw (m, c.in_ok-numbers.ensures.items) (no_marks 256 b);
    }
