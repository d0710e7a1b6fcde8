use Rattle.std.proofs.Common.{rules, ◌<◌, ◌-◌, take, ap, ◌∙◌, arith}
use Rattle.lists.proofs.Gaps.{take-closed}
use Rattle.batches.specs.Steps.{six}
use Rattle.batches.proofs.steps.Steps.remove.Goals as goal

pub returns-clause-cases : goal.returns-clause-cases
returns-clause-cases c =
    let s = c.args.self.now in
    let closing = rw c.six-six.ensures at c.in_ok-removed.ensures.cases.1 in
    let low : c.args.place < s.count = search rules in
    (search rules, c.from_six.ensures ∙ ap (take (s.count - 1)) closing ∙ take-closed (six s) c.args.place s.count low (omega arith))
