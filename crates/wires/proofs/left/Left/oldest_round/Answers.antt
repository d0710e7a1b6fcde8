use Rattle.std.proofs.Common.{rules, tests, ◌+◌, ◌%◌, sym, ◌∙◌}
use Rattle.wires.specs.Orders.{head, left_of}
use Rattle.wires.proofs.Rounds.{find_map-given, round-first, round-none}
use Rattle.wires.proofs.left.Left.oldest_round.Goals as goal

pub returns-in_err-oldest : goal.returns-in_err-oldest
returns-in_err-oldest c = c.from_residual.ensures ∙ sym (round-none c.args.self.now.posts c.args.self.now.list c.args.from (sym c.in_err-oldest.ensures))

pub returns : goal.returns
returns c =
    let run = c.find_map.ensures.runs in
    let given = find_map-given (λ k. head (left_of c.args.self.now.posts c.args.self.now.list ((c.args.from + k) % 8))) _ 8 c.find_map.result run.0 run.1 run.2 (λ x o q k. search (rules, tests)) in
    round-first c.args.self.now.posts c.args.self.now.list c.args.from c.find_map.result given
