use Rattle.std.proofs.Common.{List, map, ap, ◌∙◌, arith}
use Rattle.wires.specs.Meaning.{meaning_of}
use Rattle.wires.specs.Orders.{head}
use Rattle.wires.specs.Parts.{posted_of}
use Rattle.wires.specs.declared.post.Post.{Post}
use Rattle.wires.proofs.Chooses.{choice-small}
use Rattle.wires.proofs.ledger.Ledger.choose_number.Goals as goal

pub overflow_cast-result : goal.overflow_cast-result
overflow_cast-result g c =
    let l = c.args.self.now in
    let p = c.args.policy.now in
    let choice = c.choose_number.ensures ∙ ap (λ (ps : List Post). head (g.P.Policy.numbers p (map posted_of ps) (meaning_of l).definitive)) c.deref.ensures.value in
    omega (arith, choice-small l (meaning_of l).definitive _ (g.met.P.Policy.numbering p (meaning_of l).posts (meaning_of l).definitive) c.in_ok-batch.batch c.choose_number.result choice c.in_ok-batch.was)
