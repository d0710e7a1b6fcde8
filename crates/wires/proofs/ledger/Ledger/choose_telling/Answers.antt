use Rattle.std.proofs.Common.{arith}
use Rattle.wires.specs.Meaning.{meaning_of}
use Rattle.wires.proofs.Chooses.{choice-small, telling-choice}
use Rattle.wires.proofs.ledger.Ledger.choose_telling.Goals as goal

pub overflow_cast-result : goal.overflow_cast-result
overflow_cast-result g c =
    let l = c.args.self.now in
    let p = c.args.policy.now in
    let room = c.args.room.number in
    let list = (meaning_of l).tentative room in
    let choice = telling-choice l (λ posts list. g.P.Policy.tells p posts list room) room c.page.result.now c.deref.result.now c.choose_telling.result c.page.ensures c.deref.ensures.value c.choose_telling.ensures in
    omega (arith, choice-small l list _ (g.met.P.Policy.telling p (meaning_of l).posts list room) c.in_ok-batch.batch c.choose_telling.result choice c.in_ok-batch.was)
