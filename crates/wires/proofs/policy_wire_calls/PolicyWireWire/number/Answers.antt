use Rattle.std.proofs.Common.{sym, ap, ◌∙◌, rules}
use Rattle.wires.specs.Meaning.{meaning_of}
use Rattle.wires.proofs.Chooses.{may_choose, all-chosen}
use Rattle.wires.proofs.Preferences.{chosen-left}
use Rattle.wires.proofs.policy_wire_calls.PolicyWireWire.number.Goals as goal

pub poster-room-requires : goal.poster-room-requires
poster-room-requires g c =
    let l = c.args.self.now.ledger in
    (may_choose l (meaning_of l).definitive _ (g.met.P.Policy.numbering c.args.self.now.policy (meaning_of l).posts (meaning_of l).definitive) c.in_ok-batch.batch c.choose_number.result c.choose_number.ensures c.in_ok-batch.ensures.ok_part).posted

pub number-requires : goal.number-requires
number-requires g c =
    let l = c.args.self.now.ledger in
    may_choose l (meaning_of l).definitive _ (g.met.P.Policy.numbering c.args.self.now.policy (meaning_of l).posts (meaning_of l).definitive) c.in_ok-batch.batch c.choose_number.result c.choose_number.ensures c.in_ok-batch.ensures.ok_part

pub returns : goal.returns
returns g c =
    let l = c.args.self.now.ledger in
    let w = meaning_of l in
    let is = c.in_ok-batch.ensures.ok_part in
    let chosen = may_choose l w.definitive _ (g.met.P.Policy.numbering c.args.self.now.policy w.posts w.definitive) c.in_ok-batch.batch c.choose_number.result c.choose_number.ensures is in
    let first = sym c.choose_number.ensures ∙ is in
    let after = c.note_numbered.ensures ∙ ap (g.P.Policy.served c.args.self.now.policy) c.poster-room.ensures in
    record {
      cases = record { cause = rw (chosen-left w w.definitive c.in_ok-batch.batch chosen); chosen = chosen; after = c.number.ensures };
      same = tt;
      policy = record { value = first; after = after };
      choice = record { value = first; after = after };
    }

pub returns-in_err-batch : goal.returns-in_err-batch
returns-in_err-batch g c =
    let l = c.args.self.now.ledger in
    let w = meaning_of l in
    let all = all-chosen l w.definitive _ (g.met.P.Policy.numbering c.args.self.now.policy w.posts w.definitive) c.choose_number.result c.choose_number.ensures c.in_err-batch.ensures.ok_part in
    search rules
