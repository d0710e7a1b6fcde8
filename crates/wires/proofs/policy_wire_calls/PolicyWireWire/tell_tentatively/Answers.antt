use Rattle.std.proofs.Common.{◌≡◌, ℕ, true, Some, sym, ap, subst, ◌∙◌, arith, rules}
use Rattle.std.proofs.lemmas.Bool.{le-ltb}
use Rattle.wire.specs.Calls.{Chosen, all_there, with_heard}
use Rattle.wires.specs.Orders.{head}
use Rattle.wires.specs.Meaning.{meaning_of}
use Rattle.wires.proofs.Chooses.{may_choose, all-chosen}
use Rattle.wires.proofs.Preferences.{chosen-left}
use Rattle.wires.proofs.policy_wire_calls.PolicyWireWire.tell_tentatively.Goals as goal

pub tell-requires : goal.tell-requires
tell-requires g c =
    let l = c.args.self.now.ledger in
    let room = c.in_ok-room.room.number in
    let list = (meaning_of l).tentative room in
    may_choose l list _ (g.met.P.Policy.telling c.args.self.now.policy (meaning_of l).posts list room) c.in_ok-batch.batch c.choose_telling.result c.choose_telling.ensures c.in_ok-batch.ensures.ok_part

pub returns : goal.returns
returns g c =
    let l = c.args.self.now.ledger in
    let w = meaning_of l in
    let room = c.in_ok-room.room.number in
    let same = c.in_ok-room.ensures in
    let is = c.in_ok-batch.ensures.ok_part in
    let chosen = may_choose l (w.tentative room) _ (g.met.P.Policy.telling c.args.self.now.policy w.posts (w.tentative room) room) c.in_ok-batch.batch c.choose_telling.result c.choose_telling.ensures is in
    let may : Chosen w (w.tentative c.args.room) c.in_ok-batch.batch = subst (λ (r : ℕ). Chosen w (w.tentative r) c.in_ok-batch.batch) same chosen in
    let first = subst (λ (r : ℕ). head (g.P.Policy.tells c.args.self.now.policy w.posts (w.tentative r) r) ≡ Some c.in_ok-batch.batch) same (sym c.choose_telling.ensures ∙ is) in
    record {
      cases = record {
        cause = rw (le-ltb 7 c.args.room (omega (arith, c.in_ok-room.room.small)), chosen-left w (w.tentative c.args.room) c.in_ok-batch.batch may);
        chosen = may;
        after = c.tell.ensures ∙ ap (λ (r : ℕ). with_heard w r c.in_ok-batch.batch) same;
      };
      same = tt;
      policy = record { value = first; after = c.note_told.ensures };
      choice = record { value = first; after = c.note_told.ensures };
    }

pub returns-in_err-batch : goal.returns-in_err-batch
returns-in_err-batch g c =
    let l = c.args.self.now.ledger in
    let w = meaning_of l in
    let room = c.in_ok-room.room.number in
    let all = all-chosen l (w.tentative room) _ (g.met.P.Policy.telling c.args.self.now.policy w.posts (w.tentative room) room) c.choose_telling.result c.choose_telling.ensures c.in_err-batch.ensures.ok_part in
    let there = subst (λ (r : ℕ). all_there w (w.tentative r) ≡ true) c.in_ok-room.ensures all in
    let small = c.in_ok-room.room.small in
    search rules
