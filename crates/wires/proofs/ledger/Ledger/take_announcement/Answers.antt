use Rattle.std.proofs.Common.{refl, ap, ◌∙◌, arith, rules}
use Rattle.wire.specs.Calls.{with_received, announcement_waits, next_announcement}
use Rattle.wires.specs.Kept.{Kept, also_received}
use Rattle.wires.specs.Meaning.{meaning_of}
use Rattle.wires.proofs.Causes.{then-some, announcement_below}
use Rattle.wires.proofs.Ledgers.{announced-few, still-sound, read_is, received-after, marked-after, counted-after}
use Rattle.wires.proofs.Sounds.{received-sound}
use Rattle.wires.proofs.ledger.Ledger.take_announcement.Goals as goal

pub receive-requires : goal.receive-requires
receive-requires c =
    let l = c.args.self.now in
    let w = meaning_of l in
    let room = c.in_ok-room.room.number in
    let sender = c.in_ok-sender.sender.number in
    let p = c.index_mut.result.now in
    let waits = then-some (announcement_waits w room sender) (next_announcement w room sender) c.in_ok-ok_or.field-0 c.waiting.result c.waiting.ensures c.in_ok-ok_or.ensures.ok_part in
    let read = read_is l room p p c.in_ok-room.room.small c.index_mut.ensures.value in
    omega (arith, announcement_below w room sender waits.0, announced-few l sender, ap (λ (k : Kept). k.received sender) read)

pub invariant_of-self : goal.invariant_of-self
invariant_of-self c =
    let l = c.args.self.now in
    let w = meaning_of l in
    let room = c.in_ok-room.room.number in
    let small = c.in_ok-room.room.small in
    let sender = c.in_ok-sender.sender.number in
    let p = c.index_mut.result.now in
    let q = c.receive.new.self in
    let read = c.index_mut.ensures.value in
    let waits = then-some (announcement_waits w room sender) (next_announcement w room sender) c.in_ok-ok_or.field-0 c.waiting.result c.waiting.ensures c.in_ok-ok_or.ensures.ok_part in
    let after = received-after l room p q small read sender c.receive.ensures in
    let sound = still-sound l _ (with_received w room sender) after (λ s. received-sound w s room sender (announcement_below w room sender waits.0)) in
    record {
      place = l.place;
      eight = l.eight;
      sound = sound;
      marked = marked-after l room p q small read (λ k. also_received k sender) c.receive.ensures (λ k. refl);
      counted = counted-after l room p q small read (λ k. also_received k sender) c.receive.ensures (λ k. refl);
    }

pub returns : goal.returns
returns c =
    let l = c.args.self.now in
    let w = meaning_of l in
    let room = c.in_ok-room.room.number in
    let small = c.in_ok-room.room.small in
    let sender = c.in_ok-sender.sender.number in
    let sender_small = c.in_ok-sender.sender.small in
    let waits = then-some (announcement_waits w room sender) (next_announcement w room sender) c.in_ok-ok_or.field-0 c.waiting.result c.waiting.ensures c.in_ok-ok_or.ensures.ok_part in
    record {
      cases = record {
        cause = search rules;
        after =
            received-after l room c.index_mut.result.now c.receive.new.self small c.index_mut.ensures.value sender c.receive.ensures
            ∙ (λ i. with_received w (c.in_ok-room.ensures i) (c.in_ok-sender.ensures i));
      };
      same = tt;
    }
