use Rattle.std.proofs.Common.{refl, ap, ◌∙◌, arith, rules}
use Rattle.wire.specs.Calls.{with_taken, entry_waits, next_entry}
use Rattle.wires.specs.Kept.{Kept, also_taken}
use Rattle.wires.specs.Meaning.{meaning_of}
use Rattle.wires.proofs.Causes.{then-some, entry_below}
use Rattle.wires.proofs.Ledgers.{numbered-few, still-sound, read_is, taken-after, marked-after, counted-after}
use Rattle.wires.proofs.Sounds.{taken-sound}
use Rattle.wires.proofs.ledger.Ledger.tell_definitively.Goals as goal

pub take_entry-requires : goal.take_entry-requires
take_entry-requires c =
    let l = c.args.self.now in
    let w = meaning_of l in
    let room = c.in_ok-room.room.number in
    let p = c.index_mut.result.now in
    let waits = then-some (entry_waits w room) (next_entry w room) c.in_ok-entry.entry c.next_entry.result c.next_entry.ensures c.in_ok-entry.ensures.ok_part in
    let read = read_is l room p p c.in_ok-room.room.small c.index_mut.ensures.value in
    let below = entry_below w room waits.0 in
    omega (arith, numbered-few l, ap (λ (k : Kept). k.taken) read)

pub invariant_of-self : goal.invariant_of-self
invariant_of-self c =
    let l = c.args.self.now in
    let w = meaning_of l in
    let room = c.in_ok-room.room.number in
    let small = c.in_ok-room.room.small in
    let p = c.index_mut.result.now in
    let q = c.take_entry.new.self in
    let read = c.index_mut.ensures.value in
    let waits = then-some (entry_waits w room) (next_entry w room) c.in_ok-entry.entry c.next_entry.result c.next_entry.ensures c.in_ok-entry.ensures.ok_part in
    let after = taken-after l room p q small read c.take_entry.ensures in
    let sound = still-sound l _ (with_taken w room) after (λ s. taken-sound w s room (entry_below w room waits.0)) in
    record {
      place = l.place;
      eight = l.eight;
      sound = sound;
      marked = marked-after l room p q small read also_taken c.take_entry.ensures (λ k. refl);
      counted = counted-after l room p q small read also_taken c.take_entry.ensures (λ k. refl);
    }

pub returns : goal.returns
returns c =
    let l = c.args.self.now in
    let w = meaning_of l in
    let room = c.in_ok-room.room.number in
    let small = c.in_ok-room.room.small in
    let waits = then-some (entry_waits w room) (next_entry w room) c.in_ok-entry.entry c.next_entry.result c.next_entry.ensures c.in_ok-entry.ensures.ok_part in
    record {
      cases = record {
        cause = search rules;
        value = waits.1 ∙ ap (next_entry w) c.in_ok-room.ensures;
        after =
            taken-after l room c.index_mut.result.now c.take_entry.new.self small c.index_mut.ensures.value c.take_entry.ensures
            ∙ ap (with_taken w) c.in_ok-room.ensures;
      };
      same = tt;
    }
