use Rattle.std.proofs.Common.{length, refl, ap, arith}
use Rattle.wire.specs.Calls.{with_heard}
use Rattle.wires.specs.Kept.{Kept, also_told}
use Rattle.wires.specs.Meaning.{meaning_of}
use Rattle.wires.proofs.Ledgers.{chosen-small, tell-place, still-sound, read_is, told-after, marked-after, counted-after}
use Rattle.wires.proofs.Sounds.{heard-sound}
use Rattle.wires.proofs.ledger.Ledger.tell.Goals as goal

pub tell-requires : goal.tell-requires
tell-requires c =
    let l = c.args.self.now in
    let p = c.index_mut.result.now in
    let read = read_is l c.args.room.number p p c.args.room.small c.index_mut.ensures.value in
    record {
      small = chosen-small l ((meaning_of l).tentative c.args.room.number) c.args.batch c.requires;
      few = omega (arith, tell-place l c.args.room.number c.args.batch c.requires, ap (λ (k : Kept). length k.told) read);
    }

pub invariant_of-self : goal.invariant_of-self
invariant_of-self c =
    let l = c.args.self.now in
    let w = meaning_of l in
    let room = c.args.room.number in
    let small = c.args.room.small in
    let b = c.args.batch in
    let p = c.index_mut.result.now in
    let q = c.tell.new.self in
    let read = c.index_mut.ensures.value in
    let after = told-after l room p q small read b c.tell.ensures in
    let sound = still-sound l _ (with_heard w room b) after (λ s. heard-sound w s room b c.requires) in
    record {
      place = l.place;
      eight = l.eight;
      sound = sound;
      marked = marked-after l room p q small read (λ k. also_told k b) c.tell.ensures (λ k. refl);
      counted = counted-after l room p q small read (λ k. also_told k b) c.tell.ensures (λ k. refl);
    }

pub returns : goal.returns
returns c = told-after c.args.self.now c.args.room.number c.index_mut.result.now c.tell.new.self c.args.room.small c.index_mut.ensures.value c.args.batch c.tell.ensures
