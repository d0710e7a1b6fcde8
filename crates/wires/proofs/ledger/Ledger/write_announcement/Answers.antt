use Rattle.std.proofs.Common.{true, length, refl, ap, arith}
use Rattle.wire.specs.Calls.{with_announced}
use Rattle.wires.specs.Kept.{Kept}
use Rattle.wires.specs.Meaning.{meaning_of}
use Rattle.wires.specs.declared.post.Post.{Post}
use Rattle.wires.proofs.Ledgers.{announce-fits, still-sound, read_is, announced-after, marked_more, counted_more}
use Rattle.wires.proofs.Sounds.{announced-sound}
use Rattle.wires.proofs.ledger.Ledger.write_announcement.Goals as goal

pub announce-requires : goal.announce-requires
announce-requires c =
    let l = c.args.self.now in
    let p = c.index_mut-2.result.now in
    let read = read_is l c.args.sender.number p p c.args.sender.small c.index_mut-2.ensures.value in
    omega (arith, announce-fits l c.args.announcement.batch c.args.sender.number c.requires.posted c.requires.new, ap (λ (k : Kept). length k.announced) read)

pub invariant_of-self : goal.invariant_of-self
invariant_of-self c =
    let l = c.args.self.now in
    let sender = c.args.sender.number in
    let small = c.args.sender.small in
    let a = c.args.announcement in
    let p = c.index_mut-2.result.now in
    let q = c.announce.new.self in
    let read = c.index_mut-2.ensures.value in
    let wrote = c.announce.ensures in
    let old = c.index_mut.result.now in
    let new : Post = record { room = old.room; batch = old.batch; announced = true } in
    let found = c.index_mut.ensures.value in
    let after = announced-after l sender p q small read a wrote c.requires.posted old new found refl refl in
    record {
      place = l.place;
      eight = l.eight;
      sound = still-sound l _ (with_announced (meaning_of l) sender a) after (λ s. announced-sound (meaning_of l) s sender a c.requires.small);
      marked = marked_more l sender p q small read a wrote c.requires.posted old new found refl refl;
      counted = counted_more l sender p q small read a wrote c.requires.posted old new found refl refl c.requires.new;
    }

pub returns : goal.returns
returns c =
    let old = c.index_mut.result.now in
    let new : Post = record { room = old.room; batch = old.batch; announced = true } in
    announced-after c.args.self.now c.args.sender.number c.index_mut-2.result.now c.announce.new.self c.args.sender.small c.index_mut-2.ensures.value c.args.announcement c.announce.ensures c.requires.posted old new c.index_mut.ensures.value refl refl
