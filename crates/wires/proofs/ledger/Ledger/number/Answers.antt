use Rattle.wire.specs.Calls.{with_number}
use Rattle.wires.specs.Meaning.{meaning_of}
use Rattle.wires.specs.Parts.{numbers_of}
use Rattle.wires.proofs.Ledgers.{chosen-small, number-place, still-sound, number-after}
use Rattle.wires.proofs.Sounds.{number-sound}
use Rattle.wires.proofs.ledger.Ledger.number.Goals as goal

pub append-requires : goal.append-requires
append-requires c =
    let l = c.args.self.now in
    record { small = chosen-small l (meaning_of l).definitive c.args.batch c.requires; room = number-place l c.args.batch c.requires }

pub invariant_of-self : goal.invariant_of-self
invariant_of-self c =
    let l = c.args.self.now in
    let w = meaning_of l in
    let after = number-after l (numbers_of c.append.new.self) c.args.batch c.append.ensures in
    let sound = still-sound l _ (with_number w c.args.batch) after (λ s. number-sound w s c.args.batch c.requires) in
    record {
      place = l.place;
      eight = l.eight;
      sound = sound;
      marked = l.marked;
      counted = l.counted;
    }
