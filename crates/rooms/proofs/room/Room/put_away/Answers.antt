use Rattle.std.proofs.Common.{[], ◌∷◌, length, ap, arith}
use Rattle.std.proofs.lemmas.List.{length-append}
use Rattle.std.proofs.lemmas.Bool.{ltb-true}
use Rattle.lists.specs.Words.{member}
use Rattle.rooms.specs.Lists.{numbers_of}
use Rattle.rooms.proofs.Causes.{stood_known}
use Rattle.rooms.proofs.Removals.{length_without, one_at_least}
use Rattle.rooms.proofs.room.Room.put_away.Goals as goal

pub append-requires : goal.append-requires
append-requires c =
    let r = c.args.self.now in
    let b = c.args.batch in
    let xs = numbers_of r.waiting in
    let ys = numbers_of r.settled in
    record {
      small = ltb-true b 256 (stood_known r b c.requires);
      few = omega (arith, one_at_least (member b xs) (member b ys) c.requires, length_without b xs, length_without b ys, r.few);
    }

pub invariant_of-self-clause-few : goal.invariant_of-self-clause-few
invariant_of-self-clause-few c =
    let r = c.args.self.now in
    let b = c.args.batch in
    let xs = numbers_of r.waiting in
    let ys = numbers_of r.settled in
    omega (
      arith,
      one_at_least (member b xs) (member b ys) c.requires,
      length_without b xs,
      length_without b ys,
      ap length c.take_out.ensures,
      ap length c.take_out-2.ensures,
      ap length c.append.ensures,
      length-append (numbers_of r.installed) (b ∷ []),
      r.few,
    )
