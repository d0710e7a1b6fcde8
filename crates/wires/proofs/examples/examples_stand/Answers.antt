use Rattle.std.proofs.Common.{refl}
use Rattle.wires.specs.Orders.{round}
use Rattle.wires.proofs.examples.examples_stand.Goals as goal

pub returns : goal.returns
unfolding round
returns c = record {
  sequenced_numbers = λ b. refl;
  sequenced_tells_0 = λ b. refl;
  sequenced_tells_1 = λ b. refl;
  turn_numbers = λ b. refl;
  turn_tells_0 = λ b. refl;
  turn_tells_2 = λ b. refl;
  directed_numbers = λ b. refl;
  wish_numbers = λ b. refl;
  wish_not_allowed = λ b. refl;
}
