use Rattle.std.proofs.Common.{refl}
use Rattle.house.proofs.Sames.{same_house, refused_map}
use Rattle.house.proofs.Chosen.{numbered-choice}
use Rattle.house.proofs.Steps.{number-steps}
use Rattle.house.proofs.house.House.number.Goals as goal

pub returns : goal.returns
returns g c = record {
  steps = number-steps _ _ c.number.result c.number.ensures.cases;
  same = refused_map c.number.result (λ e w. same_house _ _ refl w refl refl) c.number.ensures.same;
  choice = numbered-choice g.W.Wire.chooses _ _ c.number.result c.number.ensures.choice;
}
