use Rattle.house.proofs.Steps.{wish-steps}
use Rattle.house.proofs.house.House.wish.Goals as goal

pub returns : goal.returns
returns g c = record { steps = wish-steps _ _ c.args.batch c.wish.ensures.same; choice = c.wish.ensures.choice }
