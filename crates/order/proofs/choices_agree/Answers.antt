use Rattle.order.proofs.Serials.{choices_agree_lem}
use Rattle.order.proofs.choices_agree.Goals as goal

pub returns : goal.returns
returns c = choices_agree_lem
