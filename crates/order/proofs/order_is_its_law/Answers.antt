use Rattle.order.proofs.Serializers.{keeps_law, law_alone}
use Rattle.order.proofs.order_is_its_law.Goals as goal

pub returns : goal.returns
returns c = record { keeps = λ w heard D nd once. keeps_law w heard D once nd; alone = λ w heard D order nd once. law_alone w heard D once nd order }
