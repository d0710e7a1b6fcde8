-- One shift worked through: two rooms, of which room 0 is master of the sets [0] and [0, 1], and 1,000 grams of base 0.
-- Batch 0 [0, 1] is numbered first, but room 0 hears batch 1 [0] before it; so batch 1 goes ahead, draws 300, and batch 0
-- falls short of its 900. At the end the house is quiet, though room 0 has settled one definitive entry of two.
use Rattle.std.specs.Prelude.{cond, List, [], ◌∷◌, None, ◌==◌}
use Rattle.refusals.specs.declared.refusal.Refusal.TheVariants.{AlreadyInstalled}
use Rattle.batches.specs.Batches.{Batch}
use Rattle.batches.specs.declared.outcome.Outcome.TheVariants.{Done, Short}
use Rattle.batches.specs.declared.step.Step.TheVariants.{Draw}
use Rattle.agreement.specs.Houses.{Given, House}
use Rattle.agreement.specs.Calls.{Call, post, number, hear, settle, pick, run, release, install, amount, Answer, refused, done, batch, settled, ran, amount_is, picked, Performed}
use Rattle.agreement.specs.Promises.{Quiet}

abbrev pub shift_given : Given
shift_given = record {
  plan = record { rooms = 2; lines = record { set = 1; master = 0 } ∷ record { set = 3; master = 0 } ∷ [] };
  opening = (λ x. cond (x == 0) 1000 0);
  spare = (λ _. 4096);
}

-- sets 1 and 3 are [0] and [0, 1]
abbrev pub draws_900 : Batch
draws_900 = record { set = 3; steps = Draw 0 900 ∷ [] }

abbrev pub draws_300 : Batch
draws_300 = record { set = 1; steps = Draw 0 300 ∷ [] }

abbrev pub shift_calls : List (Call × Answer)
shift_calls =
    (post 1 draws_900, batch 0) ∷ (post 0 draws_300, batch 1) ∷ (number, batch 0) ∷ (number, batch 1)
    ∷ (hear 0, batch 1) ∷ (hear 0, batch 0) ∷ (settle 0, settled 0 1 0)
    ∷ (run 0 1, ran Done 0) ∷ (release 0 1, done) ∷ (run 0 0, ran Short 1) ∷ (release 0 0, done)
    ∷ (hear 1, batch 0) ∷ (hear 1, batch 1) ∷ (settle 1, settled 0 0 0) ∷ (install 1 0, batch 1) ∷ (install 1 0, batch 0)
    ∷ (amount 1 0, amount_is 700) ∷ (pick 0, picked None) ∷ (release 0 1, refused AlreadyInstalled) ∷ []

pub record WorkedShift : Type 0 where
  pub after : House
  pub performed : Performed shift_given shift_calls after
  pub quiet : Quiet shift_given after
