use Rattle.std.proofs.Common.{◌≡◌, [], ap, ◌∙◌}
use Rattle.batches.specs.Batches.{Batch, step_cause}
use Rattle.batches.specs.Sealed.{draft_of}
use Rattle.batches.specs.declared.step.Step.TheVariants.{Add}
use Rattle.rooms.proofs.Results.{set-taken, step-taken, taken}
use Rattle.rooms.proofs.running.stand_in.Goals as goal

pub unwrap-draft-requires : goal.unwrap-draft-requires
unwrap-draft-requires c = taken _ (c.write.ensures.refused ∙ set-taken)

pub unwrap-requires : goal.unwrap-requires
unwrap-requires c =
    let made : draft_of c.unwrap-draft.result ≡ record { set = 1; steps = [] } = rw c.unwrap-draft.ensures at c.write.ensures.made in
    taken _ (c.add_step.ensures.refused ∙ ap (λ (b : Batch). step_cause b (Add 0 1)) made ∙ step-taken)
