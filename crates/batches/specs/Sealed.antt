-- The batches of the code, as batches.
use Rattle.batches.specs.declared.draft.BatchDraft.{BatchDraft}
use Rattle.batches.specs.declared.sealed.SealedBatch.{SealedBatch}
use Rattle.batches.specs.Batches.{Batch}
use Rattle.batches.specs.Steps.{taken}

-- the batch that is written so far
abbrev pub draft_of : BatchDraft → Batch
draft_of b = record { set = b.set; steps = taken b.steps }

-- the batch that a sealed one stands for
abbrev pub batch_of : SealedBatch → Batch
batch_of b = record { set = b.set; steps = taken b.steps }
