use Rattle.std.proofs.Common.{rules}
use Rattle.batches.specs.Sealed.{batch_of}
use Rattle.batches.proofs.RightSteps.{steps_low}
use Rattle.batches.proofs.sealed.SealedBatch.run.Goals as goal

pub make_steps-requires-clause-low : goal.make_steps-requires-clause-low
make_steps-requires-clause-low c = let low = steps_low (batch_of c.args.self.now) c.args.self.now.right in search rules
