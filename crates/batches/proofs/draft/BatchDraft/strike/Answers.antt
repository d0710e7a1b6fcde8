use Rattle.batches.proofs.Drafts.{right_removed}
use Rattle.batches.proofs.draft.BatchDraft.strike.Goals as goal

pub invariant_of-self-clause-right : goal.invariant_of-self-clause-right
invariant_of-self-clause-right c = let b = c.args.self.now in right_removed b.set c.args.place b.steps c.remove.new.self c.remove.result b.right c.remove.ensures.cases
