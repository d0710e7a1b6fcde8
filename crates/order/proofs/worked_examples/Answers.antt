use Rattle.std.proofs.Common.{refl}
use Rattle.sets.specs.Sets.{bases}
use Rattle.batches.specs.Laws.{WorkedRuns}
use Rattle.order.proofs.worked_examples.Goals as goal

runs : WorkedRuns
runs = record {
  draws_all = record { outcome_is = refl; step_is = refl; left_is = refl };
  draws_too_much = record { outcome_is = refl; step_is = refl; left_is = refl };
  draws_twice = record { outcome_is = refl; step_is = refl; left_is = refl };
  fills_up = record { outcome_is = refl; step_is = refl; left_is = refl };
  overflows = record { outcome_is = refl; step_is = refl; left_is = refl };
}

pub returns : goal.returns
unfolding bases
returns c = record {
  goes_first = refl;
  heard_later = refl;
  another_master = refl;
  unnumbered = refl;
  same_set = refl;
  not_within = refl;
  two_go_first = refl;
  runs = runs;
}
