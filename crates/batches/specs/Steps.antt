-- The steps of a batch in code, as a list.
use Rattle.std.specs.Prelude.{List, [], ◌∷◌, take}
use Rattle.batches.specs.declared.step.Step.{Step}
use Rattle.batches.specs.declared.steps.Steps.{Steps}

-- the six steps of a batch, taken or not
abbrev pub six : Steps → List Step
six s = s.first ∷ s.second ∷ s.third ∷ s.fourth ∷ s.fifth ∷ s.sixth ∷ []

-- the steps that are taken, in order
abbrev pub taken : Steps → List Step
taken s = take s.count (six s)
