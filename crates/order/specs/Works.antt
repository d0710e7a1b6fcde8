-- The batches of a house by their numbers: what each one is, and which room is its master.
use Rattle.std.specs.Prelude.{◌≡◌, ℕ, Bool, true, List, [], ◌∷◌, slice_index_or}
use Rattle.std.specs.Option.{unwrap_or}
use Rattle.lists.specs.Words.{member}
use Rattle.sets.specs.Sets.{bases, within, shares}
use Rattle.plan.specs.Plan.{Plan, master_in}
use Rattle.batches.specs.Batches.{Batch, batch_right}
use Rattle.batches.specs.declared.step.Step.TheVariants.{Add}
use Rattle.wire.specs.Wire.{Posted}

pub record Works : Type 0 where
  -- the batch with a number
  pub batch : ℕ → Batch
  -- the room that works it out
  pub master : ℕ → ℕ

-- the set of a batch
abbrev pub set_of : Works → ℕ → ℕ
set_of w b = (w.batch b).set

-- the batch has base x
abbrev pub has_base : Works → ℕ → ℕ → Bool
has_base w b x = member x (bases (set_of w b))

-- a has no base that b lacks
abbrev pub lies_within : Works → ℕ → ℕ → Bool
lies_within w a b = within (set_of w a) (set_of w b)

-- a and b have a base in common
abbrev pub share : Works → ℕ → ℕ → Bool
share w a b = shares (set_of w a) (set_of w b)

-- every batch keeps the rules of a sealed one
abbrev pub Right : Works → Type 0
Right w = (b : ℕ) → batch_right (w.batch b) ≡ true

-- the master of a set; a set that the plan lacks counts as room 0's, but no batch of such a set is ever posted
abbrev pub master_of : Plan → ℕ → ℕ
master_of plan set = unwrap_or (master_in plan.lines set) 0

-- what stands for a batch that is not posted: a right one, so that no law needs an exception
abbrev pub no_post : Posted
no_post = record { room = 0; batch = record { set = 1; steps = Add 0 1 ∷ [] } }

-- the posted batches under a plan
abbrev pub works_of : Plan → List Posted → Works
works_of plan posts = record { batch = (λ b. (slice_index_or posts b no_post).batch); master = (λ b. master_of plan (slice_index_or posts b no_post).batch.set) }
