-- Worked examples: batch 0 is posted by room 1, batch 1 by room 0, batch 2 by room 1. In which order does each wire number
-- them, and tell them to rooms 0 and 1?
use Rattle.std.specs.Prelude.{◌≡◌, ℕ, zero, suc, List, [], ◌∷◌, ◌++◌, Some, None, Option}
use Rattle.batches.specs.Batches.{Batch}
use Rattle.wire.specs.Wire.{Posted}
use Rattle.wires.specs.declared.any_policy.AnyPolicy.{AnyPolicy}
use Rattle.wires.specs.declared.kind.WireKind.TheVariants.{Sequenced, Turn, Directed}
use Rattle.wires.specs.AnyPolicies.{any_numbers, any_tells, any_served, any_heard, any_wished, any_fresh}
use Rattle.wires.specs.Orders.{head, poster}

-- a choice was made, or none: the list after it, and what goes on
abbrev pub go_on : Option ℕ → List ℕ → (ℕ → List ℕ) → List ℕ
go_on None list more = list
go_on (Some b) list more = more b

-- the definitive list after some more numberings
abbrev pub numbered : ℕ → AnyPolicy → List Posted → List ℕ → List ℕ
numbered zero p posts list = list
numbered (suc n) p posts list = go_on (head (any_numbers p posts list)) list (λ b. numbered n (any_served p (poster posts b)) posts (list ++ b ∷ []))

-- a room's tentative list after some more tellings
abbrev pub told : ℕ → AnyPolicy → List Posted → ℕ → List ℕ → List ℕ
told zero p posts room list = list
told (suc n) p posts room list = go_on (head (any_tells p posts list room)) list (λ b. told n (any_heard p) posts room (list ++ b ∷ []))

-- the three posts
abbrev pub three : Batch → List Posted
three b = record { room = 1; batch = b } ∷ record { room = 0; batch = b } ∷ record { room = 1; batch = b } ∷ []

pub record Examples : Type 0 where
  pub sequenced_numbers : (b : Batch) → numbered 4 (any_fresh Sequenced) (three b) [] ≡ 0 ∷ 1 ∷ 2 ∷ []
  pub sequenced_tells_0 : (b : Batch) → told 4 (any_fresh Sequenced) (three b) 0 [] ≡ 1 ∷ 0 ∷ 2 ∷ []
  pub sequenced_tells_1 : (b : Batch) → told 4 (any_fresh Sequenced) (three b) 1 [] ≡ 0 ∷ 2 ∷ 1 ∷ []
  -- room 0 has the first turn, then room 1, and then no other room has a post
  pub turn_numbers : (b : Batch) → numbered 4 (any_fresh Turn) (three b) [] ≡ 1 ∷ 0 ∷ 2 ∷ []
  pub turn_tells_0 : (b : Batch) → told 4 (any_fresh Turn) (three b) 0 [] ≡ 1 ∷ 0 ∷ 2 ∷ []
  pub turn_tells_2 : (b : Batch) → told 4 (any_fresh Turn) (three b) 2 [] ≡ 1 ∷ 0 ∷ 2 ∷ []
  pub directed_numbers : (b : Batch) → numbered 4 (any_fresh Directed) (three b) [] ≡ 0 ∷ 1 ∷ 2 ∷ []
  -- the last wish counts, and is used up
  pub wish_numbers : (b : Batch) → numbered 4 (any_wished (any_wished (any_fresh Directed) 1) 2) (three b) [] ≡ 2 ∷ 0 ∷ 1 ∷ []
  -- a wish that is not allowed is used up too
  pub wish_not_allowed : (b : Batch) → told 4 (any_wished (any_fresh Directed) 7) (three b) 1 [] ≡ 0 ∷ 1 ∷ 2 ∷ []
