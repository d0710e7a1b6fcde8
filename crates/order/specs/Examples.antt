-- The worked examples: seven on the house order, five on runs.
use Rattle.std.specs.Prelude.{◌≡◌, ℕ, ◌+◌, ◌^◌, List, [], ◌∷◌, slice_index, slice_index_or}
use Rattle.batches.specs.Laws.{WorkedRuns}
use Rattle.order.specs.Works.{Works}
use Rattle.order.specs.Order.{house_order}

-- the set with these bases
abbrev pub set_with : List ℕ → ℕ
set_with [] = 0
set_with (x ∷ xs) = 2 ^ x + set_with xs

-- batches 0, 1, .. with these sets, each given by its bases, and these masters
abbrev pub batches_with : List (List ℕ) → List ℕ → Works
batches_with sets masters = record { batch = (λ b. record { set = set_with (slice_index_or sets b []); steps = [] }); master = (λ b. slice_index masters b) }

-- the order of batches of one master, who has heard them so
abbrev pub of_one_master : List (List ℕ) → List ℕ → List ℕ → List ℕ
of_one_master sets definitive heard = house_order (batches_with sets []) (λ _. heard) definitive

-- the order of batches 0 and 1 with different masters, who both have heard them so
abbrev pub of_two_masters : List (List ℕ) → List ℕ → List ℕ → List ℕ
of_two_masters sets definitive heard = house_order (batches_with sets (0 ∷ 1 ∷ [])) (λ _. heard) definitive

pub record WorkedExamples : Type 0 where
  -- definitive 0 [0, 1], 1 [0]: heard 1, 0; heard 0, 1; heard 1, 0 where 1 has another master; heard 1, 0 where 1 is unnumbered
  pub goes_first : of_one_master ((0 ∷ 1 ∷ []) ∷ (0 ∷ []) ∷ []) (0 ∷ 1 ∷ []) (1 ∷ 0 ∷ []) ≡ 1 ∷ 0 ∷ []
  pub heard_later : of_one_master ((0 ∷ 1 ∷ []) ∷ (0 ∷ []) ∷ []) (0 ∷ 1 ∷ []) (0 ∷ 1 ∷ []) ≡ 0 ∷ 1 ∷ []
  pub another_master : of_two_masters ((0 ∷ 1 ∷ []) ∷ (0 ∷ []) ∷ []) (0 ∷ 1 ∷ []) (1 ∷ 0 ∷ []) ≡ 0 ∷ 1 ∷ []
  pub unnumbered : of_one_master ((0 ∷ 1 ∷ []) ∷ (0 ∷ []) ∷ []) (0 ∷ []) (1 ∷ 0 ∷ []) ≡ 1 ∷ 0 ∷ []
  -- both [0], heard 1, 0
  pub same_set : of_one_master ((0 ∷ []) ∷ (0 ∷ []) ∷ []) (0 ∷ 1 ∷ []) (1 ∷ 0 ∷ []) ≡ 1 ∷ 0 ∷ []
  -- 0 [0], 1 [0, 1], heard 1, 0
  pub not_within : of_one_master ((0 ∷ []) ∷ (0 ∷ 1 ∷ []) ∷ []) (0 ∷ 1 ∷ []) (1 ∷ 0 ∷ []) ≡ 0 ∷ 1 ∷ []
  -- 0 [0, 1], 1 [0], 2 [1], heard 2, 1, 0
  pub two_go_first : of_one_master ((0 ∷ 1 ∷ []) ∷ (0 ∷ []) ∷ (1 ∷ []) ∷ []) (0 ∷ 1 ∷ 2 ∷ []) (2 ∷ 1 ∷ 0 ∷ []) ≡ 2 ∷ 1 ∷ 0 ∷ []
  -- from 700: draw 700; draw 701; draw 300 and 500. From 999,999,999: add 1; add 2
  pub runs : WorkedRuns
