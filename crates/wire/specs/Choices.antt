-- What a wire's own rule has a say in: which batch a numbering or a tentative telling takes up, and what becomes of wishes.
-- The interface leaves the rule to each wire, and gives it a name.
use Rattle.std.specs.Prelude.{ℕ, Ok, Err, Result}
use Rattle.refusals.specs.declared.refusal.Refusal.{Refusal}

pub data Choice : Type 0 where
  -- a batch was chosen for the definitive list
  numbered : ℕ → Choice
  -- a room was told a batch that was chosen for its tentative list: the room, and the batch
  told : ℕ → ℕ → Choice
  -- a batch was wished for
  wished : ℕ → Choice
  -- nothing that the rule minds
  nothing : Choice

-- the choice in a numbering: a refused one chooses nothing
abbrev pub numbering : Result ℕ Refusal → Choice
numbering (Ok b) = numbered b
numbering (Err e) = nothing

-- the choice in a tentative telling to a room
abbrev pub telling : ℕ → Result ℕ Refusal → Choice
telling room (Ok b) = told room b
telling room (Err e) = nothing
