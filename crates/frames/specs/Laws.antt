-- The rule of a fault's place, in terms of frames alone, and how much of a line is enough to read it.
use Rattle.std.specs.Prelude.{◌≡◌, ℕ, ◌+◌, ◌≤◌, ◌⊎◌, List, ◌++◌, length, take, Ok}
use Rattle.frames.specs.declared.frame.Frame.{Frame}
use Rattle.frames.specs.Digits.{fault}
use Rattle.frames.specs.Reading.{reading}
use Rattle.frames.specs.Writing.{text, Fits}

-- the line is a frame
abbrev pub IsFrame : List ℕ → Type 0
IsFrame xs = (f : Frame) × (reading xs ≡ Ok f)

-- some frame begins with these characters
abbrev pub Begins : List ℕ → Type 0
Begins xs = (ys : List ℕ) × IsFrame (xs ++ ys)

-- The place of a fault: some frame begins with the characters before it, and none with those and the one there, unless the
-- line ends there.
pub record FirstFault (xs : List ℕ) (place : ℕ) : Type 0 where
  pub within : place ≤ length xs
  pub before : Begins (take place xs)
  pub here : (place ≡ length xs) ⊎ (Begins (take (place + 1) xs) → ⊥)

-- a line that is no frame is answered with the place of its fault
abbrev pub FaultsAreFirst : Type 0
FaultsAreFirst = (xs : List ℕ) (place : ℕ) → reading xs ≡ fault place → FirstFault xs place

-- a frame's own text reads as that frame
abbrev pub TextsReadBack : Type 0
TextsReadBack = (f : Frame) → Fits f → reading (text f) ≡ Ok f

-- the first 125 characters of a line decide what it reads as
abbrev pub FrontDecides : Type 0
FrontDecides = (xs : List ℕ) → reading (take 125 xs) ≡ reading xs
