-- How a frame is written: the text that each kind of frame has in capital digits.
use Rattle.std.specs.Prelude.{ℕ, zero, suc, ◌+◌, ◌/◌, ◌%◌, ◌^◌, ◌<◌, cond, List, [], ◌∷◌, ◌++◌, nat_lt}
use Rattle.frames.specs.declared.frame.Frame.{Frame}
use Rattle.frames.specs.declared.frame.Frame.TheVariants.{Begin, PlanLine, Opening, Seal, Amount}
use Rattle.frames.specs.Kinds.{number_of}

-- the character of a digit: 0 to 9, A to F
abbrev pub character : ℕ → ℕ
character digit = cond (nat_lt digit 10) (48 + digit) (55 + digit)

-- a number in so many digits, highest first
abbrev pub digits : ℕ → ℕ → List ℕ
digits zero n = []
digits (suc count) n = character (n / 16 ^ count % 16) ∷ digits count n

-- a number of one byte, and one of four
abbrev pub byte : ℕ → List ℕ
byte n = digits 2 n

abbrev pub word : ℕ → List ℕ
word n = digits 8 n

-- the text of a frame's fields
abbrev pub fields_text : Frame → List ℕ
fields_text (Begin rooms wire) = byte rooms ++ byte wire
fields_text (PlanLine room set) = byte room ++ word set
fields_text (Opening base amount) = byte base ++ word amount
fields_text Seal = []
fields_text (Amount room base) = byte room ++ byte base

-- the text of a frame
abbrev pub text : Frame → List ℕ
text f = byte (number_of f) ++ fields_text f

-- its fields are as small as their widths say
abbrev pub Fits : Frame → Type 0
Fits (Begin rooms wire) = (rooms < 2 ^ 8) × (wire < 2 ^ 8)
Fits (PlanLine room set) = (room < 2 ^ 8) × (set < 2 ^ 32)
Fits (Opening base amount) = (base < 2 ^ 8) × (amount < 2 ^ 32)
Fits Seal = Unit {0}
Fits (Amount room base) = (room < 2 ^ 8) × (base < 2 ^ 8)
