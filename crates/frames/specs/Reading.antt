-- What a line reads as: the frame that it is, or the place of its fault.
use Rattle.std.specs.Prelude.{ℕ, ◌+◌, ◌*◌, ◌/◌, Bool, false, cond, ◌||◌, List, [], ◌∷◌, Ok, Result, ◌==◌}
use Rattle.frames.specs.declared.frame.Frame.{Frame}
use Rattle.frames.specs.declared.frame.TextFault.{TextFault}
use Rattle.frames.specs.Digits.{fault, then, digit_at, number_at, end_at}
use Rattle.frames.specs.Kinds.{Kind, kinds}

-- the fields from a place on, and then the line's end
abbrev pub fields_at : List ℕ → ℕ → List ℕ → (List ℕ → Frame) → Result Frame TextFault
fields_at xs at [] frame = then (end_at xs at) (λ _. Ok (frame []))
fields_at xs at (width ∷ widths) frame =
    then (number_at xs at (2 * width)) (λ value. fields_at xs (at + 2 * width) widths (λ values. frame (value ∷ values)))

-- the number of some kind begins with the digit
abbrev pub begins_kind : List Kind → ℕ → Bool
begins_kind [] high = false
begins_kind (k ∷ ks) high = high == k.number / 16 || begins_kind ks high

-- the number that a line's first two digits write, where the first begins the number of some kind
abbrev pub kind_of : List Kind → List ℕ → Result ℕ TextFault
kind_of ks xs =
    then (digit_at xs 0) (λ high.
    cond (begins_kind ks high) (then (digit_at xs 1) (λ low. Ok (high * 16 + low))) (fault 0))

-- the frame of the kind with that number, if there is one: if there is none, the second digit is the fault
abbrev pub frame_of : List Kind → List ℕ → ℕ → Result Frame TextFault
frame_of [] xs number = fault 1
frame_of (k ∷ ks) xs number = cond (number == k.number) (fields_at xs 2 k.widths k.frame) (frame_of ks xs number)

-- a line, by a table of kinds
abbrev pub reading_by : List Kind → List ℕ → Result Frame TextFault
reading_by ks xs = then (kind_of ks xs) (frame_of ks xs)

-- a line
abbrev pub reading : List ℕ → Result Frame TextFault
reading xs = reading_by kinds xs
