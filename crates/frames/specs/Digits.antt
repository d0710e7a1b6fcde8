-- Hexadecimal digits, and the numbers that they write in a line. A line is a list of characters, each by its code.
use Rattle.std.specs.Prelude.{ℕ, zero, suc, ◌+◌, ◌-◌, ◌*◌, cond, ◌&&◌, List, length, Some, None, Ok, Err, Option, Result, nat_le, slice_index}
use Rattle.std.specs.Option.{ok_or}
use Rattle.frames.specs.declared.frame.TextFault.{TextFault}

-- the value of a digit of either case: 0 to 9, A to F, a to f; none for any other character
abbrev pub digit_value : ℕ → Option ℕ
digit_value c =
    cond (nat_le 48 c && nat_le c 57) (Some (c - 48))
    (cond (nat_le 65 c && nat_le c 70) (Some (c - 55))
    (cond (nat_le 97 c && nat_le c 102) (Some (c - 87))
    None))

-- a fault at a place
abbrev pub fault : {A : Type 0} → ℕ → Result A TextFault
fault at = Err (record { place = at })

-- one part of a reading after another: the first fault is the fault of the whole
abbrev pub then : {A B : Type 0} → Result A TextFault → (A → Result B TextFault) → Result B TextFault
then (Ok x) next = next x
then (Err e) next = Err e

-- the digit at a place; past the line's end there is none, and 0 is no digit's code
abbrev pub digit_at : List ℕ → ℕ → Result ℕ TextFault
digit_at xs at = ok_or (digit_value (slice_index xs at)) (record { place = at })

-- the number that the digits read so far and count more from a place on write, highest first
abbrev pub more_at : List ℕ → ℕ → ℕ → ℕ → Result ℕ TextFault
more_at xs at zero so_far = Ok so_far
more_at xs at (suc count) so_far = then (digit_at xs at) (λ d. more_at xs (at + 1) count (so_far * 16 + d))

-- the number that count digits from a place on write, highest first
unfoldable pub number_at : List ℕ → ℕ → ℕ → Result ℕ TextFault
number_at xs at count = more_at xs at count 0

-- the line ends at a place, at the latest
abbrev pub end_at : List ℕ → ℕ → Result (Unit {0}) TextFault
end_at xs at = cond (nat_le (length xs) at) (Ok tt) (fault at)

-- where a reading stands: at a fault's place, or behind what was read
abbrev pub stands_at : {A : Type 0} → ℕ → Result A TextFault → ℕ
stands_at behind (Ok x) = behind
stands_at behind (Err e) = e.place
