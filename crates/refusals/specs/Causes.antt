-- The number of each cause for a refusal, and the first cause that holds.
use Rattle.std.specs.Prelude.{ℕ, Bool, cond, List, [], ◌∷◌, Some, None, Ok, Err, Option, Result}
use Rattle.refusals.specs.declared.refusal.Refusal.{Refusal}
use Rattle.refusals.specs.declared.refusal.Refusal.TheVariants.{BufferLength, OutOfRange, SetSize, SetPlanned, PlanFull, StepRule, StepCount, SetUnplanned, WireFull, NothingWaits, UnknownBatch, NotMaster, AlreadyInstalled, AlreadyMarked, NotFirst, NotMarked, StillWaiting, NotItsTurn, TooFewSpare, OverLimit, NotAFrame, OutOfTurn}

-- the number of each cause
abbrev pub number_of : Refusal → ℕ
number_of BufferLength = 1
number_of OutOfRange = 2
number_of SetSize = 3
number_of SetPlanned = 4
number_of PlanFull = 5
number_of StepRule = 6
number_of StepCount = 7
number_of SetUnplanned = 8
number_of WireFull = 9
number_of NothingWaits = 10
number_of UnknownBatch = 11
number_of NotMaster = 12
number_of AlreadyInstalled = 13
number_of AlreadyMarked = 14
number_of NotFirst = 15
number_of NotMarked = 16
number_of StillWaiting = 17
number_of NotItsTurn = 18
number_of TooFewSpare = 19
number_of OverLimit = 20
number_of NotAFrame = 21
number_of OutOfTurn = 22

-- A call's causes, each with the test that tells whether it holds, in the order in which they are checked:
-- the first that holds is the refusal, and where none holds the call is taken.
abbrev pub first_cause : List (Bool × Refusal) → Option Refusal
first_cause [] = None
first_cause (c ∷ cs) = cond c.0 (Some c.1) (first_cause cs)

-- the answer of a call that gives a value where it is taken
abbrev pub answer : {A : Type 0} → Option Refusal → A → Result A Refusal
answer None a = Ok a
answer (Some e) a = Err e
