-- What a plan means: a number of rooms, and lines that give sets of bases their master rooms.
use Rattle.std.specs.Prelude.{ℕ, Bool, true, cond, not, ◌&&◌, List, [], ◌∷◌, ◌++◌, length, is_some, Some, None, Option, ◌==◌, nat_le, nat_lt}
use Rattle.lists.specs.Words.{all}
use Rattle.refusals.specs.Causes.{first_cause}
use Rattle.refusals.specs.declared.refusal.Refusal.{Refusal}
use Rattle.refusals.specs.declared.refusal.Refusal.TheVariants.{OutOfRange, SetSize, SetPlanned, PlanFull}
use Rattle.sets.specs.Sets.{sized}
use Rattle.plan.specs.declared.line.PlanLine.{PlanLine}

pub record Plan : Type 0 where
  pub rooms : ℕ
  pub lines : List PlanLine

-- the master of a set: that of its line, none where no line has the set
abbrev pub master_in : List PlanLine → ℕ → Option ℕ
master_in [] set = None
master_in (l ∷ ls) set = cond (l.set == set) (Some l.master) (master_in ls set)

-- some line has the set
abbrev pub planned : List PlanLine → ℕ → Bool
planned lines set = is_some (master_in lines set)

-- a plan is for one to eight rooms
abbrev pub begin_cause : ℕ → Option Refusal
begin_cause rooms = first_cause ((not (nat_le 1 rooms && nat_le rooms 8), OutOfRange) ∷ [])

-- why a line is not taken
abbrev pub line_cause : Plan → ℕ → ℕ → Option Refusal
line_cause p set master = first_cause (
    (nat_le p.rooms master, OutOfRange)
    ∷ (not (sized set), SetSize)
    ∷ (planned p.lines set, SetPlanned)
    ∷ (nat_le 32 (length p.lines), PlanFull)
    ∷ [])

-- what every line of a plan for so many rooms keeps: its set has the right size, and its master is one of the rooms
abbrev pub line_right : ℕ → PlanLine → Bool
line_right rooms l = sized l.set && nat_lt l.master rooms

-- what every plan keeps
abbrev pub plan_right : Plan → Bool
plan_right p = (nat_le 1 p.rooms && nat_le p.rooms 8) && all (line_right p.rooms) p.lines

-- no set stands in two lines
abbrev pub each_once : List PlanLine → Bool
each_once [] = true
each_once (l ∷ ls) = not (planned ls l.set) && each_once ls

-- a plan with one more line, at the end
abbrev pub with_line : Plan → ℕ → ℕ → Plan
with_line p set master = record { rooms = p.rooms; lines = p.lines ++ (record { set = set; master = master }) ∷ [] }
