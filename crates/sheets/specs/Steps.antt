-- What a line of a sheet does: the three layers, one after another.
use Rattle.std.specs.Prelude.{◌≡◌, ℕ, Bool, true, false, not, ◌&&◌, List, [], ◌∷◌, map, length, Some, None, Ok, Err, Option, Result, nat_le, nat_lt, slice_index_or}
use Rattle.lists.specs.Words.{updated, rising}
use Rattle.refusals.specs.Causes.{first_cause, answer}
use Rattle.refusals.specs.declared.refusal.Refusal.{Refusal}
use Rattle.refusals.specs.declared.refusal.Refusal.TheVariants.{OutOfRange, OverLimit}
use Rattle.plan.specs.Plan.{Plan, line_cause, with_line}
use Rattle.stock.specs.Stock.{Stock}
use Rattle.openings.specs.Amounts.{opening_cause}
use Rattle.openings.specs.Books.{new_book}
use Rattle.frames.specs.declared.frame.Frame.{Frame}
use Rattle.frames.specs.declared.frame.Frame.TheVariants.{Begin, PlanLine, Opening, Seal, Amount}
use Rattle.answers.specs.declared.reply.Reply.{Reply}
use Rattle.answers.specs.declared.reply.Reply.TheVariants.{Done, Amount as AmountReply}
use Rattle.sheets.specs.Sheet.{Sheet, Stage, blank, planning, open_house}

-- which frames are in turn

abbrev pub is_blank : Stage → Bool
is_blank blank = true
is_blank (planning plan wire) = false
is_blank (open_house plan wire books) = false

abbrev pub is_planning : Stage → Bool
is_planning blank = false
is_planning (planning plan wire) = true
is_planning (open_house plan wire books) = false

abbrev pub is_open : Stage → Bool
is_open blank = false
is_open (planning plan wire) = false
is_open (open_house plan wire books) = true

-- a plan is begun on a blank sheet, written and sealed after that, and a house answers once it is open
abbrev pub in_turn : Stage → Frame → Bool
in_turn stage (Begin rooms wire) = is_blank stage
in_turn stage (PlanLine room set) = is_planning stage
in_turn stage (Opening base amount) = is_planning stage
in_turn stage Seal = is_planning stage
in_turn stage (Amount room base) = is_open stage

-- the parts of a stage

abbrev pub stage_plan : Stage → Plan
stage_plan blank = record { rooms = 0; lines = [] }
stage_plan (planning plan wire) = plan
stage_plan (open_house plan wire books) = plan

abbrev pub stage_wire : Stage → ℕ
stage_wire blank = 0
stage_wire (planning plan wire) = wire
stage_wire (open_house plan wire books) = wire

abbrev pub stage_books : Stage → List Stock
stage_books blank = []
stage_books (planning plan wire) = []
stage_books (open_house plan wire books) = books

abbrev pub no_book : Stock
no_book = record { amounts = (λ _. 0); spare = 0 }

-- the house layer

-- why the question for a room's amount of a base is refused, and its answer
abbrev pub amount_cause : List Stock → ℕ → ℕ → Option Refusal
amount_cause books room base = first_cause ((nat_le (length books) room, OutOfRange) ∷ (nat_lt 31 base, OverLimit) ∷ [])

abbrev pub amount_asked : List Stock → ℕ → ℕ → Result ℕ Refusal
amount_asked books room base = answer (amount_cause books room base) ((slice_index_or books room no_book).amounts base)

-- the wires have the kinds 1 to 3
abbrev pub no_kind : ℕ → Bool
no_kind number = not (nat_le 1 number && nat_le number 3)

-- why a plan is not begun: it is not for one to four rooms, or no wire has the kind
abbrev pub begin_cause : ℕ → ℕ → Option Refusal
begin_cause rooms wire = first_cause ((not (nat_le 1 rooms && nat_le rooms 4), OutOfRange) ∷ (no_kind wire, OutOfRange) ∷ [])

-- why a frame in turn is refused
abbrev pub frame_cause : Sheet → Frame → Option Refusal
frame_cause s (Begin rooms wire) = begin_cause rooms wire
frame_cause s (PlanLine room set) = line_cause (stage_plan s.stage) set room
frame_cause s (Opening base amount) = opening_cause base amount
frame_cause s Seal = None
frame_cause s (Amount room base) = amount_cause (stage_books s.stage) room base

-- what a taken frame is answered with
abbrev pub frame_reply : Sheet → Frame → Reply
frame_reply s (Begin rooms wire) = Done
frame_reply s (PlanLine room set) = Done
frame_reply s (Opening base amount) = Done
frame_reply s Seal = Done
frame_reply s (Amount room base) = AmountReply ((slice_index_or (stage_books s.stage) room no_book).amounts base)

-- what a taken frame leaves
abbrev pub after_frame : Sheet → Frame → Sheet
after_frame s (Begin rooms wire) = record { lines = s.lines; opening = s.opening; stage = planning (record { rooms = rooms; lines = [] }) wire }
after_frame s (PlanLine room set) = record { lines = s.lines; opening = s.opening; stage = planning (with_line (stage_plan s.stage) set room) (stage_wire s.stage) }
after_frame s (Opening base amount) = record { lines = s.lines; opening = updated s.opening base amount; stage = s.stage }
after_frame s Seal = record {
  lines = s.lines;
  opening = s.opening;
  stage = open_house (stage_plan s.stage) (stage_wire s.stage) (map (new_book s.opening) (rising 0 (stage_plan s.stage).rooms));
}
after_frame s (Amount room base) = s

-- a taken frame
pub record Taken (s t : Sheet) (f : Frame) (reply : Reply) : Type 0 where
  pub right : frame_cause s f ≡ None
  pub answer : reply ≡ frame_reply s f
  pub after : t ≡ after_frame s f

-- a refused frame changes nothing
pub record Refused (s t : Sheet) (f : Frame) (cause : Refusal) : Type 0 where
  pub why : frame_cause s f ≡ Some cause
  pub same : t ≡ s

-- what a frame in turn does
abbrev pub Acting : Sheet → Sheet → Frame → Result Reply Refusal → Type 0
Acting s t f (Ok reply) = Taken s t f reply
Acting s t f (Err cause) = Refused s t f cause

-- what a frame does: out of turn it has no answer here and changes nothing, and in turn the house takes or refuses it
abbrev pub Turning : Sheet → Sheet → Frame → Option (Result Reply Refusal) → Type 0
Turning s t f None = (in_turn s.stage f ≡ false) × (t ≡ s)
Turning s t f (Some result) = (in_turn s.stage f ≡ true) × Acting s t f result
