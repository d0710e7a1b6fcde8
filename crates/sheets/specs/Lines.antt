-- What one line of a sheet does: it is read, its frame is in turn or not, and the house takes it or refuses it.
use Rattle.std.specs.Prelude.{◌≡◌, ℕ, ◌+◌, ◌-◌, ◌^◌, ◌<◌, min, cond, List, length, Some, None, Ok, Err, Option, Result}
use Rattle.refusals.specs.Causes.{number_of}
use Rattle.refusals.specs.declared.refusal.Refusal.{Refusal}
use Rattle.refusals.specs.declared.refusal.Refusal.TheVariants.{NotAFrame, OutOfTurn}
use Rattle.frames.specs.Kinds.{frame_kind, kind_number}
use Rattle.frames.specs.declared.kind.FrameKind.{FrameKind}
use Rattle.frames.specs.Reading.{reading}
use Rattle.frames.specs.declared.frame.Frame.{Frame}
use Rattle.frames.specs.declared.frame.TextFault.{TextFault}
use Rattle.answers.specs.Answers.{line_of, taken_bytes, refused_bytes, Fronted}
use Rattle.answers.specs.declared.reply.Reply.{Reply}
use Rattle.answers.specs.declared.layer.Layer.TheVariants.{Text as TextLayer, Turn as TurnLayer, House as HouseLayer}
use Rattle.sheets.specs.declared.fault.Fault.{Fault}
use Rattle.sheets.specs.declared.fault.Fault.TheVariants.{Text, Turn, House}
use Rattle.sheets.specs.declared.fault.LineFault.{LineFault}
use Rattle.sheets.specs.declared.fault.LineFault.TheVariants.{AnswerBuffer, Refused}
use Rattle.sheets.specs.Sheet.{Sheet, blank}
use Rattle.sheets.specs.Steps.{in_turn, frame_cause, frame_reply, after_frame}

-- a new sheet: no line, no plan, and nothing in stock
abbrev pub new_sheet : Sheet
new_sheet = record { lines = 0; opening = (λ _. 0); stage = blank }

-- the number of the next line; the count stops at the greatest number that it can hold
abbrev pub next_line : Sheet → ℕ
next_line s = min (s.lines + 1) (2 ^ 64 - 1)

-- the sheet with one more line counted
abbrev pub counted : Sheet → Sheet
counted s = record { lines = next_line s; opening = s.opening; stage = s.stage }

-- the house layer: a frame in turn is taken, or refused for its cause
abbrev pub by_house : Sheet → Frame → Option Refusal → Result Reply Fault
by_house s f None = Ok (frame_reply s f)
by_house s f (Some e) = Err (House (frame_kind f) e)

-- the turn layer: a frame out of turn goes no further
abbrev pub by_turn : Sheet → Frame → Result Reply Fault
by_turn s f = cond (in_turn s.stage f) (by_house s f (frame_cause s f)) (Err (Turn (frame_kind f)))

-- what a frame is answered with: its kind, and the reply
abbrev pub Answer : Type 0
Answer = FrameKind × Reply

abbrev pub with_kind : FrameKind → Result Reply Fault → Result Answer Fault
with_kind kind (Ok reply) = Ok (kind, reply)
with_kind kind (Err e) = Err e

-- the text layer: a line that is no frame goes no further
abbrev pub by_text : Sheet → Result Frame TextFault → Result Answer Fault
by_text s (Ok f) = with_kind (frame_kind f) (by_turn s f)
by_text s (Err e) = Err (Text e)

-- the sheet after a frame: a refused one changes nothing
abbrev pub after_house : Sheet → Frame → Option Refusal → Sheet
after_house s f None = after_frame s f
after_house s f (Some e) = s

abbrev pub after_turn : Sheet → Frame → Sheet
after_turn s f = cond (in_turn s.stage f) (after_house s f (frame_cause s f)) s

abbrev pub after_text : Sheet → Result Frame TextFault → Sheet
after_text s (Ok f) = after_turn s f
after_text s (Err e) = s

-- the bytes of the answer that refuses a line
abbrev pub fault_bytes : Fault → List ℕ
fault_bytes (Text e) = refused_bytes 255 (number_of NotAFrame) TextLayer
fault_bytes (Turn kind) = refused_bytes (kind_number kind) (number_of OutOfTurn) TurnLayer
fault_bytes (House kind cause) = refused_bytes (kind_number kind) (number_of cause) HouseLayer

-- the bytes of a line's answer
abbrev pub answer_bytes : Result Answer Fault → List ℕ
answer_bytes (Ok answer) = taken_bytes (kind_number answer.0) answer.1
answer_bytes (Err fault) = fault_bytes fault

-- a line that is answered: it is counted, its frame has its effect, and the answer line is given
pub record Answered (s t : Sheet) (line text : List ℕ) : Type 0 where
  pub sheet : t ≡ after_text (counted s) (reading line)
  pub text_is : text ≡ line_of (answer_bytes (by_text (counted s) (reading line)))

-- a taken line: its answer stands at the front of the buffer
pub record Taken (s t : Sheet) (line old new : List ℕ) (written : ℕ) : Type 0 where
  pub answer : Answer
  pub answered : by_text (counted s) (reading line) ≡ Ok answer
  pub sheet : t ≡ after_text (counted s) (reading line)
  pub buffer : Fronted (taken_bytes (kind_number answer.0) answer.1) old new written

-- a refused line: the fault tells layer and place, the line is counted, and the answer that refuses it is written
pub record TurnedDown (s t : Sheet) (line old new : List ℕ) (number : ℕ) (fault : Fault) : Type 0 where
  pub faulty : by_text (counted s) (reading line) ≡ Err fault
  pub number_is : number ≡ next_line s
  pub sheet : t ≡ counted s
  pub buffer : Fronted (fault_bytes fault) old new 7

-- a buffer that is too short: nothing is written, and nothing changes
pub record NoBuffer (s t : Sheet) (old new : List ℕ) : Type 0 where
  pub short : length old < 16
  pub sheet : t ≡ s
  pub buffer : new ≡ old

-- what a line does to a sheet and an answer buffer
abbrev pub LineAnswered : Sheet → Sheet → List ℕ → List ℕ → List ℕ → Result ℕ LineFault → Type 0
LineAnswered s t line old new (Ok written) = Taken s t line old new written
LineAnswered s t line old new (Err AnswerBuffer) = NoBuffer s t old new
LineAnswered s t line old new (Err (Refused number fault)) = TurnedDown s t line old new number fault
