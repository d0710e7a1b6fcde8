-- A line that is refused by any of the three layers leaves the sheet as it was.
use Rattle.std.proofs.Common.{◌≡◌, ℕ, Bool, true, false, cond, List, length, Some, None, Ok, Err, Option, Result, sym, refl, ap, ◌∙◌, subst}
use Rattle.refusals.specs.declared.refusal.Refusal.{Refusal}
use Rattle.frames.specs.Reading.{reading}
use Rattle.frames.specs.Kinds.{frame_kind}
use Rattle.frames.specs.declared.frame.Frame.{Frame}
use Rattle.frames.specs.declared.frame.TextFault.{TextFault}
use Rattle.answers.specs.Answers.{line_of, Fronted}
use Rattle.sheets.specs.declared.fault.Fault.{Fault}
use Rattle.sheets.specs.declared.fault.Fault.TheVariants.{Text, Turn, House}
use Rattle.sheets.specs.Sheet.{Sheet}
use Rattle.sheets.specs.Steps.{in_turn, frame_cause}
use Rattle.sheets.specs.Lines.{by_house, with_kind, by_text, after_house, after_text, Answer, counted, fault_bytes, answer_bytes, TurnedDown}

turn-same : (s : Sheet) (g : Frame) (f : Fault) (turn : Bool) (cause : Option Refusal) →
    with_kind (frame_kind g) (cond turn (by_house s g cause) (Err (Turn (frame_kind g)))) ≡ Err f → cond turn (after_house s g cause) s ≡ s
turn-same s g f true None e = cc
turn-same s g f true (Some c) e = refl
turn-same s g f false cause e = refl

pub refused_same : (s : Sheet) (r : Result Frame TextFault) (f : Fault) → by_text s r ≡ Err f → after_text s r ≡ s
refused_same s (Ok g) f e = turn-same s g f (in_turn s.stage g) (frame_cause s g) e
refused_same s (Err t) f e = refl

seven : (f : Fault) → length (line_of (fault_bytes f)) ≡ 7
seven (Text e) = refl
seven (Turn kind) = refl
seven (House kind cause) = refl

-- counted first, then refused, with its answer written
pub turned_down : (s t : Sheet) (line old new : List ℕ) (answered : Result Answer Fault) (f : Fault) (written : ℕ) → answered ≡ Err f → answered ≡ by_text (counted s) (reading line) → t ≡ after_text (counted s) (reading line) →
    Fronted (answer_bytes answered) old new written → TurnedDown s t line old new t.lines f
turned_down s t line old new answered f written i e a w =
    let faulty : by_text (counted s) (reading line) ≡ Err f = sym e ∙ i in
    let same : t ≡ counted s = a ∙ refused_same (counted s) (reading line) f faulty in
    let front : Fronted (fault_bytes f) old new written = subst (λ r. Fronted (answer_bytes r) old new written) i w in
    record { faulty = faulty; number_is = ap (λ x. x.lines) same; sheet = same; buffer = subst (λ n. Fronted (fault_bytes f) old new n) (front.written_is ∙ seven f) front }
