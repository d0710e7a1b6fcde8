-- What a line's call wrote to a buffer of sixteen characters has the answer line at its front, of a refused line too.
use Rattle.std.proofs.Common.{◌≡◌, ℕ, List, length, take, drop, Ok, Err, Result, sym, ap, ◌∙◌, arith}
use Rattle.std.proofs.Math.Seq.{take-append_seam}
use Rattle.std.specs.Result.{result_unwrap_or}
use Rattle.frames.specs.Reading.{reading}
use Rattle.answers.specs.Answers.{line_of, Fronted}
use Rattle.sheets.specs.declared.fault.LineFault.{LineFault}
use Rattle.sheets.specs.declared.fault.LineFault.TheVariants.{AnswerBuffer, Refused}
use Rattle.sheets.specs.Sheet.{Sheet}
use Rattle.sheets.specs.Lines.{counted, answer_bytes, Answered, LineAnswered}
use Rattle.sheets.proofs.Refused.{refused_same}

front_is : (bytes old new : List ℕ) (written : ℕ) → Fronted bytes old new written → take written new ≡ line_of bytes
front_is bytes old new written f = ap (λ n. take n new) f.written_is ∙ ap (λ xs. take (length (line_of bytes)) xs) f.buffer ∙ take-append_seam (line_of bytes) (drop written old)

pub answered : (s t : Sheet) (line old new : List ℕ) (result : Result ℕ LineFault) → length old ≡ 16 → LineAnswered s t line old new result
    → Answered s t line (take (result_unwrap_or result 7) new)
answered s t line old new (Ok written) long taken =
    record { sheet = taken.sheet; text_is = front_is _ old new written taken.buffer ∙ ap (λ r. line_of (answer_bytes r)) (sym taken.answered) }
answered s t line old new (Err AnswerBuffer) long none = absurd (omega (arith, none.short))
answered s t line old new (Err (Refused number fault)) long refused =
    record {
      sheet = refused.sheet ∙ sym (refused_same (counted s) (reading line) fault refused.faulty);
      text_is = front_is _ old new 7 refused.buffer ∙ ap (λ r. line_of (answer_bytes r)) (sym refused.faulty);
    }
