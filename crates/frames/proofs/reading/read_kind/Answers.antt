use Rattle.std.proofs.Common.{rules, ◌≡◌, MatchResult, ◌≢◌, ℕ, ◌+◌, ◌*◌, List, Ok, Err, true, Result, arith, inl, inr}
use Rattle.std.proofs.lemmas.Bool.Decides.{nat_tests}
use Rattle.frames.specs.declared.kind.FrameKind.{FrameKind}
use Rattle.frames.specs.declared.kind.FrameKind.TheVariants.{Begin, PlanLine, Opening, Seal, Amount}
use Rattle.frames.specs.declared.kind.UnknownKind.{UnknownKind}
use Rattle.frames.specs.declared.frame.TextFault.{TextFault}
use Rattle.frames.specs.Digits.{fault}
use Rattle.frames.specs.Kinds.{kinds, kind_number, HasKind}
use Rattle.frames.specs.Reading.{reading, kind_of, frame_of, begins_kind}
use Rattle.frames.proofs.reading.read_kind.Goals as goal

-- a number that no kind has is none in the table
unknown : (xs : List ℕ) (number : ℕ) → ((k : FrameKind) → kind_number k ≢ number) → frame_of kinds xs number ≡ fault 1
unknown xs number none = grind (arith, nat_tests, none Begin, none PlanLine, none Opening, none Seal, none Amount)

kind_cases : (xs : List ℕ) (number : ℕ) (r : Result FrameKind UnknownKind) (s : Result FrameKind TextFault) → kind_of kinds xs ≡ Ok number → HasKind number r
    → MatchResult r (λ k. s ≡ Ok k) (λ _. s ≡ fault 1) → MatchResult s (λ k. kind_of kinds xs ≡ Ok (kind_number k)) (λ e. reading xs ≡ Err e)
kind_cases xs number (Ok k) s read has same = rw same (rw has read)
kind_cases xs number (Err e) s read has same = rw (same, read) (unknown xs number has.1)

pub returns-clause-value : goal.returns-clause-value
returns-clause-value c =
    let high = rw c.requires at c.in_ok-high.ensures.value in
    let begins : begins_kind kinds c.in_ok-high.high ≡ true = elim c.else-high-ne0.either [ inl h ↦ rw h.1 | inr h ↦ rw h ] in
    let low = rw (c.in_ok-high.ensures.after, c.requires) at c.in_ok-low.ensures.value in
    let number : kind_of kinds c.args.fields.now.line.now ≡ Ok (c.in_ok-high.high * 16 + c.in_ok-low.low) = rw (← high, begins, ← low) in
    let same : MatchResult c.try_from.result (λ k. c.map_err.result ≡ Ok k) (λ _. c.map_err.result ≡ fault 1) = search rules in
    kind_cases c.args.fields.now.line.now _ c.try_from.result c.map_err.result number c.try_from.ensures same
