use Rattle.std.proofs.Common.{◌≡◌, rules}
use Rattle.frames.specs.Reading.{reading}
use Rattle.frames.proofs.Faults.{reading_cases}
use Rattle.frames.proofs.reading.read_frame.Goals as goal

pub returns-in_err-kind-clause-cases : goal.returns-in_err-kind-clause-cases
returns-in_err-kind-clause-cases c =
    let value : c.from_residual.result ≡ reading c.args.line.now = search rules in
    reading_cases c.args.line.now c.from_residual.result value

pub returns-clause-cases : goal.returns-clause-cases
returns-clause-cases c =
    let value : c.read_fields.result ≡ reading c.args.line.now = search rules in
    reading_cases c.args.line.now c.read_fields.result value
