use Rattle.std.proofs.Common.{◌≡◌, true, arith}
use Rattle.std.proofs.lemmas.Grind.{common_steps}
use Rattle.sheets.specs.Steps.{no_kind}
use Rattle.sheets.proofs.KindNumbers.{other_kind}
use Rattle.sheets.proofs.draft.Draft.begin.Goals as goal

pub returns-in_err-wire-clause-refused : goal.returns-in_err-wire-clause-refused
returns-in_err-wire-clause-refused c = let t : no_kind c.args.wire ≡ true = other_kind c.args.wire c.in_err-wire.ensures.1 in grind (arith, common_steps)
