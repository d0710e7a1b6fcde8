use Rattle.frames.proofs.Numbers.{Read}
use Rattle.frames.proofs.digits.Fields.number.Given as goal

abbrev pub invariant-loop : goal.invariant-loop
invariant-loop l = Read l.initial.self l.self l.digits l.counter l.number
