use Rattle.std.proofs.Common.{◌≡◌}
use Rattle.answers.proofs.Spelling.{written}
use Rattle.answers.proofs.write.write_line.Given as goal

abbrev pub invariant-loop-i : goal.invariant-loop-i
invariant-loop-i l = l.buffer ≡ written l.bytes l.initial.buffer l.i
