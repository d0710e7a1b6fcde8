use Rattle.std.proofs.Common.{arith}
use Rattle.frames.proofs.Numbers.{read_more}
use Rattle.frames.proofs.digits.Fields.number.Goals as goal

pub loop-preserved : goal.loop-preserved
loop-preserved c =
    read_more c.args.self.now c.loop.self c.digit.new.self c.args.digits c.loop.counter c.loop.number c.in_ok-number.field-0
    (omega arith) c.loop.invariant c.in_ok-number.ensures.value c.in_ok-number.ensures.small c.in_ok-number.ensures.after
