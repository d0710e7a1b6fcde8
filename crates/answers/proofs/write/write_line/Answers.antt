use Rattle.std.proofs.Common.{◌≡◌, length, arith}
use Rattle.answers.proofs.Spelling.{length-line, one_byte, line_feed}
use Rattle.answers.proofs.write.write_line.Goals as goal

pub loop-i-preserved : goal.loop-i-preserved
loop-i-preserved c = rw (c.loop-i.invariant, c.capital.ensures, c.capital-in-loop-i.ensures) (one_byte c.args.bytes.now c.args.buffer.now c.loop-i.i (omega arith) (omega arith))

pub returns : goal.returns
returns c =
    let all : c.loop-i.i ≡ length c.args.bytes.now = omega arith in
    record {
      long = omega arith;
      written_is = omega (arith, length-line c.args.bytes.now);
      buffer = rw (c.loop-i.invariant, all) (line_feed c.args.bytes.now c.args.buffer.now (omega arith));
    }
