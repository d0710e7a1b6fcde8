use Rattle.std.proofs.Common.{◌<◌, length, sym, ap, ◌∙◌, arith}
use Rattle.lists.specs.Words.{place, without}
use Rattle.lists.specs.Gaps.{without_at}
use Rattle.rooms.specs.Lists.{numbers_of}
use Rattle.rooms.proofs.Removals.{without-first, without-none}
use Rattle.rooms.proofs.batch_list.BatchList.take_out.Goals as goal

pub loop-at-preserved : goal.loop-at-preserved
loop-at-preserved c =
    let b = c.args.batch in
    let xs = numbers_of c.loop-at.self in
    let found = c.in-Some.ensures in
    let h : place b xs < length xs = omega (arith, found.0, found.1) in
    ap (without b) (c.cut.ensures ∙ ap (λ i. without_at i xs) found.0) ∙ without-first b xs h ∙ c.loop-at.invariant

pub returns : goal.returns
returns c = sym (without-none c.args.batch (numbers_of c.loop-at.self) c.in_default.ensures) ∙ c.loop-at.invariant
