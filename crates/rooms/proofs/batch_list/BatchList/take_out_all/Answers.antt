use Rattle.std.proofs.Common.{◌+◌, not, [], drop, sym, refl, ap, ◌∙◌}
use Rattle.std.proofs.lemmas.List.{drop_all}
use Rattle.lists.specs.Words.{keep, member}
use Rattle.lists.proofs.Keeps.{keep_all}
use Rattle.rooms.specs.Lists.{numbers_of}
use Rattle.rooms.proofs.Moves.{keep_left}
use Rattle.rooms.proofs.batch_list.BatchList.take_out_all.Goals as goal

pub loop-batch-preserved : goal.loop-batch-preserved
loop-batch-preserved c =
    let bs = c.args.batches.now in
    let i = c.loop-batch.batch-index in
    ap (keep (λ b. not (member b (drop (i + 1) bs)))) c.take_out.ensures ∙ keep_left bs i (numbers_of c.loop-batch.self) c.loop-batch-test.true ∙ c.loop-batch.invariant

pub returns : goal.returns
returns c =
    let bs = c.args.batches.now in
    let l = numbers_of c.loop-batch.self in
    let done = ap (λ r. keep (λ b. not (member b r)) l) (drop_all c.loop-batch.batch-index bs c.loop-batch-test.false) in
    sym (done ∙ keep_all (λ b. not (member b [])) l (λ _ _. refl)) ∙ c.loop-batch.invariant
