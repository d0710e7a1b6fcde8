use Rattle.std.proofs.Common.{◌+◌, ◌<◌, cond, length, get_or, drop, sym, refl, ◌∙◌, arith}
use Rattle.std.proofs.lemmas.List.{at_drop_more, at_drop_all}
use Rattle.lists.specs.Words.{member}
use Rattle.rooms.specs.Records.{blank}
use Rattle.rooms.proofs.Throws.{named-turn, named-marks, place-known}
use Rattle.rooms.proofs.next.Next.name_serializer.Goals as goal

pub bounds-records-batch : goal.bounds-records-batch
bounds-records-batch g c = omega (arith, place-known c.args.batches.now c.loop-batch.batch-index c.requires.known, c.requires.table, c.loop-batch.auto.records)

pub loop-batch-preserved : goal.loop-batch-preserved
loop-batch-preserved g c =
    let bs = c.args.batches.now in
    let i = c.loop-batch.batch-index in
    let b = get_or bs i 0 in
    let t = c.args.self.now.batch in
    let table = c.loop-batch.records in
    let h : get_or bs i 0 < length c.loop-batch.records = omega (arith, place-known bs i c.requires.known, c.requires.table, c.loop-batch.auto.records) in (
      λ a. named-turn table b h (get_or table b blank) refl t (drop (i + 1) bs) a ∙ sym (at_drop_more (λ l. cond (member a l) t (get_or table a blank).serializer) bs i 0 c.loop-batch-test.true) ∙ c.loop-batch.invariant.0 a,
      λ a. named-marks table b h (get_or table b blank) refl t a ∙ c.loop-batch.invariant.1 a,
    )

pub returns : goal.returns
returns g c =
    let bs = c.args.batches.now in
    record {
      names = λ a. sym (at_drop_all (λ l. cond (member a l) c.args.self.now.batch (get_or c.loop-batch.records a blank).serializer) bs c.loop-batch.batch-index c.loop-batch-test.false) ∙ c.loop-batch.invariant.0 a;
      marks = c.loop-batch.invariant.1;
    }
