use Rattle.std.proofs.Common.{◌≡◌, ◌≤◌, true, ap, ◌∙◌}
use Rattle.sets.specs.Sets.{size}
use Rattle.stock.specs.Stock.{amounts_in, packed}
use Rattle.stock.specs.BySet.{only}
use Rattle.batches.specs.Batches.{Batch, batch_right}
use Rattle.batches.specs.Sealed.{batch_of}
use Rattle.rooms.proofs.Results.{few-bases, result_is}
use Rattle.rooms.proofs.running.run_on.Goals as goal

pub returns : goal.returns
returns g c =
    let b : Batch = batch_of c.args.batch.now in
    let right : batch_right b ≡ true = c.args.batch.now.right in
    let m = (g.B.Book.holds c.args.book.now).amounts in
    let set = c.set-set.ensures.value in
    let read = c.read_set-amounts.ensures ∙ ap (λ s. only s m) set in
    let few : size c.set-set.result ≤ 8 = rw set (few-bases b right) in
    let values = c.pack.ensures.whole few ∙ ap (λ s. packed s (amounts_in c.run-outcome.new.amounts)) set in
    result_is b right m (amounts_in c.read_set-amounts.result) read _ c.run-outcome.ensures.value c.pack.result values
