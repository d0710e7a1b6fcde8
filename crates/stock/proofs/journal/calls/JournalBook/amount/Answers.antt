use Rattle.std.proofs.Common.{◌≡◌, length, ap, ◌∙◌, arith}
use Rattle.std.proofs.lemmas.List.{length-take-le}
use Rattle.stock.specs.Stock.{amounts_in}
use Rattle.stock.specs.Journal.{journal_holds, written_entries}
use Rattle.stock.specs.declared.entry.Entry.{Entry}
use Rattle.stock.proofs.Causes.{base_taken}
use Rattle.stock.proofs.Bounds.{answered, amounts_in_base}
use Rattle.stock.proofs.Replays.{replayed-none, replayed_last, read_entry}
use Rattle.stock.proofs.journal.calls.JournalBook.amount.Goals as goal

pub returns-in-Some : goal.returns-in-Some
returns-in-Some c =
    let j = c.args.self.now in
    let low = base_taken c.args.base _ c.in_ok-check_base.ensures in
    let last = c.in-Some.ensures in
    let n : length (written_entries j) ≡ j.used = length-take-le j.used j.buffer.items (omega arith) in
    let w = last.within in
    let read = read_entry j.buffer.items j.used c.in-Some.place c.index.result.now (omega arith) (omega arith) c.index.ensures in
    answered (journal_holds j) c.args.base c.index.result.now.amount low
    (replayed_last (written_entries j) (amounts_in j.opening) c.args.base c.in-Some.place last ∙ ap (λ (e : Entry). e.amount) read)

pub returns-in-None : goal.returns-in-None
returns-in-None c =
    let j = c.args.self.now in
    let low = base_taken c.args.base _ c.in_ok-check_base.ensures in
    answered (journal_holds j) c.args.base _ low
    (replayed-none (written_entries j) (amounts_in j.opening) c.args.base c.in-None.ensures ∙ amounts_in_base j.opening c.args.base low)
