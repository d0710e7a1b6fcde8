use Rattle.std.proofs.Common.{refl, arith}
use Rattle.stock.specs.Stock.{amounts_in}
use Rattle.stock.specs.Entries.{replayed}
use Rattle.stock.specs.Journal.{journal_holds, written_entries}
use Rattle.stock.proofs.Bounds.{updated-small, updated-none_above}
use Rattle.stock.proofs.Causes.{write_taken_lem, amount_taken}
use Rattle.stock.proofs.Replays.{replayed-write}
use Rattle.stock.proofs.journal.calls.JournalBook.write.Goals as goal

pub invariant_of-self : goal.invariant_of-self
invariant_of-self c =
    let j = c.args.self.now in
    let taken = amount_taken c.args.base c.args.amount _ c.in_ok-check_amount.ensures in
    let m = replayed (written_entries j) (amounts_in j.opening) in
    let written = replayed-write j.buffer.items j.used (record { base = c.args.base; amount = c.args.amount }) (amounts_in j.opening) (omega arith) in record {
      long = omega arith;
      short = omega arith;
      within = omega arith;
      small = λ x. rw written (updated-small m c.args.base c.args.amount j.small taken.1 x);
      beyond = λ x h. rw written (updated-none_above m c.args.base c.args.amount j.beyond taken.0 x h);
    }

pub returns : goal.returns
returns c =
    let j = c.args.self.now in
    let taken = amount_taken c.args.base c.args.amount _ c.in_ok-check_amount.ensures in
    record {
      cases = record {
        taken = write_taken_lem (journal_holds j) c.args.base c.args.amount (omega arith) (omega (arith, taken.0)) taken.1;
        amounts = replayed-write j.buffer.items j.used (record { base = c.args.base; amount = c.args.amount }) (amounts_in j.opening) (omega arith);
        spare = record { at_most = omega arith; no_more = omega arith };
      };
      after = record { items = refl; used = refl; opening = refl };
    }
