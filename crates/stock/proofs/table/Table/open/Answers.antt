use Rattle.std.proofs.Common.{◌≤◌, leb, sym, drop, arith, rules}
use Rattle.std.proofs.lemmas.Bool.{leb-true}
use Rattle.stock.proofs.Bounds.{opened-items, opened-holds, amounts_in-append, small_in}
use Rattle.stock.proofs.Causes.{opening_taken}
use Rattle.stock.proofs.table.Table.open.Goals as goal

pub invariant_of-result : goal.invariant_of-result
invariant_of-result c =
    let xs = c.args.opening.now in
    let b = c.in_ok-buffer.buffer in
    let taken = opening_taken (leb 32 c.len-fits.result) xs c.in_ok-buffer.ensures.0 in
    let same = c.in_ok-buffer.ensures.1 in
    let h : 32 ≤ b.len = rw same (omega (arith, leb-true 32 c.len-fits.result taken.0, c.len-fits.ensures)) in
    let items = opened-items b c.as_mut_slice.result.now c.copy_from_slice.new.self xs c.as_mut_slice.ensures.value c.copy_from_slice.ensures.after c.told-opening h in
    record {
      long = h;
      small = λ x. rw (items, amounts_in-append xs (drop 32 b.items) x c.told-opening) (small_in xs x taken.1);
    }

pub returns : goal.returns
returns c =
    let xs = c.args.opening.now in
    let b = c.in_ok-buffer.buffer in
    let taken = opening_taken (leb 32 c.len-fits.result) xs c.in_ok-buffer.ensures.0 in
    let same = c.in_ok-buffer.ensures.1 in
    let h : 32 ≤ b.len = rw same (omega (arith, leb-true 32 c.len-fits.result taken.0, c.len-fits.ensures)) in
    let items = opened-items b c.as_mut_slice.result.now c.copy_from_slice.new.self xs c.as_mut_slice.ensures.value c.copy_from_slice.ensures.after c.told-opening h in
    record { cases = record { taken = search rules; holds = opened-holds xs (drop 32 b.items) _ 4096 c.told-opening items; items = rw (sym same) items } }
