use Rattle.std.proofs.Common.{vec_items, rules}
use Rattle.wires.proofs.Pages.{blank-push}
use Rattle.wires.proofs.ledger_calls.open_pages.Goals as goal

pub loop-preserved : goal.loop-preserved
loop-preserved c = (search rules, search rules, blank-push (vec_items c.loop.pages) c.in_ok-open.field-0 (vec_items c.push_reserved.new.self) c.push_reserved.ensures.items c.in_ok-open.ensures c.loop.invariant.2)
