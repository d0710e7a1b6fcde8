use Rattle.std.proofs.Common.{◌≡◌, ◌≤◌, vec_items, vec_len, vec_capacity}
use Rattle.wires.specs.Kept.{blank}
use Rattle.wires.specs.Parts.{kept_in}
use Rattle.wires.proofs.ledger_calls.open_pages.Given as goal

-- there are as many pages as rounds made, all of them blank, and there is place for the rest
abbrev pub invariant-loop : goal.invariant-loop
invariant-loop l = (vec_len l.pages ≡ l.counter) × (8 ≤ vec_capacity l.pages) × (kept_in (vec_items l.pages) ≡ (λ _. blank))
