-- The kinds of wires and their numbers, and the policy that is one of the three.
use Rattle.std.specs.Prelude.{◌≡◌, ℕ, Ok, Err, Result, ◌≢◌}
use Rattle.refusals.specs.declared.refusal.Refusal.{Refusal}
use Rattle.refusals.specs.declared.refusal.Refusal.TheVariants.{OutOfRange}
use Rattle.wires.specs.declared.kind.WireKind.{WireKind}
use Rattle.wires.specs.declared.kind.WireKind.TheVariants.{Sequenced, Turn, Directed}

-- the number of each kind
abbrev pub kind_number : WireKind → ℕ
kind_number Sequenced = 1
kind_number Turn = 2
kind_number Directed = 3

-- the number was that of a kind, or of none
abbrev pub KindRead : ℕ → Result WireKind Refusal → Type 0
KindRead number (Ok kind) = kind_number kind ≡ number
KindRead number (Err e) = (e ≡ OutOfRange) × ((kind : WireKind) → kind_number kind ≢ number)
