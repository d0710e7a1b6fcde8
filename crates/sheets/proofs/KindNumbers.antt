-- A number that is no wire's kind is refused.
use Rattle.std.proofs.Common.{◌≡◌, ℕ, zero, suc, true, refl, arith}
use Rattle.wires.specs.Kinds.{kind_number}
use Rattle.wires.specs.declared.kind.WireKind.{WireKind}
use Rattle.wires.specs.declared.kind.WireKind.TheVariants.{Sequenced, Turn, Directed}
use Rattle.sheets.specs.Steps.{no_kind}

pub other_kind : (n : ℕ) → ((kind : WireKind) → kind_number kind ≡ n → ⊥) → no_kind n ≡ true
other_kind zero h = refl
other_kind (suc zero) h = absurd (h Sequenced refl)
other_kind (suc (suc zero)) h = absurd (h Turn refl)
other_kind (suc (suc (suc zero))) h = absurd (h Directed refl)
other_kind (suc (suc (suc (suc n)))) h = grind arith
