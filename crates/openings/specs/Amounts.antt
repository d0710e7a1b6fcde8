-- The amounts that a house opens with.
use Rattle.std.specs.Prelude.{ℕ, ◌||◌, [], ◌∷◌, Option, nat_lt}
use Rattle.refusals.specs.Causes.{first_cause}
use Rattle.refusals.specs.declared.refusal.Refusal.{Refusal}
use Rattle.refusals.specs.declared.refusal.Refusal.TheVariants.{OverLimit}
use Rattle.stock.specs.Stock.{Amounts, amounts_in}
use Rattle.openings.specs.declared.opening.Opening.{Opening}

-- the amount of each base at opening
abbrev pub amounts_of : Opening → Amounts
amounts_of opening = amounts_in opening.amounts

-- why an opening amount is not noted
abbrev pub opening_cause : ℕ → ℕ → Option Refusal
opening_cause base amount = first_cause ((nat_lt 31 base || nat_lt 1000000000 amount, OverLimit) ∷ [])
