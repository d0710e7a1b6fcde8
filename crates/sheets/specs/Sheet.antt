-- What a sheet has come to.
use Rattle.std.specs.Prelude.{ℕ, List}
use Rattle.plan.specs.Plan.{Plan}
use Rattle.stock.specs.Stock.{Amounts, Stock}

-- how far a sheet is
pub data Stage : Type 0 where
  -- no plan is begun
  blank : Stage
  -- a plan is being written, for a house over a wire of a kind
  planning : Plan → ℕ → Stage
  -- the house is open: its plan, the kind of its wire, and each room's book
  open_house : Plan → ℕ → List Stock → Stage

pub record Sheet : Type 0 where
  -- how many lines it has had
  pub lines : ℕ
  -- the opening amounts so far
  pub opening : Amounts
  pub stage : Stage
