-- A house: a wire, and for each room its lists and its book.
use Rattle.std.specs.Prelude.{◌≡◌, ℕ, true, List}
use Rattle.stock.specs.Stock.{Amounts, Stock, Sound}
use Rattle.plan.specs.Plan.{Plan, plan_right}
use Rattle.wire.specs.Wire.{Wire, new_wire}
use Rattle.order.specs.Works.{Works, works_of}
use Rattle.order.specs.Order.{house_order}
use Rattle.agreement.specs.Rooms.{Room, new_room}

-- what a house is opened with: a plan, the opening amounts of all its books, and each book's spare entries
pub record Given : Type 0 where
  pub plan : Plan
  pub opening : Amounts
  pub spare : ℕ → ℕ

pub record House : Type 0 where
  pub wire : Wire
  pub room : ℕ → Room
  pub book : ℕ → Stock

-- a house just opened: a new wire, new rooms, and books with equal amounts
abbrev pub opened : Given → House
opened g = record { wire = new_wire; room = (λ _. new_room); book = (λ k. record { amounts = g.opening; spare = g.spare k }) }

-- what a house may be opened with: a sealed plan, and books
pub record Openable (g : Given) : Type 0 where
  pub plan : plan_right g.plan ≡ true
  pub books : (k : ℕ) → Sound ((opened g).book k)

-- the posted batches with their masters
abbrev pub works : Given → House → Works
works g h = works_of g.plan h.wire.posts

-- the house order
abbrev pub order : Given → House → List ℕ
order g h = house_order (works g h) h.wire.tentative h.wire.definitive
