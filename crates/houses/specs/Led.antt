-- The calls that led a house to where it is.
use Rattle.std.specs.Prelude.{List}
use Rattle.stock.specs.Stock.{Amounts}
use Rattle.stock.specs.declared.stock_book.StockBook.{StockBook}
use Rattle.plan.specs.Plan.{Plan}
use Rattle.wires.specs.declared.policy_wire.PolicyWire.{PolicyWire}
use Rattle.agreement.specs.Houses.{Given}
use Rattle.agreement.specs.Calls.{Call, Answer}
use Rattle.agreement.specs.Promises.{Promise}
use Rattle.house.specs.declared.house.House.{House}
use Rattle.house.specs.Openings.{given_of}
use Rattle.house.specs.Views.{Parts, view, Held}
use Rattle.houses.specs.Books.{new_books}
use Rattle.houses.specs.Meanings.{parts_in}

-- what a house is given: its plan, and new books with the opening amounts
abbrev pub given : Plan → Amounts → Given
given plan opening = given_of plan (new_books plan.rooms opening)

-- some calls, and no others, were made since it was opened with these amounts
abbrev pub Led : Amounts → Parts → Type 0
Led opening p = (calls : List (Call × Answer)) × Held (given p.plan opening) calls p

-- and the house keeps all that is promised after them
abbrev pub Promised : Amounts → Parts → Type 0
Promised opening p = (calls : List (Call × Answer)) × (Held (given p.plan opening) calls p × Promise (given p.plan opening) calls (view (given p.plan opening) p))

-- a house and the amounts that it was opened with
abbrev pub InUse : {P : Type 0} → Amounts → House (PolicyWire P) StockBook → Type 0
InUse opening h = ∥ Led opening (parts_in h) ∥₁
