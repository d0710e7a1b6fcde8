-- What the parts of a house of this crate mean: its wire by the ledger, whatever the policy, and its books by their kind.
use Rattle.stock.specs.StockBook.{book_holds}
use Rattle.stock.specs.declared.stock_book.StockBook.{StockBook}
use Rattle.wire.specs.Wire.{Wire}
use Rattle.wires.specs.Meaning.{meaning_of}
use Rattle.wires.specs.declared.policy_wire.PolicyWire.{PolicyWire}
use Rattle.house.specs.declared.house.House.{House}
use Rattle.house.specs.Views.{Parts, parts_of}

abbrev pub wire_meaning : {P : Type 0} → PolicyWire P → Wire
wire_meaning w = meaning_of w.ledger

abbrev pub parts_in : {P : Type 0} → House (PolicyWire P) StockBook → Parts
parts_in h = parts_of wire_meaning book_holds h
