-- A sheet in code, as what it has come to.
use Rattle.std.specs.Prelude.{ℕ, map, vec_items}
use Rattle.plan.specs.Plans.{draft_of, plan_of}
use Rattle.stock.specs.Stock.{Amounts}
use Rattle.stock.specs.StockBook.{book_holds}
use Rattle.openings.specs.Amounts.{amounts_of}
use Rattle.sheets.specs.declared.draft.Draft.{Draft}
use Rattle.sheets.specs.declared.open_house.OpenHouse.{OpenHouse}
use Rattle.sheets.specs.declared.sheet.Sheet.{Sheet as SheetInCode}
use Rattle.sheets.specs.declared.stage.Stage.{Stage as StageInCode}
use Rattle.sheets.specs.declared.stage.Stage.TheVariants.{Blank, Planning, Open}
use Rattle.wires.specs.Kinds.{kind_number}
use Rattle.sheets.specs.Sheet.{Sheet, Stage, blank, planning, open_house}

-- the stage of a plan that is being written
abbrev pub planning_of : Draft → Stage
planning_of draft = planning (draft_of draft.plan) (kind_number draft.wire)

-- the stage of an open house
abbrev pub open_of : OpenHouse → Stage
open_of house = open_house (plan_of house.plan) (kind_number house.wire) (map book_holds (vec_items house.books))

abbrev pub stage_of : StageInCode → Stage
stage_of (Blank memory) = blank
stage_of (Planning draft memory) = planning_of draft
stage_of (Open house) = open_of house

-- the sheet after so many lines, with such opening amounts, at a stage
abbrev pub sheet_at : ℕ → Amounts → StageInCode → Sheet
sheet_at lines opening stage = record { lines = lines; opening = opening; stage = stage_of stage }

abbrev pub sheet_of : SheetInCode → Sheet
sheet_of s = sheet_at s.lines (amounts_of s.opening) s.stage
