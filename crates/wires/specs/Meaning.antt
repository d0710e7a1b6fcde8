-- What a ledger means.
use Rattle.std.specs.Prelude.{map, vec_items}
use Rattle.wire.specs.Wire.{Wire}
use Rattle.wires.specs.declared.ledger.Ledger.{Ledger}
use Rattle.wires.specs.Kept.{wire_of}
use Rattle.wires.specs.Parts.{numbers_of, posted_of, kept_in}

-- the wire that a ledger holds
abbrev pub meaning_of : Ledger → Wire
meaning_of l = wire_of (map posted_of (vec_items l.posts)) (numbers_of l.definitive) (kept_in (vec_items l.pages))
