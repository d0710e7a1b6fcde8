-- What a room's table of records keeps.
use Rattle.std.specs.Prelude.{ℕ, Bool, None, nat_lt}
use Rattle.rooms.specs.declared.record.Record.{Record}

-- the record of a batch that is neither run nor settled
abbrev pub blank : Record
blank = record { mark = None; serializer = 0 }

-- a batch that the table has a record for
abbrev pub known : ℕ → Bool
known b = nat_lt b 256
