-- Places kept in records. Assumes nothing.
use Rattle.std.specs.Prelude.{if◌then◌else◌, Some, None, Option, ◌==◌}
use Rattle.store.specs.declared.place.Entry.{Entry}
use Rattle.memory.specs.declared.record.Record.{Record}
use Rattle.memory.specs.Encodings.{Encoding}

abbrev pub blank_record : Record
blank_record = record { digest = 0; hop = 0; length = 0; tread = 0; occupied = 0 }

-- the record that is written
abbrev pub record_of : Option Entry → Record
record_of None = blank_record
record_of (Some e) = record { digest = e.digest; hop = e.hop; length = e.length; tread = e.tread; occupied = 1 }

-- what a record is read as
abbrev pub record_content : Record → Option Entry
record_content r = if r.occupied == 1 then Some (record { digest = r.digest; hop = r.hop; length = r.length; tread = r.tread }) else None

abbrev pub record_encoding : Encoding Record
record_encoding = record { bits = 124; blank = blank_record; decoded = record_content; encoded = record_of }
