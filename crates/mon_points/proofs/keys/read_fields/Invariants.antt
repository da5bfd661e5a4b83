-- the values so far, and what the other fields read as, are what all fields read as
use Rattle.std.proofs.Common.{◌≡◌, ◌+◌, ◌-◌, drop}
use Rattle.csv.specs.Records.{fields_of}
use Rattle.mon_points.specs.Records.{fields_read}
use Rattle.mon_points.proofs.FieldsReadLemmas.{behind}
use Rattle.mon_points.proofs.keys.read_fields.Given as goal

abbrev pub invariant-loop-i : goal.invariant-loop-i
invariant-loop-i l = fields_read (l.place - 4) l.fields (drop l.place (fields_of l.cells)) ≡ behind l.values
    (fields_read (l.place - 4 + l.i) (drop l.i l.fields) (drop (l.place + l.i) (fields_of l.cells)))
