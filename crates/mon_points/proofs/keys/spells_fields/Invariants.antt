-- the cells so far spell their values, so all do where those that are left do
use Rattle.std.proofs.Common.{◌≡◌, ◌+◌, drop}
use Rattle.csv.specs.Records.{fields_of}
use Rattle.mon_points.specs.Keys.{spells_fields}
use Rattle.mon_points.proofs.keys.spells_fields.Given as goal

abbrev pub invariant-loop-i : goal.invariant-loop-i
invariant-loop-i l =
    spells_fields l.fields (drop l.place (fields_of l.cells)) l.values
    ≡ spells_fields (drop l.i l.fields) (drop (l.place + l.i) (fields_of l.cells)) (drop l.i l.values)
