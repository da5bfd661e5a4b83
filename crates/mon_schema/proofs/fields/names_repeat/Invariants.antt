-- no name so far stands again, so the whole list repeat a name where the rest does
use Rattle.std.proofs.Common.{◌≡◌, length}
use Rattle.mon_schema.specs.Faults.{texts_repeat, names_of_fields}
use Rattle.mon_schema.proofs.fields.names_repeat.Given as goal

abbrev pub invariant-loop-field : goal.invariant-loop-field
invariant-loop-field l = texts_repeat (names_of_fields l.fields) ≡ texts_repeat (names_of_fields l.rest)

abbrev pub decreases-loop-field : goal.decreases-loop-field
decreases-loop-field l = length l.rest
