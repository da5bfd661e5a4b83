-- the cells of the fields so far
use Rattle.std.proofs.Common.{◌≡◌, ◌++◌, map, take}
use Rattle.mon_value.specs.Order.{field_as_value}
use Rattle.mon_meaning.proofs.fetches.add_fields.Given as goal

abbrev pub invariant-loop-field : goal.invariant-loop-field
invariant-loop-field l = l.cells ≡ l.fn.cells ++ map field_as_value (take l.field-index l.fields)
