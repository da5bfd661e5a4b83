-- where none of the rows that are left is the one, none is
use Rattle.std.proofs.Common.{◌≡◌, false, drop}
use Rattle.std.specs.List.{AllByRecursion}
use Rattle.mon_value.specs.Same.{same_row}
use Rattle.mon_value.specs.declared.tables.TimedRow.{TimedRow}
use Rattle.kept_exchanges.proofs.writing.place_of.Given as goal

abbrev pub invariant-loop-place : goal.invariant-loop-place
invariant-loop-place l =
    AllByRecursion (λ (row : TimedRow). same_row l.one row ≡ false) (drop l.place l.rows)
    → AllByRecursion (λ (row : TimedRow). same_row l.one row ≡ false) l.rows
