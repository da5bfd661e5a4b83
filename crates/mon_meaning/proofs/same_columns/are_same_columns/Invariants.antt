-- Where the columns left are the same, all are.
use Rattle.std.proofs.Common.{◌≡◌, drop}
use Rattle.mon_meaning.proofs.same_columns.are_same_columns.Given as goal

abbrev pub invariant-loop-column : goal.invariant-loop-column
invariant-loop-column l = drop l.column-index l.columns ≡ l.rest → l.columns ≡ l.others
