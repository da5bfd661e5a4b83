-- Where the folds left are the same, all are.
use Rattle.std.proofs.Common.{◌≡◌, drop}
use Rattle.mon_meaning.proofs.same_columns.are_same_folds.Given as goal

abbrev pub invariant-loop-fold : goal.invariant-loop-fold
invariant-loop-fold l = drop l.fold-index l.folds ≡ l.rest → l.folds ≡ l.others
