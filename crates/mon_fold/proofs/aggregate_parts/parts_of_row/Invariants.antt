-- the parts so far and those that are left are all
use Rattle.std.proofs.Common.{◌≡◌, ◌++◌, ◌∷◌, [], drop}
use Rattle.mon_fold.specs.PartialGroups.{parts_over}
use Rattle.mon_fold.proofs.aggregate_parts.parts_of_row.Given as goal

abbrev pub invariant-loop-aggregate : goal.invariant-loop-aggregate
invariant-loop-aggregate l = l.parts ++ parts_over (drop l.aggregate-index l.with) (l.row ∷ []) ≡ parts_over l.with
    (l.row ∷ [])
