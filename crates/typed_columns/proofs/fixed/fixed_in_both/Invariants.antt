-- What was found, in front of what is left.
use Rattle.std.proofs.Common.{◌≡◌, ◌++◌, drop}
use Rattle.typed_trees.specs.FixedColumns as spec
use Rattle.typed_columns.proofs.fixed.fixed_in_both.Given as goal

abbrev pub invariant-loop-left : goal.invariant-loop-left
invariant-loop-left l =
    l.both ++ spec.fixed_in_both (drop l.left-index l.lefts) l.rights ≡ spec.fixed_in_both l.lefts l.rights
