-- Leaves by their numbers.
use Rattle.std.proofs.Common.{◌≡◌, true, ap}
use Rattle.std.proofs.lemmas.Bool.{eqb-true}
use Rattle.mon_value.specs.Histories.{leaf_numbered, same_leaf}
use Rattle.mon_value.specs.declared.positions.Leaf.{Leaf}

pub same_leaves : (a b : Leaf) → same_leaf a b ≡ true → a ≡ b
same_leaves a b same = ap leaf_numbered (eqb-true a.0 b.0 same)
