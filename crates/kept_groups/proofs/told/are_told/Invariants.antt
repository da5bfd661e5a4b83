-- the parts that are left decide
use Rattle.std.proofs.Common.{drop}
use Rattle.kept_groups.specs.Trades.{AreTold}
use Rattle.kept_groups.proofs.told.are_told.Given as goal

abbrev pub invariant-loop-i : goal.invariant-loop-i
invariant-loop-i l = AreTold (drop l.i l.with) l.gone l.come (drop l.i l.parts) → AreTold l.with l.gone l.come l.parts
