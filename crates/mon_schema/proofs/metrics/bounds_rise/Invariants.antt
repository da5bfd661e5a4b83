-- the bounds rise where those from the last one on do, and are numbers where those that are left are
use Rattle.std.proofs.Common.{◌≡◌, ◌∷◌, drop}
use Rattle.mon_schema.specs.Fits.{AreNumbers}
use Rattle.mon_value.specs.Groups.{bounds_rise}
use Rattle.mon_schema.proofs.metrics.bounds_rise.Given as goal

abbrev pub invariant-loop-bound : goal.invariant-loop-bound
invariant-loop-bound l = record {
  rising : bounds_rise l.bounds ≡ bounds_rise (l.last ∷ drop l.bound-index l.rest);
  numbers : AreNumbers (drop l.bound-index l.rest) → AreNumbers l.bounds;
}
