-- Truths that are turned around or not.
use Rattle.std.proofs.Common.{Bool, true, false, not}

-- a truth, or its opposite
abbrev pub truth_turned : Bool → Bool → Bool
truth_turned true truth = not truth
truth_turned false truth = truth
