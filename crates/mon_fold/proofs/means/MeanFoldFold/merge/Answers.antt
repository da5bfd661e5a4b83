use Rattle.std.proofs.Common.{arith}
use Rattle.std.proofs.lemmas.Int.{ints}
use Rattle.mon_fold.proofs.MeanLemmas.{same_mean}
use Rattle.mon_fold.proofs.means.MeanFoldFold.merge.Goals as goal

pub returns : goal.returns
returns c = record { merged = same_mean _ _ (omega (arith, ints)) (omega (arith, ints)) }
