use Rattle.std.proofs.Common.{refl, rules}
use Rattle.mon_fold.proofs.GrowthLemmas.{behind_grown}
use Rattle.mon_fold.proofs.growth.Growth.behind.Goals as goal

pub returns : goal.returns
returns c = behind_grown _ c.args.all.now (search rules) (search rules) refl
