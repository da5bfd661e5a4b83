use Rattle.mon_fold.proofs.SlidingLemmas.{alike_among}
use Rattle.mon_fold.proofs.sliding.total_between.Goals as goal

pub added_value-requires-clause-alike : goal.added_value-requires-clause-alike
added_value-requires-clause-alike c = alike_among c.args.start c.args.end c.args.all.now c.requires.alike
