use Rattle.std.proofs.Common.{refl}
use Rattle.kept_groups.proofs.ToldLemmas.{told_step}
use Rattle.kept_groups.proofs.told.are_told.Goals as goal

pub loop-i-preserved : goal.loop-i-preserved
loop-i-preserved c rest =
    c.loop-i.invariant (told_step c.args.gone.now c.args.come.now c.args.with.now c.args.parts.now c.loop-i.i _
    c.loop-i-test.true (c.if-not-is_told_at.ensures refl) rest)
