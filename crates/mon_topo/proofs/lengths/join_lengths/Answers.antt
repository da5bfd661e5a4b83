use Rattle.std.proofs.Common.{sym}
use Rattle.mon_value.proofs.FartherLemmas.{farther_each-nil, place_kept, place_taken}
use Rattle.mon_topo.proofs.lengths.join_lengths.Goals as goal
use Rattle.mon_topo.proofs.lengths.join_lengths.Goals.{else-mine-i, then-mine-i}

pub loop-i-init : goal.loop-i-init
loop-i-init c = sym (farther_each-nil (λ length. length) c.args.mine.now)

pub loop-i-preserved : goal.loop-i-preserved
loop-i-preserved c =
    elim c.if-mine-i.branch [
      | then-mine-i w ↦ place_taken (λ length. length) c.args.mine.now c.args.theirs.now c.loop-i.mine c.if-mine-i.mine
          c.loop-i.i _
          c.loop-i-test.true c.requires.alike c.loop-i.invariant w.if-mine-i.true w.mine-is
      | else-mine-i w ↦ place_kept (λ length. length) c.args.mine.now c.args.theirs.now c.loop-i.mine c.if-mine-i.mine
          c.loop-i.i _
          c.loop-i-test.true c.requires.alike c.loop-i.invariant w.if-mine-i.false w.mine-is
    ]
