-- whatever the records that are left come to, all come to that behind what was fed so far
use Rattle.std.proofs.Common.{length}
use Rattle.history_book.specs.Histories.{AreFronts}
use Rattle.mon_points.specs.Left.{reads_left}
use Rattle.line_runs.proofs.FeedSteps.{Feeding}
use Rattle.line_runs.proofs.feeds.feed_left.Given as goal

abbrev pub invariant-loop-read : goal.invariant-loop-read
invariant-loop-read g l = record {
  feeding : Feeding l.store (reads_left l.store.schemas l.fn.reader) (reads_left l.store.schemas l.reader) l.fed l.number
      l.fn.p l.p;
  fronts : AreFronts l.fn.p.seen l.p.seen;
}

abbrev pub decreases-loop-read : goal.decreases-loop-read
decreases-loop-read g l = length l.reader
