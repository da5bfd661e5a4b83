use Rattle.std.proofs.Common.{◌≡◌, ◌<◌, ◌+◌, ◌-◌, length}
use Rattle.std.specs.Bool.{MatchBool}
use Rattle.crossbeam_queue.specs.Passes.{view, IsPassOf}
use Rattle.ingest_queue.specs.Coming.{HasWritten, poured_by, pops_alone, turns}
use Rattle.ingest_queue.specs.Roles.{AreFirst, each}
use Rattle.ingest_queue.proofs.writers.drain.Given as goal

abbrev pub invariant-loop-turn : goal.invariant-loop-turn
invariant-loop-turn g l =
    IsPassOf l.queue l.pass × (view l.pass ≡ pops_alone (turns l.trail))
    × AreFirst (each g.F.Files.one g.F.Files.other) (turns l.trail)
    × (l.poured ≡ poured_by l.trail)
    × MatchBool l.drained (length l.fn.trail < length l.trail) (l.trail ≡ l.fn.trail)
    × HasWritten (g.W.RowWriter.takes l.fn.writer) (g.W.RowWriter.takes l.writer) (g.W.RowWriter.offers l.fn.writer) (g.W.RowWriter.offers l.writer)
    (λ (from : g.row.W.Denot) list. g.W.RowWriter.told from list l.fn.writer) (λ (from : g.row.W.Denot) list. g.W.RowWriter.told from list l.writer)
    l.fn.trail l.trail

abbrev pub decreases-loop-turn : goal.decreases-loop-turn
decreases-loop-turn g l = (length (g.F.Files.one) + length (g.F.Files.other)) - length l.trail
