use Rattle.std.proofs.Common.{◌≡◌, ◌+◌, ◌-◌, length}
use Rattle.crossbeam_queue.specs.Passes.{view, IsPassOf}
use Rattle.ingest_queue.specs.Coming.{HasWritten, IsUnderWay, poured_by, turns}
use Rattle.ingest_queue.specs.Feeding.{left_of}
use Rattle.ingest_queue.specs.Roles.{AreFirst, each}
use Rattle.ingest_queue.proofs.pouring.pour_all.Given as goal

abbrev pub invariant-loop : goal.invariant-loop
invariant-loop g l =
    IsPassOf l.queue l.hand × IsUnderWay (each g.F.Files.one g.F.Files.other) (view l.hand) (left_of l.first) (left_of l.second)
    × ((view l.hand).got ≡ turns l.trail)
    × AreFirst (each g.F.Files.one g.F.Files.other) (turns l.trail)
    × (l.poured ≡ poured_by l.trail)
    × HasWritten (g.W.RowWriter.takes l.fn.writer) (g.W.RowWriter.takes l.writer) (g.W.RowWriter.offers l.fn.writer) (g.W.RowWriter.offers l.writer)
    (λ (from : g.row.W.Denot) list. g.W.RowWriter.told from list l.fn.writer) (λ (from : g.row.W.Denot) list. g.W.RowWriter.told from list l.writer)
    l.fn.trail l.trail

abbrev pub decreases-loop : goal.decreases-loop
decreases-loop g l = (length (left_of l.first) + length (left_of l.second) + (length g.F.Files.one + length g.F.Files.other)) - length l.trail
