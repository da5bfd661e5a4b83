use Rattle.std.proofs.Common.{◌≡◌, ◌<◌, length}
use Rattle.std.specs.Bool.{MatchBool}
use Rattle.crossbeam_queue.specs.Passes.{view, IsPassOf}
use Rattle.ingest_queue.specs.Roles.{each}
use Rattle.ingest_queue.specs.Feeding.{IsFeeding, left_of}
use Rattle.ingest_queue.proofs.feeders.feed.Given as goal

abbrev pub invariant-loop-turn : goal.invariant-loop-turn
invariant-loop-turn g l =
    IsPassOf l.queue l.pass × IsFeeding (each g.F.Files.one g.F.Files.other) l.second (view l.pass) (left_of l.feeder)
    × MatchBool l.fed (length (left_of l.feeder) < length (left_of l.fn.feeder)) (length (left_of l.feeder) ≡ length (left_of l.fn.feeder))

abbrev pub decreases-loop-turn : goal.decreases-loop-turn
decreases-loop-turn g l = length (left_of l.feeder)
