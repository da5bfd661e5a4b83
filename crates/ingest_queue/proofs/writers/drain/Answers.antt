use Rattle.std.proofs.Common.{rules, ◌+◌, length}
use Rattle.ingest_queue.proofs.PourLemmas.{few_came, nearer}
use Rattle.ingest_queue.specs.Roles.{each}
use Rattle.ingest_queue.proofs.writers.drain.Goals as goal

pub loop-turn-smaller : goal.loop-turn-smaller
loop-turn-smaller g c =
    nearer (length g.F.Files.one + length g.F.Files.other) _ _ (search rules) (few_came (each g.F.Files.one g.F.Files.other) _ c.keep.ensures.first)
