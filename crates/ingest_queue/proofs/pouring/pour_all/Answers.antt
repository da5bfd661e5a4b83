use Rattle.std.proofs.Common.{rules, length, ◌+◌}
use Rattle.ingest_queue.specs.Roles.{each}
use Rattle.ingest_queue.proofs.PourLemmas.{few_came, nearer_loop}
use Rattle.ingest_queue.proofs.pouring.pour_all.Goals as goal

pub loop-smaller : goal.loop-smaller
loop-smaller g c =
    nearer_loop c.in_ok-go_on.field-0 _ (length g.F.Files.one + length g.F.Files.other) _ _ _ _ (search rules) c.in_ok-go_on.ensures.moved
    (few_came (each g.F.Files.one g.F.Files.other) _ c.go_on.ensures.popped)
