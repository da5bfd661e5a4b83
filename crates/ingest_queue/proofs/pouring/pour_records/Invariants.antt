use Rattle.std.proofs.Common.{true, false}
use Rattle.ingest_queue.specs.Feeding.{numbered}
use Rattle.ingest_queue.proofs.pouring.pour_records.Given as goal

-- the files that are poured
abbrev pub ghosts-pour_in : goal.ghosts-pour_in
ghosts-pour_in g a = record { one = numbered false 1 (g.Q.Records.left a.first); other = numbered true 1 (g.Q.Records.left a.second) }
