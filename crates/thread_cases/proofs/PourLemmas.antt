-- A writer that takes every row takes each row of a file.
use Rattle.std.proofs.Common.{true, List, [], ◌∷◌, refl}
use Rattle.ingest_queue.specs.Pours.{AreTakenBy}
use Rattle.mon_points.specs.declared.records.RowRead.{RowRead}
use Rattle.mon_points.specs.declared.records.RowRead.TheVariants as read

pub all_taken : (reads : List RowRead) → AreTakenBy (λ row. true) reads
all_taken [] = tt
all_taken (read.Row row ∷ reads) = (refl, all_taken reads)
all_taken (read.Fault fault ∷ reads) = (tt, all_taken reads)
