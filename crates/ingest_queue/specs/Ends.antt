-- What becomes of the records of a file.
use Rattle.std.specs.Prelude.{◌≡◌, ◌+◌, ℕ, List, [], ◌∷◌, Option, Some, None}
use Rattle.std.specs.List.{filter_map}
use Rattle.ingest_queue.specs.Offers.{answers_to, rows_offered, rows_written}
use Rattle.ingest_queue.specs.declared.ends.FileEnd.{FileEnd}
use Rattle.ingest_queue.specs.declared.refusals.RowRefusal.{RowRefusal}
use Rattle.ingest_queue.specs.declared.refusals.RowRefused.{RowRefused}
use Rattle.ingest_queue.specs.declared.refusals.RowRefused.TheVariants as refused
use Rattle.ingest_queue.specs.declared.row_writers.Offer.{Offer}
use Rattle.ingest_queue.specs.declared.row_writers.Wrote.{Wrote}
use Rattle.ingest_queue.specs.declared.row_writers.Wrote.TheVariants as wrote
use Rattle.mon_points.specs.declared.records.RowRead.{RowRead}
use Rattle.mon_points.specs.declared.records.RowRead.TheVariants as read
use Rattle.mon_value.specs.declared.rows.Row.{Row}

abbrev pub refused_at : ℕ → RowRefused → RowRefusal
refused_at n fault = record { number = n; fault = fault }

-- the row of a record that reads as one
abbrev pub row_of : RowRead → Option Row
row_of (read.Row row) = Some row
row_of (read.Fault fault) = None

-- the rows among records
abbrev pub rows_of : List RowRead → List Row
rows_of reads = filter_map row_of reads

-- The records that are refused, of records that are numbered on from one, where the rows among them were answered so:
-- those that read as a fault, with that fault, and those whose row was refused, with that answer
abbrev pub refusals_of : ℕ → List RowRead → List Wrote → List RowRefusal
refusals_of n [] answers = []
refusals_of n (read.Fault fault ∷ reads) answers = refused_at n (refused.Read fault) ∷ refusals_of (n + 1) reads answers
refusals_of n (read.Row row ∷ reads) (wrote.Written ∷ answers) = refusals_of (n + 1) reads answers
refusals_of n (read.Row row ∷ reads) (wrote.Refused fault ∷ answers) =
    refused_at n (refused.Write fault) ∷ refusals_of (n + 1) reads answers
refusals_of n (read.Row row ∷ reads) [] = []

-- The rows of the file's records were offered, in their order. Those that were written are accepted, and each other
-- record is refused, once and with its number
pub record IsEndOf (reads : List RowRead) (offers : List Offer) (end : FileEnd) : Type 0 where
  pub offered : rows_offered offers ≡ rows_of reads
  pub accepted : end.accepted ≡ rows_written offers
  pub refused : end.refused ≡ refusals_of 1 reads (answers_to offers)
