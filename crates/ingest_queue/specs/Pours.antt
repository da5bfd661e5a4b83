-- Two files that are poured to one writer.
use Rattle.std.specs.Prelude.{◌≡◌, ◌++◌, Bool, true, List}
use Rattle.std.specs.List.{AllByRecursion}
use Rattle.ingest_queue.specs.Ends.{IsEndOf, rows_of}
use Rattle.ingest_queue.specs.Offers.{AreAnswered, rows_offered, rows_written}
use Rattle.ingest_queue.specs.Weaves.{IsWeave}
use Rattle.ingest_queue.specs.declared.ends.Poured.{Poured}
use Rattle.ingest_queue.specs.declared.row_writers.Offer.{Offer}
use Rattle.mon_points.specs.declared.records.RowRead.{RowRead}
use Rattle.mon_points.specs.declared.records.RowRead.TheVariants as read
use Rattle.mon_value.specs.declared.rows.Row.{Row}

-- the writer takes the record's row, if it is one
abbrev pub IsTakenBy : (Row → Bool) → RowRead → Type 0
IsTakenBy takes (read.Row row) = takes row ≡ true
IsTakenBy takes (read.Fault fault) = Unit {0}

-- the writer takes each row of the file
abbrev pub AreTakenBy : (Row → Bool) → List RowRead → Type 0
AreTakenBy takes reads = AllByRecursion (IsTakenBy takes) reads

-- The rows of both files were offered, each once, and those of either file in its order. Each file has its end by what
-- its own rows were answered, and what was accepted is what was written, in that order. What the writer tells of offers
-- is told of these
pub record IsPoured (one_file other_file : List RowRead) (before after : List Offer) (Told : List Offer → Type 0)
    (poured : Poured) : Type 0 where
  pub made : List Offer
  pub grown : after ≡ before ++ made
  pub told : Told made
  pub answered : AreAnswered made
  pub one : List Offer
  pub other : List Offer
  pub woven : IsWeave made one other
  pub first : IsEndOf one_file one poured.first
  pub second : IsEndOf other_file other poured.second
  pub accepted : poured.accepted ≡ rows_written made

-- What was offered, whatever came then: the first rows of each file, each once and in its order
pub record IsBegun (one_file other_file : List RowRead) (before after : List Offer) (Told : List Offer → Type 0) : Type 0 where
  pub made : List Offer
  pub grown : after ≡ before ++ made
  pub told : Told made
  pub one : List Row
  pub other : List Row
  pub woven : IsWeave (rows_offered made) one other
  pub first_left : List Row
  pub second_left : List Row
  pub first : one ++ first_left ≡ rows_of one_file
  pub second : other ++ second_left ≡ rows_of other_file
