-- Rows that were offered to a writer, and what they came to.
use Rattle.std.specs.Prelude.{List, Option, Some, None, map}
use Rattle.std.specs.List.{AllByRecursion, filter_map}
use Rattle.ingest_queue.specs.declared.row_writers.Offer.{Offer}
use Rattle.ingest_queue.specs.declared.row_writers.Wrote.{Wrote}
use Rattle.ingest_queue.specs.declared.row_writers.Wrote.TheVariants as wrote
use Rattle.mon_value.specs.declared.rows.Row.{Row}
use Rattle.range_cell.specs.declared.answers.WriteFault.{WriteFault}
use Rattle.range_cell.specs.declared.answers.WriteFault.TheVariants as unwritten

-- a row is refused for every fault but want of memory, with which a file ends
abbrev pub CanBeTold : WriteFault → Type 0
CanBeTold unwritten.NoZone = Unit {0}
CanBeTold (unwritten.OldPoint last) = Unit {0}
CanBeTold (unwritten.RangeFull limit) = Unit {0}
CanBeTold (unwritten.Unavailable range founds) = Unit {0}
CanBeTold unwritten.OutOfMemory = ⊥

abbrev pub CanBeAnswered : Wrote → Type 0
CanBeAnswered wrote.Written = Unit {0}
CanBeAnswered (wrote.Refused fault) = CanBeTold fault

-- no row was refused for want of memory
abbrev pub AreAnswered : List Offer → Type 0
AreAnswered offers = AllByRecursion (λ (offer : Offer). CanBeAnswered offer.answer) offers

-- the rows that were offered
abbrev pub rows_offered : List Offer → List Row
rows_offered offers = map (λ (offer : Offer). offer.row) offers

-- and what they were answered
abbrev pub answers_to : List Offer → List Wrote
answers_to offers = map (λ (offer : Offer). offer.answer) offers

-- the rows that were written, in their order
abbrev pub rows_written : List Offer → List Row
rows_written offers = filter_map (λ (offer : Offer). if_written offer.row offer.answer) offers
  where
    if_written : Row → Wrote → Option Row
    if_written row wrote.Written = Some row
    if_written row (wrote.Refused fault) = None
