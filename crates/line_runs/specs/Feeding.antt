-- What becomes of the records of files, one after another, by what the line's caller knows before each and behind it.
use Rattle.std.specs.Prelude.{◌≡◌, ◌+◌, ◌∷◌, ◌++◌, ◌⊎◌, ℕ, List, []}
use Rattle.know.specs.Knowledge.{Knowledge}
use Rattle.ingest_queue.specs.declared.ends.FileEnd.{FileEnd}
use Rattle.ingest_queue.specs.Ends.{IsEndOf}
use Rattle.ingest_queue.specs.Offers.{rows_written}
use Rattle.ingest_queue.specs.Weaves.{IsWeave}
use Rattle.ingest_queue.specs.declared.ends.Poured.{Poured}
use Rattle.ingest_queue.specs.declared.row_writers.Offer.{Offer}
use Rattle.ingest_queue.specs.declared.row_writers.Wrote.{Wrote}
use Rattle.ingest_queue.specs.declared.row_writers.Wrote.TheVariants as wrote
use Rattle.mon_config.specs.declared.config.Config.{Config}
use Rattle.mon_points.specs.declared.faults.RowFault.{RowFault}
use Rattle.mon_points.specs.declared.records.RowRead.{RowRead}
use Rattle.mon_points.specs.declared.records.RowRead.TheVariants as read
use Rattle.mon_store.specs.Writes.{IsRefused, IsUnwritten, IsWritten}
use Rattle.mon_value.specs.declared.histories.Ack.{Ack}
use Rattle.mon_value.specs.declared.rows.Row.{Row}
use Rattle.range_cell.specs.declared.answers.WriteFault.{WriteFault}
use Rattle.ingest_queue.specs.Ends.{refused_at}
use Rattle.ingest_queue.specs.Offers.{CanBeTold}
use Rattle.ingest_queue.specs.declared.refusals.RowRefusal.{RowRefusal}
use Rattle.ingest_queue.specs.declared.refusals.RowRefused.TheVariants as refused

module _ (config : Config) where
  -- a row was written
  pub record WasTaken (row : Row) (before after : Knowledge) : Type 0 where
    pub ack : Ack
    pub written : IsWritten config row before after ack

  -- or refused, and nothing was written
  pub record WasRefused (row : Row) (fault : WriteFault) (before after : Knowledge) : Type 0 where
    pub told : CanBeTold fault
    pub unwritten : IsUnwritten before after
    pub cause : IsRefused config row before after fault

  -- ---- one record

  pub record RowTaken (row : Row) (old new : FileEnd) (before after : Knowledge) : Type 0 where
    pub accepted : new.accepted ≡ old.accepted ++ row ∷ []
    pub refused : new.refused ≡ old.refused
    pub taken : WasTaken row before after

  pub record RowRefusedFor (n : ℕ) (row : Row) (old new : FileEnd) (before after : Knowledge) : Type 0 where
    pub fault : WriteFault
    pub accepted : new.accepted ≡ old.accepted
    pub refused : new.refused ≡ old.refused ++ refused_at n (refused.Write fault) ∷ []
    pub cause : WasRefused row fault before after

  pub record ReadRefused (n : ℕ) (fault : RowFault) (old new : FileEnd) (before after : Knowledge) : Type 0 where
    pub accepted : new.accepted ≡ old.accepted
    pub refused : new.refused ≡ old.refused ++ refused_at n (refused.Read fault) ∷ []
    pub same : after ≡ before

  -- a row is accepted behind those before it, or refused with its record's number
  abbrev pub RowFed : ℕ → Row → FileEnd → FileEnd → Knowledge → Knowledge → Type 0
  RowFed n row old new before after = RowTaken row old new before after ⊎ RowRefusedFor n row old new before after

  abbrev pub RecordFed : ℕ → RowRead → FileEnd → FileEnd → Knowledge → Knowledge → Type 0
  RecordFed n (read.Row row) old new before after = RowFed n row old new before after
  RecordFed n (read.Fault fault) old new before after = ReadRefused n fault old new before after

  -- ---- all records

  -- Records that are numbered on from one came to these rows and refusals: the row of each was written, or the record
  -- was refused and nothing was written
  abbrev pub AreFed : ℕ → List RowRead → List Row → List RowRefusal → Knowledge → Knowledge → Type 0
  AreFed n [] rows refusals before after = (rows ≡ []) × (refusals ≡ []) × (after ≡ before)
  AreFed n (read.Fault fault ∷ reads) rows refusals before after = (rest : List RowRefusal)
      × (refusals ≡ refused_at n (refused.Read fault) ∷ rest) × AreFed (n + 1) reads rows rest before after
  AreFed n (read.Row row ∷ reads) rows refusals before after = (mid : Knowledge)
      × (((rest : List Row) × (rows ≡ row ∷ rest) × WasTaken row before mid
      × AreFed (n + 1) reads rest refusals mid after)
      ⊎ ((fault : WriteFault) × (rest : List RowRefusal) × (refusals ≡ refused_at n (refused.Write fault) ∷ rest)
      × WasRefused row fault before mid × AreFed (n + 1) reads rows rest mid after))

  -- ---- rows that are offered

  -- a row that was offered was answered so
  abbrev pub WasAnswered : Row → Wrote → Knowledge → Knowledge → Type 0
  WasAnswered row wrote.Written before after = WasTaken row before after
  WasAnswered row (wrote.Refused fault) before after = WasRefused row fault before after

  -- rows were offered one after another and answered so, and nothing else was written
  abbrev pub AreOffered : List Offer → Knowledge → Knowledge → Type 0
  AreOffered [] before after = IsUnwritten before after
  AreOffered (offer ∷ offers) before after = (now : Knowledge) × (mid : Knowledge) × IsUnwritten before now
      × WasAnswered offer.row offer.answer now mid × AreOffered offers mid after

-- a caller offered these rows to a store, and neither of the two was exchanged
pub record HasOffered (config later : Config) (caller same : ℕ) (offers : List Offer) (before after : Knowledge)
    : Type 0 where
  pub store : later ≡ config
  pub pass : same ≡ caller
  pub offered : AreOffered config offers before after

-- The rows of two files were offered, each once, and those of either file in its order; each file has its end by what its
-- own rows were answered
pub record WerePoured (config : Config) (one_file other_file : List RowRead) (before after : Knowledge) (ends : Poured)
    : Type 0 where
  pub made : List Offer
  pub offered : AreOffered config made before after
  pub one : List Offer
  pub other : List Offer
  pub woven : IsWeave made one other
  pub first : IsEndOf one_file one ends.first
  pub second : IsEndOf other_file other ends.second
  pub accepted : ends.accepted ≡ rows_written made
