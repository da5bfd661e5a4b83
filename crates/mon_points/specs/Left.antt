-- The records that a reader of them has left.
use Rattle.std.specs.Prelude.{ℕ, ◌+◌, ◌≡◌, Bool, true, false, List, [], ◌∷◌, Option, Some, None, length, map}
use Rattle.std.specs.Borrow.{Bor}
use Rattle.csv.specs.Machine.{ends_at_end}
use Rattle.csv.specs.Reading.{Ready, default_config, records_from, source_of}
use Rattle.csv.specs.declared.parser.State.{State}
use Rattle.csv.specs.declared.reader.Reader.{Reader}
use Rattle.csv.specs.declared.reader.Trim.TheVariants as trim
use Rattle.mon_schema.specs.Names.{SchemaLists}
use Rattle.mon_points.specs.Records.{record_read}
use Rattle.mon_points.specs.declared.records.RowRead.{RowRead}

-- the bytes that a reader of bytes in memory has left
abbrev pub unread : Reader (Bor (List ℕ)) → Option (List ℕ)
unread reader = source_of (λ bytes. Some bytes.now) reader

-- the records of these bytes, from a state on
abbrev pub records_in : State → Option (List ℕ) → List (List (List ℕ))
records_in state None = []
records_in state (Some bytes) = records_from default_config (length bytes + 1) state bytes

-- the records that a reader has left, each as its cells: none where it has ended
abbrev pub records_left : Bool → Reader (Bor (List ℕ)) → List (List (List ℕ))
records_left true reader = []
records_left false reader = records_in reader.state (unread reader)

-- The reader stands between two records, where no end of the text ends one, or in front of the first.
pub record IsBetween (reader : Reader (Bor (List ℕ))) : Type 0 where
  pub plain : reader.trim ≡ trim.None
  pub ready : Ready reader
  pub config : reader.config ≡ default_config
  pub between : ends_at_end reader.state ≡ false
  pub rest : List ℕ
  pub source : unread reader ≡ Some rest

-- what the records that are left read as
abbrev pub reads_left : SchemaLists → List (List (List ℕ)) → List RowRead
reads_left schemas left = map (record_read schemas) left

-- the first of the reads that were left is this one, and the others still are
abbrev pub IsNextRead : SchemaLists → List (List (List ℕ)) → List (List (List ℕ)) → RowRead → Type 0
IsNextRead schemas old new read = reads_left schemas old ≡ read ∷ reads_left schemas new
