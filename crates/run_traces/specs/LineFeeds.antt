-- What feeds and pours made: each accepted row is acknowledged once, under its line's number and in the line's order; each record
-- of a file is accepted or refused; and no entry of a history was made by no line, or by two.
use Rattle.std.specs.Prelude.{◌≡◌, ◌≤◌, ◌+◌, ◌∷◌, ◌⊎◌, ℕ, nat_eq, Bool, true, false, List, [], filter, slice_get}
use Rattle.std.specs.Prelude.{Option, Some, None, Contains, if◌then◌else◌}
use Rattle.std.specs.List.{AllByRecursion, flat_map, list_any}
use Rattle.history_book.specs.Histories.{AreFronts, entries}
use Rattle.history_book.specs.declared.views.BookEntry.{BookEntry}
use Rattle.history_book.specs.declared.views.BookEntry.TheVariants as one
use Rattle.history_book.specs.declared.views.History.{History}
use Rattle.history_book.specs.declared.views.History.TheVariants as of
use Rattle.mon_config.specs.Configs.{range_of_key}
use Rattle.mon_config.specs.declared.config.Config.{Config}
use Rattle.mon_points.specs.Records.{reads_of}
use Rattle.mon_points.specs.declared.records.RowRead.{RowRead}
use Rattle.mon_points.specs.declared.records.RowRead.TheVariants as read
use Rattle.mon_topo.specs.HeldHistories.{first_histories}
use Rattle.mon_topo.specs.RangeHistories.{turn_ack}
use Rattle.mon_value.specs.Histories.{range_history, same_range}
use Rattle.mon_value.specs.Turns.{Turn, Adds, Hides}
use Rattle.mon_value.specs.declared.histories.Ack.{Ack}
use Rattle.mon_value.specs.declared.histories.Entry.TheVariants as entry
use Rattle.mon_value.specs.declared.histories.Histories.{Histories}
use Rattle.mon_value.specs.declared.histories.RangeEntry.{RangeEntry}
use Rattle.mon_value.specs.declared.histories.RangeEntry.TheVariants as range_entry
use Rattle.mon_value.specs.declared.positions.Range.{Range}
use Rattle.mon_value.specs.declared.positions.Slot.{Slot}
use Rattle.mon_value.specs.declared.rows.Row.{Row}
use Rattle.range_cell.specs.declared.answers.WriteFault.{WriteFault}
use Rattle.run_theory.specs.Parts.{Each, Part, lines_of}
use Rattle.run_theory.specs.InPlace.{AreAlone, IsAlone}
use Rattle.run_traces.specs.LineSwitches.{first_length, is_entry_of}
use Rattle.run_traces.specs.RanLines.{RanLine}
use Rattle.run_traces.specs.declared.line_files.LineFiles.{LineFiles}
use Rattle.run_traces.specs.declared.traces.LineTrace.{LineTrace}
use Rattle.run_traces.specs.declared.traces.LineTrace.TheVariants as came
use Rattle.ingest_queue.specs.Ends.{refused_at}
use Rattle.ingest_queue.specs.Weaves.{IsWeave}
use Rattle.ingest_queue.specs.declared.ends.Poured.{Poured}
use Rattle.ingest_queue.specs.declared.refusals.RowRefusal.{RowRefusal}
use Rattle.ingest_queue.specs.declared.refusals.RowRefused.TheVariants as refused

-- ---- records

-- What became of records that are numbered on from one: the row of each is accepted as the next one, or the record is
-- refused as the next one, with its number
abbrev pub AreTold : ℕ → List RowRead → List Row → List RowRefusal → Type 0
AreTold n [] rows refusals = (rows ≡ []) × (refusals ≡ [])
AreTold n (read.Fault fault ∷ reads) rows refusals =
    (rest : List RowRefusal) × (refusals ≡ refused_at n (refused.Read fault) ∷ rest) × AreTold (n + 1) reads rows rest
AreTold n (read.Row row ∷ reads) rows refusals =
    ((rest : List Row) × (rows ≡ row ∷ rest) × AreTold (n + 1) reads rest refusals)
    ⊎ ((fault : WriteFault) × (rest : List RowRefusal) × (refusals ≡ refused_at n (refused.Write fault) ∷ rest)
    × AreTold (n + 1) reads rows rest)

-- the row that an entry acknowledges under a number
abbrev pub acked_under : ℕ → RangeEntry → List Row
acked_under n (range_entry.Opened pass slot leaf) = []
acked_under n (range_entry.Acked pass row ack) = if nat_eq n pass then row ∷ [] else []
acked_under n (range_entry.Trimmed pass before ack) = []
acked_under n (range_entry.Retired pass slot) = []

module _ (config : Config) where
  -- each record of a file is told of, once and in order
  abbrev pub FileIsTold : List ℕ → List Row → List RowRefusal → Type 0
  FileIsTold content accepted refusals = AreTold 1 (reads_of config.schemas content) accepted refusals

  -- and of two files each of either; what was accepted is what was accepted of either, woven together
  pub record PourIsTold (content : LineFiles) (ends : Poured) : Type 0 where
    pub first : FileIsTold content.first ends.first.accepted ends.first.refused
    pub second : FileIsTold content.second ends.second.accepted ends.second.refused
    pub woven : IsWeave ends.accepted ends.first.accepted ends.second.accepted

  abbrev pub IsTold : LineFiles → LineTrace → Type 0
  IsTold content (came.Fed pass accepted refusals) = FileIsTold content.first accepted refusals
  IsTold content (came.Poured pass ends) = PourIsTold content ends
  IsTold content other = Unit {0}

  abbrev pub LineIsTold : RanLine → Type 0
  LineIsTold line = IsTold line.content line.trace

  -- ---- acknowledgements

  -- whether a row's target lies in a range
  abbrev pub lies_in : Range → Row → Bool
  lies_in range row = is_range range (range_of_key config row.key)
    where
      is_range : Range → Option Range → Bool
      is_range range None = false
      is_range range (Some other) = same_range range other

  -- the rows that a line of a number accepted in a range
  abbrev pub accepted_in : ℕ → Range → LineTrace → List Row
  accepted_in n range (came.Fed pass accepted refusals) =
      if nat_eq n pass then filter (lies_in range) accepted else []
  accepted_in n range (came.Poured pass ends) =
      if nat_eq n pass then filter (lies_in range) ends.accepted else []
  accepted_in n range other = []

  -- what is acknowledged under a number in a range's history is what the lines of that number accepted, in their order
  abbrev pub AreAcknowledged : Histories → List RanLine → Type 0
  AreAcknowledged ended lines = (n : ℕ) (range : Range)
      → flat_map (acked_under n) (range_history ended range) ≡ flat_map (λ line. accepted_in n range line.trace) lines

  -- ---- entries

  -- Each history begins with the ranges' first replicas, and each other entry is of some line
  pub record AreOfLines (ended : Histories) (lines : List RanLine) : Type 0 where
    pub begun : AreFronts (first_histories config.topology) ended
    pub made : (history : History) (place : ℕ) (e : BookEntry) → slice_get (entries ended history) place ≡ Some e
        → first_length config.topology ended history ≤ place
        → list_any (λ line. is_entry_of line history place e) lines ≡ true

-- ---- puts and trims

-- among entries of a range's history one acknowledges a row or a bound, and a slot is among those that took it
pub record IsPaired (made : History → List BookEntry) (pass : ℕ) (range : Range) (slot : Slot) (turn : Turn) : Type 0
  where
    pub ack : Ack
    pub told : Contains (made (of.Range range)) (one.Range (turn_ack pass turn ack))
    pub took : Contains ack.took slot

-- the row of a put, or the bound of a trim, is acknowledged under its number, as one that its slot took
abbrev pub HasItsAck : (History → List BookEntry) → BookEntry → Type 0
HasItsAck made (one.Leaf (entry.Opened pass range slot rows)) = Unit {0}
HasItsAck made (one.Leaf (entry.Put pass range slot row)) = IsPaired made pass range slot (Adds row)
HasItsAck made (one.Leaf (entry.Trim pass range slot before)) = IsPaired made pass range slot (Hides before)
HasItsAck made (one.Leaf (entry.Down pass)) = Unit {0}
HasItsAck made (one.Leaf (entry.Up pass)) = Unit {0}
HasItsAck made (one.Range e) = Unit {0}

-- each entry of a line, at the end of the run
abbrev pub LineIsPaired : Histories → List RanLine → List RanLine → RanLine → Type 0
LineIsPaired ended seen later line = (history : History) (place : ℕ) (e : BookEntry)
    → slice_get (entries ended history) place ≡ Some e → is_entry_of line history place e ≡ true
    → HasItsAck (entries ended) e

-- no two lines share an entry, neither one that ran before the other nor two that ran beside each other
pub record ShareNoEntry (ended : Histories) (parts : List (Part RanLine)) : Type 0 where
  pub later : Each (λ seen later line. IsAlone is_entry_of (entries ended) line later) [] parts
  pub beside : AllByRecursion (λ part. AreAlone is_entry_of (entries ended) (lines_of part)) parts
