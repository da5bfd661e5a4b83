-- How a write ends, and what its caller has then.
use Rattle.std.specs.Prelude.{◌≡◌, ◌+◌, ℕ, List, [], ◌∷◌, ◌++◌, length, map, filter, drop, Option, Some, None}
use Rattle.std.specs.Prelude.{Contains}
use Rattle.std.specs.Prelude.{if◌then◌else◌}
use Rattle.std.specs.List.{flat_map}
use Rattle.history_book.specs.Histories.{AreFronts, entries, is_under, same_history}
use Rattle.history_book.specs.Seats.{hand_of, length_note}
use Rattle.history_book.specs.declared.views.BookEntry.{BookEntry}
use Rattle.history_book.specs.declared.views.BookEntry.TheVariants as one
use Rattle.history_book.specs.declared.views.History.{History}
use Rattle.history_book.specs.declared.views.History.TheVariants as of
use Rattle.history_book.specs.declared.views.Kept.{Kept}
use Rattle.history_book.specs.declared.views.LengthNote.{LengthNote}
use Rattle.know.specs.Knowledge.{Knowledge}
use Rattle.mon_config.specs.Configs.{range_of_key}
use Rattle.mon_config.specs.declared.config.Config.{Config}
use Rattle.mon_topo.specs.HeldHistories.{BeginsWith}
use Rattle.mon_topo.specs.RangeHistories.{IsAckOf, serving, turn_ack}
use Rattle.mon_topo.specs.Zones.{leaves_in}
use Rattle.mon_value.specs.Histories.{range_history}
use Rattle.mon_value.specs.LeafHistories.{turn_entry}
use Rattle.mon_value.specs.Turns.{Turn, Adds}
use Rattle.mon_value.specs.declared.histories.Ack.{Ack}
use Rattle.mon_value.specs.declared.histories.Miss.{Miss}
use Rattle.mon_value.specs.declared.histories.RangeEntry.{RangeEntry}
use Rattle.mon_value.specs.declared.histories.RangeEntry.TheVariants as range_entry
use Rattle.mon_value.specs.declared.positions.FoundDown.{FoundDown}
use Rattle.mon_value.specs.declared.positions.Range.{Range}
use Rattle.mon_value.specs.declared.positions.SlotLeaf.{SlotLeaf}
use Rattle.mon_value.specs.declared.rows.Row.{Row}
use Rattle.owners.specs.Puts.{pass_of}
use Rattle.range_cell.specs.declared.answers.WriteFault.{WriteFault}
use Rattle.range_cell.specs.declared.answers.WriteFault.TheVariants as fault
use Rattle.running_query.specs.Ends.{WasFoundDown}
use Rattle.write_core.specs.RangeAnswers.{refusal}
use Rattle.write_core.specs.declared.refusals.Refused.TheVariants as refused

-- ---- what was found in a call

-- A range was found with this history: its length was noted last, and it goes on from what had been seen of it before
pub record WasFoundSo (config : Config) (range : Range) (history : List RangeEntry) (before after : Knowledge)
    : Type 0 where
  pub more : List LengthNote
  pub notes : after.purse.notes ≡ before.purse.notes ++ more
      ++ length_note (length (leaves_in config.topology) + range.0) (length history) ∷ []
  pub from : BeginsWith history (range_history before.seen range)
  pub to : BeginsWith (range_history after.seen range) history

-- ---- what a turn adds: a row that is written, or a bound

-- an entry of a history, where that one is asked for
abbrev pub only_in : History → BookEntry → History → List BookEntry
only_in own e whose = if same_history own whose then e ∷ [] else []

-- the entry of a replica, on its leaf
abbrev pub turn_in : ℕ → Range → Turn → History → SlotLeaf → List BookEntry
turn_in pass range turn whose replica =
    only_in (of.Leaf replica.leaf) (one.Leaf (turn_entry pass range replica.slot turn)) whose

-- one of each replica that took the turn, and the one acknowledgement, in the range's history
abbrev pub turned : ℕ → Range → Turn → Ack → List SlotLeaf → History → List BookEntry
turned pass range turn ack took whose =
    flat_map (turn_in pass range turn whose) took
    ++ only_in (of.Range range) (one.Range (turn_ack pass turn ack)) whose

-- the put to a replica
abbrev pub put_in : ℕ → Range → Row → History → SlotLeaf → List BookEntry
put_in pass range row = turn_in pass range (Adds row)

-- of a row
abbrev pub written : ℕ → Range → Row → Ack → List SlotLeaf → History → List BookEntry
written pass range row = turned pass range (Adds row)

-- what a caller appended under its number
abbrev pub own_entries : Option Kept → History → List BookEntry
own_entries None history = []
own_entries (Some kept) history = entries kept.own history

-- what it has seen under its number that it had not seen before
abbrev pub new_entries : Knowledge → Knowledge → History → List BookEntry
new_entries before after history =
    filter (is_under (pass_of before)) (drop (length (entries before.seen history)) (entries after.seen history))

-- The number and what was met, handed out and lost are as before, and all that had been seen is seen
pub record IsStill (before after : Knowledge) : Type 0 where
  pub fronts : AreFronts before.seen after.seen
  pub number : (hand_of after.purse).own ≡ (hand_of before.purse).own
  pub met : after.purse.met ≡ before.purse.met
  pub stock : after.purse.stock ≡ before.purse.stock
  pub lost : after.purse.lost ≡ before.purse.lost
  pub handed : after.handed ≡ before.handed

-- ---- how it ends

-- Nothing was written: the caller's own entries are as before, and no history has a new one under its number
pub record IsUnwritten (before after : Knowledge) : Type 0 where
  pub still : IsStill before after
  pub own : after.purse.own ≡ before.purse.own
  pub none : (history : History) → new_entries before after history ≡ []

module _ (config : Config) (row : Row) (before after : Knowledge) where
  -- The row was written: by the range's history it is neither old nor one too many; each replica that serves by it took
  -- the row or missed it, and some took it; these puts and the acknowledgement are all that was added, behind all that
  -- had been seen; and each leaf that missed the row was found down
  pub record IsWritten (ack : Ack) : Type 0 where
    pub range : Range
    pub in_range : range_of_key config row.key ≡ Some range
    pub history : List RangeEntry
    pub found : WasFoundSo config range history before after
    pub free : refusal config.range_points history row ≡ None
    pub named : IsAckOf range (serving history) ack
    pub took : List SlotLeaf
    pub took_are : map (λ (replica : SlotLeaf). replica.slot) took ≡ ack.took
    pub served : (replica : SlotLeaf) → Contains took replica → Contains (serving history) replica
    pub acknowledged : range_history after.seen range
        ≡ history ++ range_entry.Acked (pass_of before) row ack ∷ []
    pub own : (whose : History) → own_entries after.purse.own whose
        ≡ own_entries before.purse.own whose ++ written (pass_of before) range row ack took whose
    pub new : (whose : History) → new_entries before after whose ≡ written (pass_of before) range row ack took whose
    pub missed : (miss : Miss) → Contains ack.missed miss → WasFoundDown before after miss.leaf miss.cut
    pub still : IsStill before after

  -- By its range's history, this is said of the row
  pub record IsRefusedAs (why : List RangeEntry → Type 0) : Type 0 where
    pub range : Range
    pub in_range : range_of_key config row.key ≡ Some range
    pub history : List RangeEntry
    pub found : WasFoundSo config range history before after
    pub cause : why history

  -- Each replica that serves is on a leaf that was found down
  pub record AreAllDown (range : Range) (founds : List FoundDown) (history : List RangeEntry) : Type 0 where
    pub in_range : range_of_key config row.key ≡ Some range
    pub free : refusal config.range_points history row ≡ None
    pub leaves : map (λ (found : FoundDown). found.leaf) founds
        ≡ map (λ (replica : SlotLeaf). replica.leaf) (serving history)
    pub down : (found : FoundDown) → Contains founds found → WasFoundDown before after found.leaf found.cut

  -- why the row was refused
  abbrev pub IsRefused : WriteFault → Type 0
  IsRefused fault.NoZone = range_of_key config row.key ≡ None
  IsRefused (fault.OldPoint last) =
      IsRefusedAs (λ history. refusal config.range_points history row ≡ Some (refused.OldPoint last))
  IsRefused (fault.RangeFull count) =
      IsRefusedAs (λ history. refusal config.range_points history row ≡ Some (refused.RangeFull count))
  IsRefused (fault.Unavailable range founds) = IsRefusedAs (AreAllDown range founds)
  IsRefused fault.OutOfMemory = Unit {0}
