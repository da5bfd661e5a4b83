-- What a query looked at, against the histories of leaves and ranges that were seen.
use Rattle.std.specs.Prelude.{◌≡◌, ◌≤◌, ◌<◌, ℕ, ℤ, Bool, true, false, List, [], ◌++◌, length, map, take, get_or}
use Rattle.std.specs.Prelude.{Some, if◌then◌else◌}
use Rattle.std.specs.List.{AllByRecursion, flat_map, list_any, range_with_len}
use Rattle.mon_hints.specs.Hints.{history_buckets}
use Rattle.mon_value.specs.Histories.{leaf_history, range_history, range_numbered, same_range}
use Rattle.mon_value.specs.declared.histories.Histories.{Histories}
use Rattle.mon_topo.specs.RangeHistories.{acknowledged_rows, first_serving, range_turns}
use Rattle.mon_topo.specs.HeldHistories.{AreWithin}
use Rattle.mon_value.specs.LeafHistories.{IsDownAt, is_down, is_opened, kept_rows, replica_turns}
use Rattle.mon_value.specs.Turns.{StandsOrIsHidden, Turn}
use Rattle.mon_value.specs.declared.histories.Entry.{Entry}
use Rattle.mon_value.specs.declared.positions.FoundDown.{FoundDown}
use Rattle.mon_value.specs.declared.positions.Leaf.{Leaf}
use Rattle.mon_value.specs.declared.positions.Range.{Range}
use Rattle.mon_value.specs.declared.positions.SlotLeaf.{SlotLeaf}
use Rattle.mon_value.specs.declared.rows.Row.{Row}
use Rattle.mon_value.specs.declared.rows.SeriesKey.{SeriesKey}
use Rattle.typed_trees.specs.Meaning.{meets}
use Rattle.typed_trees.specs.Nodes.{TypedTree}
use Rattle.typed_trees.specs.Levels.{sent_amount}
use Rattle.typed_trees.specs.Plans.{fetches}
use Rattle.typed_trees.specs.declared.plans.Plan.{Plan}
use Rattle.mon_meaning.specs.ReadableSlots.{slot_rows}
use Rattle.query_traces.specs.declared.answers.Resolved.{Resolved}
use Rattle.query_traces.specs.declared.answers.Trace.{Trace}
use Rattle.plan_split.specs.Meeting.{is_plan_met}
use Rattle.query_traces.specs.Rounds.{slots_on}

-- ---- slots

abbrev pub replica_of : Resolved → SlotLeaf
replica_of one = record { slot = one.slot; leaf = one.leaf }

-- a length of a history that was seen between two moments
pub record IsBetween (before after length : ℕ) : Type 0 where
  pub from : before ≤ length
  pub to : length ≤ after

-- how long the histories of leaves and ranges were at a moment
pub record Lengths : Type 0 where
  pub leaves : Leaf → ℕ
  pub ranges : Range → ℕ

-- of all that was seen then
abbrev pub lengths_of : Histories → Lengths
lengths_of seen = record {
  leaves = λ leaf. length (leaf_history seen leaf);
  ranges = λ range. length (range_history seen range);
}

-- a moment was no later than another
pub record IsSoonerThan (sooner than : Lengths) : Type 0 where
  pub leaves : (leaf : Leaf) → sooner.leaves leaf ≤ than.leaves leaf
  pub ranges : (range : Range) → sooner.ranges range ≤ than.ranges range

-- all that there was at a moment was seen
abbrev pub WasSeen : Lengths → Histories → Type 0
WasSeen moment seen = IsSoonerThan moment (lengths_of seen)

-- two moments lie within two others, and histories have grown since they were seen
pub record AreWider (from to first last : Lengths) (seen more : Histories) : Type 0 where
  pub sooner : IsSoonerThan first from
  pub later : IsSoonerThan to last
  pub begun : WasSeen from seen
  pub within : WasSeen to seen
  pub grown : AreWithin seen more
  pub leaves : length more.leaves ≡ length seen.leaves
  pub ranges : length more.ranges ≡ length seen.ranges

-- at a length of the range's history that it had between two moments, the slot was the first that serves and is not on
-- one of these leaves
pub record IsFirstServingBetween (from to : Lengths) (seen : Histories) (avoided : List Leaf) (one : Resolved)
    : Type 0 where
  pub found : ℕ
  pub between : IsBetween (from.ranges one.range) (to.ranges one.range) found
  pub first : first_serving avoided (take found (range_history seen one.range)) ≡ Some (replica_of one)

-- so between entry and exit
abbrev pub IsFirstServing : Histories → Histories → List Leaf → Resolved → Type 0
IsFirstServing at_entry at_exit = IsFirstServingBetween (lengths_of at_entry) (lengths_of at_exit) at_exit

-- ---- what a trace stands for

abbrev pub cut_of : Trace → Leaf → ℕ
cut_of trace leaf = get_or trace.cuts leaf.0 0

abbrev pub was_read : Trace → Leaf → Bool
was_read trace leaf = get_or trace.read leaf.0 false

abbrev pub sent_by : Trace → Leaf → ℕ
sent_by trace leaf = get_or trace.sent leaf.0 0

-- a leaf's history up to its cut
abbrev pub looked_at : Histories → Trace → Leaf → List Entry
looked_at seen trace leaf = take (cut_of trace leaf) (leaf_history seen leaf)

-- the rows of a range: those that the slot that it resolved to kept, in its leaf's history at the leaf's cut
abbrev pub resolved_rows : Histories → Trace → Resolved → List Row
resolved_rows seen trace one = kept_rows one.range one.slot (looked_at seen trace one.leaf)

-- the turns of that slot up to the cut
abbrev pub resolved_turns : Histories → Trace → Resolved → List Turn
resolved_turns seen trace one = replica_turns one.range one.slot (looked_at seen trace one.leaf)

-- all rows that the query stands on
abbrev pub source_of : Histories → Trace → List Row
source_of seen trace = flat_map (resolved_rows seen trace) trace.resolved

-- the rows of the slots that resolved to a leaf
abbrev pub rows_on : Histories → Trace → Leaf → List Row
rows_on seen trace leaf = slot_rows (looked_at seen trace leaf) (slots_on leaf trace.resolved)

abbrev pub found_leaves : List FoundDown → List Leaf
found_leaves founds = map (λ (found : FoundDown). found.leaf) founds

-- ---- a trace of histories

-- how much a leaf sent, where it was read
abbrev pub sent_if : Bool → ℕ → ℕ
sent_if read most = if read then most else 0

-- each of so many ranges is resolved once, in order
abbrev pub IsOfRanges : Trace → ℕ → Type 0
IsOfRanges trace count =
    map (λ (one : Resolved). one.range) trace.resolved ≡ map range_numbered (range_with_len 0 count)

-- a trace is of the histories between two moments
pub record IsTraceBetween (typed : TypedTree) (moment : ℤ) (from to : Lengths) (seen : Histories) (trace : Trace)
    : Type 0 where
  pub ranges : IsOfRanges trace (length seen.ranges)
  pub cuts : length trace.cuts ≡ length seen.leaves
  pub flags : length trace.read ≡ length seen.leaves
  pub counts : length trace.sent ≡ length seen.leaves
  pub resolved : AllByRecursion (IsFirstServingBetween from to seen (found_leaves trace.down)) trace.resolved
  pub within : (leaf : Leaf) → leaf.0 < length seen.leaves → cut_of trace leaf ≤ to.leaves leaf
  pub opened : AllByRecursion
      (λ (one : Resolved). is_opened one.range one.slot (looked_at seen trace one.leaf) ≡ true) trace.resolved
  pub down : AllByRecursion (λ (found : FoundDown). IsDownAt (leaf_history seen found.leaf) found.cut) trace.down
  pub sends : (leaf : Leaf) → leaf.0 < length seen.leaves
      → sent_by trace leaf ≡ sent_if (was_read trace leaf) (sent_amount typed (rows_on seen trace leaf) moment)

-- of those that were seen from entry to exit
abbrev pub IsTraceOf : TypedTree → ℤ → Histories → Histories → Trace → Type 0
IsTraceOf typed moment at_entry at_exit =
    IsTraceBetween typed moment (lengths_of at_entry) (lengths_of at_exit) at_exit

-- what may have hidden rows of a range: the turns of the slot that it resolved to, up to its leaf's cut, and those of the
-- range's own history up to a length
abbrev pub turns_over : Histories → ℕ → Trace → Range → List Turn
turns_over seen upto trace range =
    flat_map (λ one. if same_range one.range range then resolved_turns seen trace one else []) trace.resolved
    ++ range_turns (take upto (range_history seen range))

-- no leaf is looked at before a moment, and each row that had been acknowledged by then is among those that the query
-- stands on, or hidden: by a bound in the history of the slot's leaf at its cut, or in the range's at a later moment
pub record IsFreshBetween (from to : Lengths) (seen : Histories) (trace : Trace) : Type 0 where
  pub cuts : (leaf : Leaf) → leaf.0 < length seen.leaves → from.leaves leaf ≤ cut_of trace leaf
  pub rows : (range : Range) → range.0 < length seen.ranges
      → AllByRecursion (StandsOrIsHidden (source_of seen trace) (turns_over seen (to.ranges range) trace range))
      (acknowledged_rows (take (from.ranges range) (range_history seen range)))

-- so between entry and exit
abbrev pub IsFresh : Histories → Histories → Trace → Type 0
IsFresh at_entry at_exit = IsFreshBetween (lengths_of at_entry) (lengths_of at_exit) at_exit

-- whether a row's series meets a fetch of a query
abbrev pub is_wanted : TypedTree → Row → Bool
is_wanted typed row = list_any (λ fetch. meets fetch row.key) (fetches typed.tree)

-- a leaf that was not read has no series there that meets a fetch; one that was read was up there, and has a formula
-- that holds
pub record IsReadRightly (typed : TypedTree) (plan : Plan) (buckets_of : SeriesKey → List ℕ) (at_exit : Histories)
    (trace : Trace) (leaf : Leaf) : Type 0 where
  pub unread : was_read trace leaf ≡ false
      → AllByRecursion (λ row. is_wanted typed row ≡ false) (rows_on at_exit trace leaf)
  pub read : was_read trace leaf ≡ true
      → is_plan_met plan (history_buckets buckets_of (looked_at at_exit trace leaf)) ≡ true
  pub up : was_read trace leaf ≡ true → is_down (looked_at at_exit trace leaf) ≡ false
