-- Leaves that a query found down, and ranges of which it found no replica.
use Rattle.std.specs.Prelude.{ℕ, List, filter, length, take, ◌≡◌, true, slice_get, Some}
use Rattle.std.specs.List.{AllByRecursion}
use Rattle.mon_value.specs.Histories.{leaf_history, range_history, zone_numbered}
use Rattle.mon_value.specs.LeafHistories.{IsDownAt}
use Rattle.mon_value.specs.declared.histories.Histories.{Histories}
use Rattle.mon_value.specs.declared.positions.FoundDown.{FoundDown}
use Rattle.mon_value.specs.declared.positions.Leaf.{Leaf}
use Rattle.mon_value.specs.declared.positions.Range.{Range}
use Rattle.mon_topo.specs.RangeHistories.{serving, is_avoided}
use Rattle.mon_topo.specs.Zones.{range_zones}
use Rattle.mon_topo.specs.declared.zones.ZoneSpec.{ZoneSpec}
use Rattle.query_traces.specs.Rounds.{has_leaf, area_of}
use Rattle.query_traces.specs.Traces.{IsBetween, Lengths, found_leaves, lengths_of}
use Rattle.query_traces.specs.declared.areas.Area.{Area}

abbrev pub found_down : Leaf → ℕ → FoundDown
found_down leaf cut = record { leaf = leaf; cut = cut }

-- the leaves of a zone that were found down, in the order in which they were found
abbrev pub founds_of_zone : List FoundDown → Area → List FoundDown
founds_of_zone founds area = filter (λ (found : FoundDown). has_leaf area found.leaf) founds

-- a leaf was found down between two moments, at a length of its history that it had between them
pub record IsFoundBetween (from to : Lengths) (seen : Histories) (found : FoundDown) : Type 0 where
  pub between : IsBetween (from.leaves found.leaf) (to.leaves found.leaf) found.cut
  pub down : IsDownAt (leaf_history seen found.leaf) found.cut

-- so between entry and exit
abbrev pub IsFoundThen : Histories → Histories → FoundDown → Type 0
IsFoundThen at_entry at_exit = IsFoundBetween (lengths_of at_entry) (lengths_of at_exit) at_exit

abbrev pub AreFoundThen : Histories → Histories → List FoundDown → Type 0
AreFoundThen at_entry at_exit = AllByRecursion (IsFoundThen at_entry at_exit)

-- at a length of a range's history that was found between two moments, each replica that serves is on a leaf that is
-- named: those of the range's zone are, of all leaves that were found down between them
pub record HasNoReplica (zones : List ZoneSpec) (at_entry at_exit : Histories) (range : Range) (named : List FoundDown)
    : Type 0 where
  pub zone : ℕ
  pub zoned : slice_get (range_zones zones) range.0 ≡ Some (zone_numbered zone)
  pub founds : List FoundDown
  pub were_found : AreFoundThen at_entry at_exit founds
  pub named_are : named ≡ founds_of_zone founds (area_of zones zone)
  pub found : ℕ
  pub between : IsBetween (length (range_history at_entry range)) (length (range_history at_exit range)) found
  pub all_down : AllByRecursion (λ replica. is_avoided (found_leaves named) replica ≡ true)
      (serving (take found (range_history at_exit range)))
