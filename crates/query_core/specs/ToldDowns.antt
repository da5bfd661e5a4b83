-- The leaves that a query is told are down, one after another, and those that its end names.
use Rattle.std.specs.Prelude.{◌≡◌, ℕ, ℤ, List, [], ◌∷◌, ◌++◌, Result, Ok, Err, Some, slice_get}
use Rattle.std.specs.List.{AllByRecursion}
use Rattle.mon_topo.specs.Settings.{Setting}
use Rattle.mon_topo.specs.Zones.{range_zones}
use Rattle.mon_topo.specs.declared.zones.ZoneSpec.{ZoneSpec}
use Rattle.mon_value.specs.Histories.{zone_numbered}
use Rattle.mon_value.specs.declared.positions.FoundDown.{FoundDown}
use Rattle.mon_value.specs.declared.positions.Range.{Range}
use Rattle.query_traces.specs.Founds.{found_down, founds_of_zone}
use Rattle.query_core.specs.Machine.{Query}
use Rattle.query_core.specs.Sessions.{Event, told_then}
use Rattle.query_traces.specs.Rounds.{area_of, QuerySetting}
use Rattle.query_traces.specs.declared.answers.Answer.{Answer}
use Rattle.query_traces.specs.declared.answers.RoundFault.{RoundFault}
use Rattle.query_traces.specs.declared.answers.RoundFault.TheVariants as fault
use Rattle.query_traces.specs.declared.asks.Told.{Told}
use Rattle.query_traces.specs.declared.asks.Told.TheVariants as told
use Rattle.query_core.specs.declared.stages.Stage.{Stage}
use Rattle.query_core.specs.declared.stages.Stage.TheVariants as at

-- the leaf that a query visited, with its cut, if it was told that it is down
abbrev pub down_told : Stage → Told → List FoundDown
down_told (at.Visiting course round visits leaf) (told.Down cut) = found_down leaf cut ∷ []
down_told stage answer = []

module _ (store : Setting) (setting : QuerySetting) (moment : ℤ) where
  -- all of a session, in the order in which they were told
  abbrev pub downs_told : Query → List (Event store setting moment) → List FoundDown
  downs_told query [] = []
  downs_told query (event ∷ events) =
      down_told query.stage event.answer ++ downs_told (told_then store setting moment query event) events

-- this is so of each leaf that an end names as down
abbrev pub EndNames : (FoundDown → Type 0) → Result Answer RoundFault → Type 0
EndNames Is (Ok answer) = AllByRecursion Is answer.trace.down
EndNames Is (Err (fault.NoReplica range named)) = AllByRecursion Is named
EndNames Is (Err (fault.StepLimit limit trace)) = AllByRecursion Is trace.down

-- of the leaves that were found down those of a range's zone are named, in the order in which they were found
pub record AreOfItsZone (zones : List ZoneSpec) (range : Range) (founds named : List FoundDown) : Type 0 where
  pub zone : ℕ
  pub zoned : slice_get (range_zones zones) range.0 ≡ Some (zone_numbered zone)
  pub named_are : named ≡ founds_of_zone founds (area_of zones zone)

-- an end names each leaf that was found down, or, of a range's zone, each that was
abbrev pub NamesAll : List ZoneSpec → List FoundDown → Result Answer RoundFault → Type 0
NamesAll zones founds (Ok answer) = answer.trace.down ≡ founds
NamesAll zones founds (Err (fault.NoReplica range named)) = AreOfItsZone zones range founds named
NamesAll zones founds (Err (fault.StepLimit limit trace)) = trace.down ≡ founds
