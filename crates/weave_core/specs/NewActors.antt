-- Actors that have not begun: one that was declared, and one that hears what another one has seen.
use Rattle.std.specs.Prelude.{ℕ, ℤ, ◌≡◌, ◌<◌, Bool, true, false, length, Some, None}
use Rattle.mon_config.specs.declared.config.Config.{Config}
use Rattle.mon_config.specs.Configs.{range_of_key}
use Rattle.mon_topo.specs.Zones.{ranges_in}
use Rattle.mon_value.specs.declared.positions.Leaf.{Leaf}
use Rattle.mon_value.specs.declared.positions.Range.{Range}
use Rattle.mon_value.specs.declared.rows.Row.{Row}
use Rattle.weave_core.specs.EndTexts.{no_zone_line}
use Rattle.weave_core.specs.QueryPlans.{IsQueryTask}
use Rattle.mon_topo.specs.Sights.{joined_sight}
use Rattle.weave_core.specs.declared.actors.Actor.{Actor}
use Rattle.weave_core.specs.declared.actors.Task.{Task}
use Rattle.weave_core.specs.declared.actors.Task.TheVariants as task
use Rattle.schedule_lines.specs.declared.calls.Call.{Call}
use Rattle.schedule_lines.specs.declared.calls.Call.TheVariants as call
use Rattle.mon_topo.specs.declared.sights.Sight.{Sight}
use Rattle.core_store.specs.declared.writes.Change.TheVariants as change
use Rattle.core_store.specs.declared.writes.Writing.{Writing}
use Rattle.write_core.specs.Program.{new_write}
use Rattle.write_core.specs.Recovering.{Beginning}

-- a write of a row that has not begun
pub record BeginsToWrite (config : Config) (i : ℕ) (row : Row) (writing : Writing) : Type 0 where
  pub number : writing.number ≡ i
  pub change_is : writing.change ≡ change.Adds row row.key
  pub range_is : range_of_key config row.key ≡ Some writing.range
  pub there : writing.range.0 < length (ranges_in config.topology)
  pub machine : writing.machine ≡ new_write writing.range
  pub inside : writing.inside ≡ None

-- a row's write begins, or no zone lists its location
abbrev pub IsWriteTask : Config → ℕ → Row → Task → Type 0
IsWriteTask config i row (task.Writes writing) = BeginsToWrite config i row writing
IsWriteTask config i row (task.Refused line) =
    (range_of_key config row.key ≡ None) × (line ≡ no_zone_line)
IsWriteTask config i row (task.Switches switching) = ⊥
IsWriteTask config i row (task.Retires retiring) = ⊥
IsWriteTask config i row (task.Recovers recovering) = ⊥
IsWriteTask config i row (task.Queries querying) = ⊥
IsWriteTask config i row task.Ended = ⊥

-- a leaf is to be down, or up
abbrev pub IsSwitchTask : ℕ → Leaf → Bool → Task → Type 0
IsSwitchTask i leaf down one = one ≡ task.Switches (record { number = i; leaf = leaf; down = down })

-- a range is to be recovered onto a leaf
abbrev pub IsRecoverTask : ℕ → Range → Leaf → Task → Type 0
IsRecoverTask i range leaf one =
    one ≡ task.Recovers (record { number = i; range = range; leaf = leaf; machine = Beginning })

-- a trim of a range below a moment, which is a write of a bound
abbrev pub new_trim : ℕ → Range → ℤ → Writing
new_trim i range before = record {
  number = i;
  change = change.Hides before;
  range = range;
  machine = new_write range;
  inside = None;
}

abbrev pub IsTrimTask : ℕ → Range → ℤ → Task → Type 0
IsTrimTask i range before one = one ≡ task.Writes (new_trim i range before)

-- a range's replica on a leaf is to be retired
abbrev pub IsRetireTask : ℕ → Range → Leaf → Task → Type 0
IsRetireTask i range leaf one = one ≡ task.Retires (record { number = i; range = range; leaf = leaf })

abbrev pub IsTaskOf : Config → ℕ → Call → Task → Type 0
IsTaskOf config i (call.Write row) one = IsWriteTask config i row one
IsTaskOf config i (call.Query moment text) one = IsQueryTask config moment text one
IsTaskOf config i (call.Down leaf) one = IsSwitchTask i leaf true one
IsTaskOf config i (call.Up leaf) one = IsSwitchTask i leaf false one
IsTaskOf config i (call.Recover range leaf) one = IsRecoverTask i range leaf one
IsTaskOf config i (call.Trim range before) one = IsTrimTask i range before one
IsTaskOf config i (call.Retire range leaf) one = IsRetireTask i range leaf one

-- an actor is to do what it was called for, and has seen so much
pub record IsDeclaredActor (config : Config) (i : ℕ) (what : Call) (first : Sight) (own : Actor) : Type 0 where
  pub task_is : IsTaskOf config i what own.task
  pub seen : own.sight ≡ first
  pub begun_is : own.begun ≡ false

-- an actor that has seen what someone has, too
abbrev pub hearing_of : Sight → Actor → Actor
hearing_of seen own = record { task = own.task; sight = joined_sight own.sight seen; begun = own.begun }
