-- What an actor tells of itself: its next event, and whether it has ended.
use Rattle.std.specs.Prelude.{Bool, true, false, Option, Some, None}
use Rattle.query_core.specs.Program as query
use Rattle.weave_core.specs.AskedEvents.{event_of_copy, event_of_query, event_of_write}
use Rattle.weave_core.specs.declared.actors.Task.{Task}
use Rattle.weave_core.specs.declared.actors.Task.TheVariants as task
use Rattle.schedule_lines.specs.declared.events.Event.{Event}
use Rattle.schedule_lines.specs.declared.events.Event.TheVariants as event
use Rattle.write_core.specs.CopyPhases.{copy_ask_of}
use Rattle.write_core.specs.Program as write

abbrev pub event_of : Task → Option Event
event_of (task.Refused text) = None
event_of (task.Switches switching) = Some event.Switch
event_of (task.Retires retiring) = Some event.Retire
event_of (task.Recovers recovering) = event_of_copy (copy_ask_of recovering.machine)
event_of (task.Writes writing) = event_of_write (write.ask_of writing.machine.stage)
event_of (task.Queries querying) = event_of_query (query.ask_of querying.machine.setting querying.machine.stage)
event_of task.Ended = None

abbrev pub is_over : Task → Bool
is_over (task.Refused text) = false
is_over (task.Switches switching) = false
is_over (task.Retires retiring) = false
is_over (task.Recovers recovering) = false
is_over (task.Writes writing) = false
is_over (task.Queries querying) = false
is_over task.Ended = true
