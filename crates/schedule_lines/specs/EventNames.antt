-- The events of actors, by their names.
use Rattle.std.specs.Prelude.{ℕ, List, codes, Option, Some, None, if◌then◌else◌}
use Rattle.mon_value.specs.Same.{same_text}
use Rattle.schedule_lines.specs.declared.events.Event.{Event}
use Rattle.schedule_lines.specs.declared.events.Event.TheVariants as event

-- the event of a query, of a switch, or of a retirement, of a name
abbrev pub other_event_named : List ℕ → Option Event
other_event_named name =
    if same_text name (codes "load_root") then Some event.LoadRoot
    else if same_text name (codes "load_zone") then Some event.LoadZone
    else if same_text name (codes "resolve") then Some event.Resolve
    else if same_text name (codes "visit") then Some event.Visit
    else if same_text name (codes "switch") then Some event.Switch
    else if same_text name (codes "retire") then Some event.Retire
    else None

-- the event of a name
abbrev pub event_named : List ℕ → Option Event
event_named name =
    if same_text name (codes "lock") then Some event.Lock
    else if same_text name (codes "reserve") then Some event.Reserve
    else if same_text name (codes "enter") then Some event.Enter
    else if same_text name (codes "raise_root") then Some event.RaiseRoot
    else if same_text name (codes "raise_zone") then Some event.RaiseZone
    else if same_text name (codes "put") then Some event.Put
    else if same_text name (codes "ack") then Some event.Ack
    else other_event_named name
