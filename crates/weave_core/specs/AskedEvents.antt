-- The events that actors ask for.
use Rattle.std.specs.Prelude.{Option, Some, None}
use Rattle.query_traces.specs.declared.asks.Ask.{Ask}
use Rattle.query_traces.specs.declared.asks.Ask.TheVariants as ask
use Rattle.schedule_lines.specs.declared.events.Event.{Event}
use Rattle.schedule_lines.specs.declared.events.Event.TheVariants as event
use Rattle.write_core.specs.declared.asks.WriteAsk.{WriteAsk}
use Rattle.write_core.specs.declared.asks.WriteAsk.TheVariants as write
use Rattle.write_core.specs.declared.copies.CopyAsk.{CopyAsk}
use Rattle.write_core.specs.declared.copies.CopyAsk.TheVariants as copy

-- the event that a write asks for; there is none once it has ended
abbrev pub event_of_write : WriteAsk → Option Event
event_of_write write.Lock = Some event.Lock
event_of_write (write.Reserve slot leaf) = Some event.Reserve
event_of_write (write.Enter slot leaf) = Some event.Enter
event_of_write (write.RaiseRoot bucket) = Some event.RaiseRoot
event_of_write (write.RaiseZone bucket) = Some event.RaiseZone
event_of_write (write.Put slot leaf) = Some event.Put
event_of_write write.Ack = Some event.Ack
event_of_write write.Finished = None

-- that a recovery asks for
abbrev pub event_of_copy : CopyAsk → Option Event
event_of_copy copy.Lock = Some event.Lock
event_of_copy (copy.Copy slot leaf) = Some event.Reserve
event_of_copy copy.Reserve = Some event.Reserve
event_of_copy copy.Enter = Some event.Enter
event_of_copy (copy.RaiseRoot bucket) = Some event.RaiseRoot
event_of_copy (copy.RaiseZone bucket) = Some event.RaiseZone
event_of_copy copy.Put = Some event.Put
event_of_copy copy.Ack = Some event.Ack
event_of_copy copy.Finished = None

-- and that a query asks for
abbrev pub event_of_query : Ask → Option Event
event_of_query (ask.LoadRoot bucket) = Some event.LoadRoot
event_of_query (ask.LoadZone zone bucket) = Some event.LoadZone
event_of_query (ask.Resolve range) = Some event.Resolve
event_of_query (ask.Visit leaf) = Some event.Visit
event_of_query ask.Finished = None
