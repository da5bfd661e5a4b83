-- What writes and recoveries do next, whether they have begun, and who holds what they need.
use Rattle.std.specs.Prelude.{ℕ, Bool, true, false, Option, None}
use Rattle.write_core.specs.CopyPhases.{copy_ask_of}
use Rattle.write_core.specs.Program.{Acking, Ended, Entering, Inside, Locking, Reserving, Stage}
use Rattle.write_core.specs.Program as write
use Rattle.write_core.specs.Recovering.{Beginning, Carrying, CopyStage, Copying, Nearing, Over, Telling, Within}
use Rattle.write_core.specs.World.{Actor, Recovers, Recovery, Stands, World, Writer, Writes}
use Rattle.write_core.specs.declared.asks.WriteAsk.{WriteAsk}
use Rattle.write_core.specs.declared.asks.WriteAsk.TheVariants as write_ask
use Rattle.write_core.specs.declared.copies.CopyAsk.{CopyAsk}
use Rattle.write_core.specs.declared.copies.CopyAsk.TheVariants as copy_ask

-- what a write does next; who does not write has nothing left to do
abbrev pub write_asks : Actor → WriteAsk
write_asks (Writes writer) = write.ask_of writer.stage
write_asks (Recovers recovery) = write_ask.Finished
write_asks (Stands stander) = write_ask.Finished

-- what a recovery does next
abbrev pub copy_asks : Actor → CopyAsk
copy_asks (Writes writer) = copy_ask.Finished
copy_asks (Recovers recovery) = copy_ask_of recovery.stage
copy_asks (Stands stander) = copy_ask.Finished

-- a recovery that has taken its range's lock
abbrev pub is_copy_past_lock : CopyStage → Bool
is_copy_past_lock Beginning = false
is_copy_past_lock (Copying founds sources) = true
is_copy_past_lock (Carrying rows) = true
is_copy_past_lock (Nearing rows) = true
is_copy_past_lock (Within rows at_root in_zone) = true
is_copy_past_lock (Telling outcome) = true
is_copy_past_lock (Over outcome) = true

abbrev pub recovers_begun : Actor → Bool
recovers_begun (Writes writer) = false
recovers_begun (Recovers recovery) = is_copy_past_lock recovery.stage
recovers_begun (Stands stander) = false

-- a write that has taken its range's lock
abbrev pub is_past_lock : Stage → Bool
is_past_lock Locking = false
is_past_lock (Reserving round) = true
is_past_lock (Entering round) = true
is_past_lock (Inside round at_root in_zone) = true
is_past_lock (Acking verdict) = true
is_past_lock (Ended verdict) = true

abbrev pub writes_begun : Actor → Bool
writes_begun (Writes writer) = is_past_lock writer.stage
writes_begun (Recovers recovery) = false
writes_begun (Stands stander) = false

-- who holds what an event of a write needs
abbrev pub holder_for_write : World → Writer → WriteAsk → Option ℕ
holder_for_write world writer write_ask.Lock = world.range_holder writer.range.0
holder_for_write world writer (write_ask.Reserve slot leaf) = world.leaf_holder leaf.0
holder_for_write world writer (write_ask.Enter slot leaf) = world.leaf_holder leaf.0
holder_for_write world writer (write_ask.RaiseRoot bucket) = None
holder_for_write world writer (write_ask.RaiseZone bucket) = None
holder_for_write world writer (write_ask.Put slot leaf) = None
holder_for_write world writer write_ask.Ack = None
holder_for_write world writer write_ask.Finished = None

-- and what an event of a recovery needs
abbrev pub holder_for_copy : World → Recovery → CopyAsk → Option ℕ
holder_for_copy world recovery copy_ask.Lock = world.range_holder recovery.range.0
holder_for_copy world recovery (copy_ask.Copy slot leaf) = world.leaf_holder leaf.0
holder_for_copy world recovery copy_ask.Reserve = world.leaf_holder recovery.leaf.0
holder_for_copy world recovery copy_ask.Enter = world.leaf_holder recovery.leaf.0
holder_for_copy world recovery (copy_ask.RaiseRoot bucket) = None
holder_for_copy world recovery (copy_ask.RaiseZone bucket) = None
holder_for_copy world recovery copy_ask.Put = None
holder_for_copy world recovery copy_ask.Ack = None
holder_for_copy world recovery copy_ask.Finished = None

abbrev pub holder_for_actor : World → Actor → Option ℕ
holder_for_actor world (Writes writer) = holder_for_write world writer (write.ask_of writer.stage)
holder_for_actor world (Recovers recovery) = holder_for_copy world recovery (copy_ask_of recovery.stage)
holder_for_actor world (Stands stander) = None
