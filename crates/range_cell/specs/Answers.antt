-- Whether a row goes in, by what its write is told at the range's lock.
use Rattle.std.specs.Prelude.{Bool, true, false, Result, Ok, Err}
use Rattle.write_core.specs.declared.asks.WriteTold.{WriteTold}
use Rattle.write_core.specs.declared.asks.WriteTold.TheVariants as told

abbrev pub takes_so : WriteTold → Bool
takes_so (told.Slots replicas) = true
takes_so (told.OldPoint last) = false
takes_so (told.RangeFull count) = false
takes_so (told.Up buckets) = false
takes_so (told.Down cut) = false
takes_so told.Done = false

-- (a row whose write was refused memory doesn't)
abbrev pub takes : {E : Type 0} → Result WriteTold E → Bool
takes (Ok told) = takes_so told
takes (Err fault) = false
