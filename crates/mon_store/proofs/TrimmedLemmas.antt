-- That a bound which came to a range at its cell trimmed it.
use Rattle.std.proofs.Common.{◌≡◌, ℕ, ℤ, ◌<◌, List, length}
use Rattle.history_book.specs.Seats.{IsPurseBorneOut}
use Rattle.know.specs.Knowledge.{Knowledge}
use Rattle.know.specs.Sound.{IsSound}
use Rattle.mon_config.specs.declared.config.Config.{Config}
use Rattle.mon_store.proofs.AddedLemmas.{took_of}
use Rattle.mon_store.proofs.WrittenLemmas.{has_come}
use Rattle.mon_store.specs.Passes.{IsPass}
use Rattle.mon_store.specs.Trims.{IsTrimmed}
use Rattle.mon_topo.specs.Settings.{Setting}
use Rattle.mon_topo.specs.Zones.{leaves_in, ranges_in}
use Rattle.mon_value.specs.Turns.{Hides}
use Rattle.mon_value.specs.declared.histories.Ack.{Ack}
use Rattle.mon_value.specs.declared.histories.RangeEntry.{RangeEntry}
use Rattle.mon_value.specs.declared.positions.Range.{Range}
use Rattle.owners.specs.Puts.{pass_of}
use Rattle.range_cell.specs.Calls.{HasBegun}
use Rattle.range_cell.specs.Writes.{HasAcknowledged}

module _ (setting : Setting) (config : Config) (leaves : ℕ) (range : Range) (bound : ℤ) (before after : Knowledge)
    (is : IsPass setting before) (borne : IsPurseBorneOut after.seen after.purse)
    (sound : IsSound setting after.hints after.seen) (counted : leaves ≡ length (leaves_in config.topology))
    (here : range.0 < length (ranges_in setting.zones)) (history : List RangeEntry) (begun : Knowledge)
    (begins : HasBegun leaves range history before begun) (ack : Ack)
    (acked : HasAcknowledged leaves range (Hides bound) history (pass_of before) begun after ack) where
  pub is_trimmed : IsTrimmed config range bound before after ack
  is_trimmed =
      let came = has_come setting config leaves range (Hides bound) before after is borne sound counted here history
      begun begins ack acked in
      record {
        history = history;
        found = came.found;
        named = came.named;
        took = took_of acked.marks;
        took_are = came.took_are;
        served = came.served;
        acknowledged = acked.entered.whole;
        own = came.own;
        new = came.new;
        missed = came.missed;
        still = came.still;
      }
