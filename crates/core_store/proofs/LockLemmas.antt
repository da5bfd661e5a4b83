-- What a write is told by its range's lock is what it may be told.
use Rattle.std.proofs.Common.{List, refl}
use Rattle.mon_value.proofs.SourceMoreLemmas.{source_more}
use Rattle.mon_topo.specs.RangeHistories.{IsLegal, acknowledged_rows}
use Rattle.mon_topo.specs.Settings.{Setting}
use Rattle.mon_value.specs.declared.histories.RangeEntry.{RangeEntry}
use Rattle.mon_value.specs.declared.positions.Range.{Range}
use Rattle.mon_value.specs.Turns.{Turn, Adds, Hides}
use Rattle.core_store.specs.WriteEvents.{turn_answer}
use Rattle.write_core.proofs.LockLemmas.{lock_told}
use Rattle.write_core.proofs.OpeningLemmas.{acked_source}
use Rattle.write_core.specs.Steps.{IsToldByRange}

pub lock_true : (store : Setting) (range : Range) (history : List RangeEntry) (turn : Turn)
    → IsLegal store.held store.zones store.points range history
    → IsToldByRange store history turn (turn_answer store.points history turn)
lock_true store range history (Hides before) legal = (refl, tt)
lock_true store range history (Adds row) legal =
    lock_told store range history row legal
    (source_more (acknowledged_rows history) row
    (acked_source store.held store.zones store.points range history legal))
