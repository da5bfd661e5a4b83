-- Which tables a store has.
use Rattle.std.specs.Prelude.{◌≡◌, length}
use Rattle.mon_topo.specs.Settings.{Setting}
use Rattle.mon_topo.specs.Zones.{leaf_counts, leaves_in, ranges_in}
use Rattle.history_book.specs.Books.{BookIdentity}
use Rattle.raise_table.specs.Tables.{RaiseIdentity}

-- each leaf has its words' bits, and each leaf and each range its history
pub record AreTablesOf (setting : Setting) (raise : RaiseIdentity) (book : BookIdentity) : Type 0 where
  pub zones : raise.zones ≡ leaf_counts setting.zones
  pub leaves : book.leaves ≡ length (leaves_in setting.zones)
  pub ranges : book.ranges ≡ length (ranges_in setting.zones)
