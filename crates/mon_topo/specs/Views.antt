-- What someone has seen of all histories, and knows of the hint words; how two of these come together, and how one
-- grows.
use Rattle.std.specs.Prelude.{ℕ, List}
use Rattle.mon_value.specs.declared.histories.Entry.{Entry}
use Rattle.mon_value.specs.declared.histories.RangeEntry.{RangeEntry}
use Rattle.mon_value.specs.declared.positions.Leaf.{Leaf}
use Rattle.mon_value.specs.declared.positions.Range.{Range}
use Rattle.mon_value.specs.declared.positions.Zone.{Zone}
use Rattle.mon_value.specs.Histories.{joined_histories, leaf_history, range_history}
use Rattle.mon_value.specs.declared.histories.Histories.{Histories}
use Rattle.mon_topo.specs.HeldHistories.{AreHeld, AreWithin}
use Rattle.mon_topo.specs.HeldHistories as histories
use Rattle.mon_topo.specs.Settings.{Setting, zone_of_leaf}
use Rattle.mon_hints.specs.Covers.{AreBitsWithin, Bits, Covers, joined_bits, with_bit}
use Rattle.mon_hints.specs.Hints.{history_buckets}

-- the histories that were seen, and the bits that are known
pub record View : Type 0 where
  pub seen : Histories
  pub bits : Bits

abbrev pub of_leaf : View → Leaf → List Entry
of_leaf view leaf = leaf_history view.seen leaf

abbrev pub of_range : View → Range → List RangeEntry
of_range view range = range_history view.seen range

-- what was seen is held together, and all of it is led to
pub record IsSound (setting : Setting) (view : View) : Type 0 where
  pub held : AreHeld setting.held setting.zones setting.points view.seen
  pub covered : (leaf : Leaf)
      → Covers view.bits (zone_of_leaf setting leaf) leaf (history_buckets setting.buckets_of (of_leaf view leaf))

-- one view is a part of another one
pub record IsViewWithin (part whole : View) : Type 0 where
  pub seen : AreWithin part.seen whole.seen
  pub bits : AreBitsWithin part.bits whole.bits

-- what two have seen, and know, together
abbrev pub joined_view : View → View → View
joined_view a b = record { seen = joined_histories a.seen b.seen; bits = joined_bits a.bits b.bits }

-- ---- one step more

-- a zone's bit is set at the root
abbrev pub with_root_bit : Zone → ℕ → View → View
with_root_bit zone bucket view = record {
  seen = view.seen;
  bits = record { root = with_bit view.bits.root zone.0 bucket; zone = view.bits.zone };
}

-- a leaf's bit is set in its zone
abbrev pub with_zone_bit : Leaf → ℕ → View → View
with_zone_bit leaf bucket view = record {
  seen = view.seen;
  bits = record { root = view.bits.root; zone = with_bit view.bits.zone leaf.0 bucket };
}

-- a leaf's history has one entry more
abbrev pub with_entry : Leaf → Entry → View → View
with_entry leaf entry view = record { seen = histories.with_leaf_entry leaf entry view.seen; bits = view.bits }

-- a range's history has one entry more
abbrev pub with_range_entry : Range → RangeEntry → View → View
with_range_entry range entry view = record { seen = histories.with_range_entry range entry view.seen; bits = view.bits }
