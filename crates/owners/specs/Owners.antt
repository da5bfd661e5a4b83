-- What an owner of a history is seen as, and which leaf or range it is of.
use Rattle.std.specs.Prelude.{◌≡◌, ◌<◌, length}
use Rattle.history_book.specs.declared.views.History.TheVariants as of
use Rattle.history_book.specs.Seats as book
use Rattle.raise_table.specs.Seats as hints
use Rattle.mon_topo.specs.Settings.{Setting, zone_of_leaf}
use Rattle.mon_topo.specs.Zones.{leaves_in, ranges_in}
use Rattle.mon_value.specs.declared.positions.Leaf.{Leaf}
use Rattle.mon_value.specs.declared.positions.Range.{Range}
use Rattle.raise_table.specs.declared.views.Hints.{Hints}
use Rattle.know.specs.Sound.{bit_of_leaf}

-- the owner of a leaf: its bits in the hint words, and its history
pub record LeafView : Type 0 where
  pub leaf : Leaf
  pub hints : hints.Owner
  pub book : book.Owner

abbrev pub leaf_owner : Leaf → hints.Owner → book.Owner → LeafView
leaf_owner leaf known owner = record { leaf = leaf; hints = known; book = owner }

-- both are of one leaf, which there is
pub record IsOfLeaf (setting : Setting) (leaf : Leaf) (known : hints.Owner) (owner : book.Owner) : Type 0 where
  pub here : leaf.0 < length (leaves_in setting.zones)
  pub history : owner.history ≡ of.Leaf leaf
  pub zone : known.leaf.zone ≡ zone_of_leaf setting leaf
  pub child : known.leaf.child ≡ bit_of_leaf setting leaf

-- the owner of a range: what leads to all that it has seen, and its history
pub record RangeView : Type 0 where
  pub range : Range
  pub hints : Hints
  pub book : book.Owner

abbrev pub range_owner : Range → Hints → book.Owner → RangeView
range_owner range known owner = record { range = range; hints = known; book = owner }

-- it is of a range, which there is
pub record IsOfRange (setting : Setting) (range : Range) (owner : book.Owner) : Type 0 where
  pub here : range.0 < length (ranges_in setting.zones)
  pub history : owner.history ≡ of.Range range
