-- Someone looks at a leaf or at a range: both have then seen what either had, and all of that leaf's or that range's
-- history.
use Rattle.std.specs.Prelude.{List, length}
use Rattle.mon_value.specs.declared.histories.Entry.{Entry}
use Rattle.mon_value.specs.declared.histories.RangeEntry.{RangeEntry}
use Rattle.mon_value.specs.declared.positions.Leaf.{Leaf}
use Rattle.mon_value.specs.declared.positions.Range.{Range}
use Rattle.mon_topo.specs.Sights.{joined_sight, range_sight, with_leaf_sight, with_range_sight}
use Rattle.mon_topo.specs.declared.sights.Sight.{Sight}

abbrev pub sight_at_leaf : Leaf → List Entry → Sight → Sight → Sight
sight_at_leaf leaf history own there = with_leaf_sight leaf (length history) (joined_sight own there)

abbrev pub sight_at_range : Range → List RangeEntry → Sight → Sight → Sight
sight_at_range range history own there = with_range_sight range (range_sight history) (joined_sight own there)
