-- How far histories were seen: what of someone's histories is known at run time.
use Rattle.std.specs.Prelude.{◌≡◌, ℕ, List, length, map, replicate, set, slice_get, None}
use Rattle.mon_value.specs.declared.histories.RangeEntry.{RangeEntry}
use Rattle.mon_value.specs.declared.positions.Leaf.{Leaf}
use Rattle.mon_value.specs.declared.positions.Range.{Range}
use Rattle.mon_value.specs.Histories.{farther_each}
use Rattle.mon_value.specs.declared.histories.Histories.{Histories}
use Rattle.mon_topo.specs.RangeHistories.{serving}
use Rattle.mon_topo.specs.declared.sights.RangeSight.{RangeSight}
use Rattle.mon_topo.specs.declared.sights.Sight.{Sight}

-- the length of a range's history, and the first replica that serves in it
abbrev pub range_sight : List RangeEntry → RangeSight
range_sight history = record { length = length history; first = slice_get (serving history) 0 }

-- how far someone has seen histories
abbrev pub sight_of : Histories → Sight
sight_of seen = record { leaves = map length seen.leaves; ranges = map range_sight seen.ranges }

-- nothing was seen of so many leaves and ranges
abbrev pub no_sight : ℕ → ℕ → Sight
no_sight leaves ranges = record {
  leaves = replicate leaves 0;
  ranges = replicate ranges (record { length = 0; first = None });
}

-- ---- two together

-- both are of the same leaves and ranges
abbrev pub AreAlike : Sight → Sight → Type 0
AreAlike a b = (length a.leaves ≡ length b.leaves) × (length a.ranges ≡ length b.ranges)

-- of each history how far either was seen
abbrev pub joined_sight : Sight → Sight → Sight
joined_sight a b = record {
  leaves = farther_each (λ length. length) a.leaves b.leaves;
  ranges = farther_each (λ range. range.length) a.ranges b.ranges;
}

-- ---- one history farther

abbrev pub with_leaf_sight : Leaf → ℕ → Sight → Sight
with_leaf_sight leaf cut sight = record { leaves = set sight.leaves leaf.0 cut; ranges = sight.ranges }

abbrev pub with_range_sight : Range → RangeSight → Sight → Sight
with_range_sight range one sight = record { leaves = sight.leaves; ranges = set sight.ranges range.0 one }
