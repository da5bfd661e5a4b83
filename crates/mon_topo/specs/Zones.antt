-- What zones say: how leaves and ranges are numbered and named, and which share a zone.
use Rattle.std.specs.Prelude.{ℕ, ◌+◌, ◌≤◌, ◌<◌, List, [], ◌∷◌, ◌++◌, codes, length, map, take, Option, option_map, ◌-◌}
use Rattle.std.specs.Prelude.{◌&&◌, nat_le, nat_lt, Bool}
use Rattle.std.specs.Fmt.{decimal}
use Rattle.std.specs.List.{filter_map, flat_map, list_any, position_from, slice_index_or, range_with_len}
use Rattle.mon_value.specs.Same.{same_text}
use Rattle.mon_value.specs.declared.positions.Leaf.{Leaf}
use Rattle.mon_value.specs.declared.positions.Range.{Range}
use Rattle.mon_value.specs.declared.positions.Zone.{Zone}
use Rattle.mon_value.specs.Histories.{leaf_numbered, range_numbered, zone_numbered}
use Rattle.mon_value.specs.declared.positions.FoundDown.{FoundDown}
use Rattle.mon_topo.specs.declared.zones.RangeSpec.{RangeSpec}
use Rattle.mon_topo.specs.declared.zones.ZoneSpec.{ZoneSpec}

-- What zones say: which zone lists a location, how leaves and ranges are numbered over all zones, how they are
-- named, and which leaves hold a range at first.

-- ---- places

-- a zone that says nothing
abbrev pub no_zone : ZoneSpec
no_zone = record { name = []; locations = []; leaves = []; ranges = [] }

-- the zone of a number
abbrev pub zone_at : List ZoneSpec → ℕ → ZoneSpec
zone_at zones i = slice_index_or zones i no_zone

-- a range that says nothing
abbrev pub no_range : RangeSpec
no_range = record { from = []; leaves = [] }

-- ---- the parts of all zones, zones in order

abbrev pub zone_names_in : List ZoneSpec → List (List ℕ)
zone_names_in = map (λ zone. zone.name)

abbrev pub locations_in : List ZoneSpec → List (List ℕ)
locations_in = flat_map (λ zone. zone.locations)

abbrev pub leaves_in : List ZoneSpec → List (List ℕ)
leaves_in = flat_map (λ zone. zone.leaves)

abbrev pub ranges_in : List ZoneSpec → List RangeSpec
ranges_in = flat_map (λ zone. zone.ranges)

-- the number of a zone's first leaf: as many leaves as the zones before it have
abbrev pub first_leaf : List ZoneSpec → ℕ → ℕ
first_leaf zones i = length (leaves_in (take i zones))

-- the number of a zone's first range
abbrev pub first_range : List ZoneSpec → ℕ → ℕ
first_range zones i = length (ranges_in (take i zones))

-- a range is one of a zone's
abbrev pub IsRangeOf : List ZoneSpec → ℕ → Range → Type 0
IsRangeOf zones zone range =
    (first_range zones zone ≤ range.0) × (range.0 < first_range zones zone + length (zone_at zones zone).ranges)

-- how many leaves each zone has
abbrev pub leaf_counts : List ZoneSpec → List ℕ
leaf_counts = map (λ zone. length zone.leaves)

-- ---- zones of leaves and ranges

-- the zone of each part, of zones that are numbered on from i
abbrev pub zones_of : {X : Type 0} → (ZoneSpec → List X) → ℕ → List ZoneSpec → List Zone
zones_of parts i [] = []
zones_of parts i (zone ∷ zones) = map (λ part. zone_numbered i) (parts zone) ++ zones_of parts (i + 1) zones

-- the zone of each leaf
abbrev pub leaf_zones : List ZoneSpec → List Zone
leaf_zones = zones_of (λ zone. zone.leaves) 0

-- the zone of each range
abbrev pub range_zones : List ZoneSpec → List Zone
range_zones = zones_of (λ zone. zone.ranges) 0

-- ---- names

-- the zone that lists a location
abbrev pub zone_of : List ZoneSpec → List ℕ → Option Zone
zone_of zones location =
    option_map zone_numbered (position_from (λ zone. list_any (same_text location) zone.locations) 0 zones)

-- the leaf of a name
abbrev pub leaf_named : List ZoneSpec → List ℕ → Option Leaf
leaf_named zones name = option_map leaf_numbered (position_from (same_text name) 0 (leaves_in zones))

-- a range is named by its zone and its number in it
abbrev pub range_name : List ℕ → ℕ → List ℕ
range_name zone j = zone ++ (codes "/" ++ decimal j)

-- the names of a zone's ranges, which are numbered on from j
abbrev pub names_from : List ℕ → ℕ → List RangeSpec → List (List ℕ)
names_from zone j [] = []
names_from zone j (range ∷ ranges) = range_name zone j ∷ names_from zone (j + 1) ranges

-- the names of all ranges
abbrev pub range_names : List ZoneSpec → List (List ℕ)
range_names = flat_map (λ zone. names_from zone.name 0 zone.ranges)

-- the range of a name
abbrev pub range_named : List ZoneSpec → List ℕ → Option Range
range_named zones name = option_map range_numbered (position_from (same_text name) 0 (range_names zones))

-- ---- replicas

-- the leaves of names
abbrev pub leaves_named : List ZoneSpec → List (List ℕ) → List Leaf
leaves_named zones = filter_map (leaf_named zones)

-- the leaves that hold a range at first, in their order
abbrev pub first_replicas : List ZoneSpec → ℕ → List Leaf
first_replicas zones range = leaves_named zones (slice_index_or (ranges_in zones) range no_range).leaves

-- Ranges and leaves of one zone.

-- whether a number is among so many from the first one on
abbrev pub is_among : ℕ → ℕ → ℕ → Bool
is_among number first count = nat_le first number && nat_lt (number - first) count

-- whether a range and a leaf are of a zone
abbrev pub has_both : List ZoneSpec → Range → Leaf → ℕ → Bool
has_both zones range leaf zone =
    is_among range.0 (first_range zones zone) (length (zone_at zones zone).ranges)
    && is_among leaf.0 (first_leaf zones zone) (length (zone_at zones zone).leaves)

abbrev pub share_zone : List ZoneSpec → Range → Leaf → Bool
share_zone zones range leaf = list_any (has_both zones range leaf) (range_with_len 0 (length zones))

-- What leaves and ranges are called where a refusal names them.

abbrev pub leaf_text : List ZoneSpec → Leaf → List ℕ
leaf_text zones leaf = slice_index_or (leaves_in zones) leaf.0 []

-- a range is named by its zone and its number there
abbrev pub range_text : List ZoneSpec → Range → List ℕ
range_text zones range = slice_index_or (range_names zones) range.0 []

-- a leaf that was found down, with its cut
abbrev pub found_text : List ZoneSpec → FoundDown → List ℕ
found_text zones found =
    codes " " ++ (leaf_text zones found.leaf ++ (codes "@" ++ decimal found.cut))

abbrev pub founds_text : List ZoneSpec → List FoundDown → List ℕ
founds_text zones = flat_map (found_text zones)

-- a range whose replicas are on leaves that are down
abbrev pub down_text : List ZoneSpec → Range → List FoundDown → List ℕ
down_text zones range founds = range_text zones range ++ (codes ":" ++ founds_text zones founds)
