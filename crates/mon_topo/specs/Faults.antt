-- Why zones are no topology: the first fault in order, its place and what it prints as.
use Rattle.std.specs.Prelude.{ℕ, ◌+◌, Bool, List, [], ◌∷◌, ◌++◌, codes, Option, Some, None, if◌then◌else◌, ◌≡◌, ◌==◌}
use Rattle.std.specs.Prelude.{◌&&◌, true, false, not, nat_le, length, take, option_map}
use Rattle.std.specs.Fmt.{decimal}
use Rattle.std.specs.Option.{option_or}
use Rattle.std.specs.List.{list_any}
use Rattle.mon_value.specs.Same.{same_text}
use Rattle.mon_value.specs.declared.schemas.Field.{Field}
use Rattle.mon_value.specs.declared.schemas.TargetSchema.{TargetSchema}
use Rattle.mon_value.specs.declared.values.FieldType.{FieldType}
use Rattle.mon_value.specs.declared.values.FieldType.TheVariants as of
use Rattle.mon_value.specs.declared.values.FieldValue.{FieldValue}
use Rattle.mon_value.specs.declared.values.FieldValue.TheVariants as value
use Rattle.mon_schema.specs.Faults.{texts_repeat}
use Rattle.mon_schema.specs.Names.{is_name, SchemaLists, target_named}
use Rattle.mon_topo.specs.declared.places.Place.{Place}
use Rattle.mon_topo.specs.declared.places.Place.TheVariants as place
use Rattle.mon_topo.specs.declared.faults.TopoFault.{TopoFault}
use Rattle.mon_topo.specs.declared.faults.TopoKind.{TopoKind}
use Rattle.mon_topo.specs.declared.faults.TopoKind.TheVariants as kind
use Rattle.mon_topo.specs.declared.limits.TheConstants.{MOST_LEAVES, MOST_LEAVES_OF_ZONE, MOST_RANGES, MOST_REPLICAS}
use Rattle.mon_topo.specs.declared.limits.TheConstants.{MOST_ZONES}
use Rattle.mon_topo.specs.declared.zones.RangeSpec.{RangeSpec}
use Rattle.mon_topo.specs.declared.zones.ZoneSpec.{ZoneSpec}
use Rattle.mon_topo.specs.Locations.{is_above}
use Rattle.mon_topo.specs.Zones.{leaves_in, locations_in, ranges_in, zone_names_in}

-- Where a fault of zones stands, and the path to it.

-- the path from the top of the configuration
abbrev pub place_path : Place → List ℕ
place_path place.Zones = codes "$.zones"
place_path (place.ZoneName i) = codes "$.zones[" ++ (decimal i ++ codes "].name")
place_path (place.Location i j) = codes "$.zones[" ++ (decimal i ++ (codes "].locations[" ++ (decimal j ++ codes "]")))
place_path (place.Leaves i) = codes "$.zones[" ++ (decimal i ++ codes "].leaves")
place_path (place.Leaf i j) = codes "$.zones[" ++ (decimal i ++ (codes "].leaves[" ++ (decimal j ++ codes "]")))
place_path (place.Ranges i) = codes "$.zones[" ++ (decimal i ++ codes "].ranges")
place_path (place.Bound i j) = codes "$.zones[" ++ (decimal i ++ (codes "].ranges[" ++ (decimal j ++ codes "].from")))
place_path (place.Replicas i j) = codes "$.zones["
    ++ (decimal i ++ (codes "].ranges[" ++ (decimal j ++ codes "].leaves")))
place_path (place.Replica i j k) =
    codes "$.zones[" ++ (decimal i
    ++ (codes "].ranges[" ++ (decimal j ++ (codes "].leaves[" ++ (decimal k ++ codes "]")))))

-- the path to what a zone has under a key
abbrev pub path_in_zone : ℕ → List ℕ → List ℕ
path_in_zone i key = codes "$.zones[" ++ (decimal i ++ (codes "]." ++ key))

-- the path to an element of what a zone has under a key
abbrev pub path_of_element : ℕ → List ℕ → ℕ → List ℕ
path_of_element i key j = codes "$.zones["
    ++ (decimal i ++ (codes "]." ++ (key ++ (codes "[" ++ (decimal j ++ codes "]")))))

-- the path to what a range of a zone has under a key
abbrev pub path_in_range : ℕ → ℕ → List ℕ → List ℕ
path_in_range i j key = codes "$.zones[" ++ (decimal i ++ (codes "].ranges[" ++ (decimal j ++ (codes "]." ++ key))))

-- the place, unless it is as it must be
abbrev pub place_unless : Bool → Place → Option Place
place_unless good place = if good then None else Some place

-- the first place at fault among elements that are numbered on from i
abbrev pub first_at : {X : Type 0} → (ℕ → X → Option Place) → ℕ → List X → Option Place
first_at fault i [] = None
first_at fault i (x ∷ xs) = option_or (fault i x) (first_at fault (i + 1) xs)

-- Why zones are no topology: the first fault in order, and its place.

-- ---- too many

-- there are as many zones, leaves and ranges as there may be
abbrev pub are_few : List ZoneSpec → Bool
are_few zones =
    nat_le (length zones) MOST_ZONES
    && (nat_le (length (leaves_in zones)) MOST_LEAVES && nat_le (length (ranges_in zones)) MOST_RANGES)

abbrev pub leaves_over : ℕ → ZoneSpec → Option Place
leaves_over i zone = place_unless (nat_le (length zone.leaves) MOST_LEAVES_OF_ZONE) (place.Leaves i)

abbrev pub too_many : List ZoneSpec → Option Place
too_many zones = option_or (place_unless (are_few zones) place.Zones) (first_at leaves_over 0 zones)

-- ---- names

abbrev pub bad_leaf : ℕ → ℕ → List ℕ → Option Place
bad_leaf i j leaf = place_unless (is_name leaf) (place.Leaf i j)

abbrev pub bad_name_in : ℕ → ZoneSpec → Option Place
bad_name_in i zone = option_or (place_unless (is_name zone.name) (place.ZoneName i))
    (first_at (bad_leaf i) 0 zone.leaves)

abbrev pub bad_name : List ZoneSpec → Option Place
bad_name = first_at bad_name_in 0

-- ---- what stood earlier

-- the text at the place j of a list stands among those that stood before the list, or before it in the list
abbrev pub stood : List (List ℕ) → List (List ℕ) → ℕ → List ℕ → Bool
stood before texts j text = list_any (same_text text) (before ++ take j texts)

abbrev pub repeated_at : (ℕ → Place) → List (List ℕ) → List (List ℕ) → ℕ → List ℕ → Option Place
repeated_at place_of before texts j text = place_unless (not (stood before texts j text)) (place_of j)

-- the first text of a list that stood earlier
abbrev pub repeat_in : (ℕ → Place) → List (List ℕ) → List (List ℕ) → Option Place
repeat_in place_of before texts = first_at (repeated_at place_of before texts) 0 texts

-- what a zone repeats of the zones before it, or of itself
abbrev pub repeat_of : List ZoneSpec → ℕ → ZoneSpec → Option Place
repeat_of before i zone =
    option_or (place_unless (not (list_any (same_text zone.name) (zone_names_in before))) (place.ZoneName i))
    (option_or (repeat_in (place.Location i) (locations_in before) zone.locations)
    (repeat_in (place.Leaf i) (leaves_in before) zone.leaves))

abbrev pub repeat_behind : List ZoneSpec → ℕ → ZoneSpec → Option Place
repeat_behind zones i zone = repeat_of (take i zones) i zone

abbrev pub duplicate : List ZoneSpec → Option Place
duplicate zones = first_at (repeat_behind zones) 0 zones

-- ---- the leaves of ranges

abbrev pub no_leaf_at : ZoneSpec → ℕ → ℕ → ℕ → List ℕ → Option Place
no_leaf_at zone i j k leaf = place_unless (list_any (same_text leaf) zone.leaves) (place.Replica i j k)

abbrev pub no_leaf_in_range : ZoneSpec → ℕ → ℕ → RangeSpec → Option Place
no_leaf_in_range zone i j range = first_at (no_leaf_at zone i j) 0 range.leaves

abbrev pub no_leaf_in_zone : ℕ → ZoneSpec → Option Place
no_leaf_in_zone i zone = first_at (no_leaf_in_range zone i) 0 zone.ranges

-- the first leaf of a range that isn't one of the range's zone
abbrev pub no_leaf : List ZoneSpec → Option Place
no_leaf = first_at no_leaf_in_zone 0

-- one to three leaves, each once
abbrev pub are_replicas : List (List ℕ) → Bool
are_replicas leaves = (nat_le 1 (length leaves) && nat_le (length leaves) MOST_REPLICAS) && not (texts_repeat leaves)

abbrev pub bad_replicas_in_range : ℕ → ℕ → RangeSpec → Option Place
bad_replicas_in_range i j range = place_unless (are_replicas range.leaves) (place.Replicas i j)

abbrev pub bad_replicas_in_zone : ℕ → ZoneSpec → Option Place
bad_replicas_in_zone i zone = first_at (bad_replicas_in_range i) 0 zone.ranges

abbrev pub bad_replicas : List ZoneSpec → Option Place
bad_replicas = first_at bad_replicas_in_zone 0

-- ---- bounds

-- whether a value is of a type; a bound's text may be of any length
abbrev pub is_of_type : FieldType → FieldValue → Bool
is_of_type of.Text (value.Text text) = true
is_of_type of.Text b = false
is_of_type of.Int (value.Int z) = true
is_of_type of.Int b = false
is_of_type of.Bool (value.Bool p) = true
is_of_type of.Bool b = false

-- at most as many values as fields, each of its field's type
abbrev pub are_leading : List Field → List FieldValue → Bool
are_leading fields [] = true
are_leading [] (value ∷ values) = false
are_leading (field ∷ fields) (value ∷ values) = is_of_type field.of value && are_leading fields values

abbrev pub leads : List FieldValue → Option TargetSchema → Bool
leads values None = false
leads values (Some schema) = are_leading schema.fields values

-- a bound is empty, or the name of a schema that is held with leading fields of their types
abbrev pub is_bound : SchemaLists → List FieldValue → Bool
is_bound held [] = true
is_bound held (value.Text name ∷ values) = leads values (target_named name held.targets)
is_bound held (value.Int z ∷ values) = false
is_bound held (value.Bool p ∷ values) = false

abbrev pub bad_bound_in_range : SchemaLists → ℕ → ℕ → RangeSpec → Option Place
bad_bound_in_range held i j range = place_unless (is_bound held range.from) (place.Bound i j)

abbrev pub bad_bound_in_zone : SchemaLists → ℕ → ZoneSpec → Option Place
bad_bound_in_zone held i zone = first_at (bad_bound_in_range held i) 0 zone.ranges

abbrev pub bad_bound : SchemaLists → List ZoneSpec → Option Place
bad_bound held = first_at (bad_bound_in_zone held) 0

-- ---- the order of ranges

-- the first of the ranges from the place j on whose bound is not above the one before it
abbrev pub fall_in : ℕ → ℕ → List FieldValue → List RangeSpec → Option Place
fall_in i j before [] = None
fall_in i j before (range ∷ ranges) =
    option_or (place_unless (is_above before range.from) (place.Bound i j)) (fall_in i (j + 1) range.from ranges)

-- a zone has a range, the first bound is empty, and each is above the one before it
abbrev pub disorder_in : ℕ → List RangeSpec → Option Place
disorder_in i [] = Some (place.Ranges i)
disorder_in i (range ∷ ranges) =
    option_or (place_unless (length range.from == 0) (place.Bound i 0)) (fall_in i 1 range.from ranges)

abbrev pub disorder_in_zone : ℕ → ZoneSpec → Option Place
disorder_in_zone i zone = disorder_in i zone.ranges

abbrev pub disorder : List ZoneSpec → Option Place
disorder = first_at disorder_in_zone 0

-- ---- the first fault

abbrev pub fault_at : TopoKind → Option Place → Option TopoFault
fault_at kind place = option_map (λ found. record { kind = kind; path = place_path found }) place

-- zones are refused for the first of these
abbrev pub topology_fault : SchemaLists → List ZoneSpec → Option TopoFault
topology_fault held zones =
    option_or (fault_at kind.TooMany (too_many zones))
    (option_or (fault_at kind.BadName (bad_name zones))
    (option_or (fault_at kind.Duplicate (duplicate zones))
    (option_or (fault_at kind.NoLeaf (no_leaf zones))
    (option_or (fault_at kind.Replicas (bad_replicas zones))
    (option_or (fault_at kind.BadBound (bad_bound held zones)) (fault_at kind.RangeOrder (disorder zones)))))))

-- ---- zones that passed, whatever the schemas are

pub record AreLawfulZones (zones : List ZoneSpec) : Type 0 where
  pub few : too_many zones ≡ None
  pub named : bad_name zones ≡ None
  pub apart : duplicate zones ≡ None
  pub known : no_leaf zones ≡ None
  pub replicated : bad_replicas zones ≡ None
  pub ordered : disorder zones ≡ None

-- What a refusal prints as.

abbrev pub topo_kind_text : TopoKind → List ℕ
topo_kind_text kind.TooMany = codes "TooMany"
topo_kind_text kind.BadName = codes "BadName"
topo_kind_text kind.Duplicate = codes "Duplicate"
topo_kind_text kind.NoLeaf = codes "NoLeaf"
topo_kind_text kind.Replicas = codes "Replicas"
topo_kind_text kind.BadBound = codes "BadBound"
topo_kind_text kind.RangeOrder = codes "RangeOrder"

abbrev pub topo_fault_text : TopoFault → List ℕ
topo_fault_text fault = topo_kind_text fault.kind ++ (codes " " ++ fault.path)
