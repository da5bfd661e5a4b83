-- The location of a target, and with it the range that it lies in.
use Rattle.std.specs.Prelude.{ℕ, suc, ◌≡◌, ◌+◌, ◌<◌, Bool, true, false, List, [], ◌∷◌, length, Option, Some, None}
use Rattle.std.specs.Prelude.{option_map, if◌then◌else◌, option_and_then}
use Rattle.std.specs.Cmp.Lexicographic.{slice_cmp}
use Rattle.std.specs.List.{slice_index_or}
use Rattle.std.specs.Option.{option_or}
use Rattle.std.specs.Ordering.{is_le, is_lt}
use Rattle.std.specs.declared.cmp.Ordering.{Ordering}
use Rattle.mon_value.specs.Order.{field_cmp}
use Rattle.mon_value.specs.declared.positions.Range.{Range}
use Rattle.mon_value.specs.declared.rows.Target.{Target}
use Rattle.mon_value.specs.declared.values.FieldValue.{FieldValue}
use Rattle.mon_value.specs.declared.values.FieldValue.TheVariants as value
use Rattle.mon_value.specs.Histories.{range_numbered}
use Rattle.mon_value.specs.declared.schemas.Field.{Field}
use Rattle.mon_schema.specs.Faults.{is_location}
use Rattle.mon_schema.specs.Names.{SchemaLists, target_named}
use Rattle.mon_topo.specs.declared.zones.RangeSpec.{RangeSpec}
use Rattle.mon_topo.specs.declared.zones.ZoneSpec.{ZoneSpec}
use Rattle.mon_topo.specs.Zones.{first_range, no_range, zone_at, zone_of}

-- Bounds of ranges, and which targets lie in a range.

-- bounds are compared from the front, field by field; a bound that another one begins with is the lesser
abbrev pub bound_cmp : List FieldValue → List FieldValue → Ordering
bound_cmp = slice_cmp field_cmp

-- a target as a bound: its schema's name, and then its fields
abbrev pub target_bound : Target → List FieldValue
target_bound target = value.Text target.schema ∷ target.fields

-- whether a bound is not above a target
abbrev pub is_bound_below : List FieldValue → Target → Bool
is_bound_below bound target = is_le (bound_cmp bound (target_bound target))

-- whether a bound is above the one before it
abbrev pub is_above : List FieldValue → List FieldValue → Bool
is_above before bound = is_lt (bound_cmp before bound)

-- the bound of a range among a zone's ranges
abbrev pub bound_at : List RangeSpec → ℕ → List FieldValue
bound_at ranges j = (slice_index_or ranges j no_range).from

-- a range holds the targets from its bound on, up to the next range's bound
pub record IsHeldAt (target : Target) (ranges : List RangeSpec) (j : ℕ) : Type 0 where
  pub there : j < length ranges
  pub begun : is_bound_below (bound_at ranges j) target ≡ true
  pub before_next : j + 1 < length ranges → is_bound_below (bound_at ranges (j + 1)) target ≡ false

-- the last of a zone's ranges whose bound is not above a target
abbrev pub last_within : Target → List RangeSpec → Option ℕ
last_within target [] = None
last_within target (range ∷ ranges) =
    option_or (option_map (λ j. suc j) (last_within target ranges))
    (if is_bound_below range.from target then Some 0 else None)

-- the range of a zone that a target lies in
abbrev pub range_of : List ZoneSpec → ℕ → Target → Option Range
range_of zones zone target =
    option_map (λ j. range_numbered (first_range zones zone + j)) (last_within target (zone_at zones zone).ranges)

-- one range of a zone holds a target, and it is the one that is found
pub record HasOneRange (zones : List ZoneSpec) (zone : ℕ) (target : Target) : Type 0 where
  pub place : ℕ
  pub held : IsHeldAt target (zone_at zones zone).ranges place
  pub only : (other : ℕ) → IsHeldAt target (zone_at zones zone).ranges other → other ≡ place
  pub found : range_of zones zone target ≡ Some (range_numbered (first_range zones zone + place))

-- The location of a target, and with it the range that it lies in.

-- the text in a text field
abbrev pub text_in_field : FieldValue → Option (List ℕ)
text_in_field (value.Text text) = Some text
text_in_field (value.Int z) = None
text_in_field (value.Bool b) = None

-- the value of the location field
abbrev pub location_in : List Field → List FieldValue → Option (List ℕ)
location_in [] values = None
location_in (field ∷ fields) [] = None
location_in (field ∷ fields) (value ∷ values) =
    if is_location field then text_in_field value else location_in fields values

-- the location of a target, by its schema
abbrev pub location_of : SchemaLists → Target → Option (List ℕ)
location_of held target =
    option_and_then (λ schema. location_in schema.fields target.fields) (target_named target.schema held.targets)

-- the range that a target lies in: the one that holds it, of the zone that lists its location
abbrev pub range_for : SchemaLists → List ZoneSpec → Target → Option Range
range_for held zones target =
    option_and_then (λ zone. range_of zones zone.0 target) (option_and_then (zone_of zones) (location_of held target))

-- a target lies in a range
abbrev pub LiesIn : SchemaLists → List ZoneSpec → Range → Target → Type 0
LiesIn held zones range target = range_for held zones target ≡ Some range
