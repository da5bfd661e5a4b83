-- What a configuration's text spells, object by object: each key in its turn, and the path to the first fault.
use Rattle.std.specs.Prelude.{ℕ, ◌+◌, Bool, true, List, [], ◌∷◌, ◌++◌, codes, Option, Some, None, Result, Ok, Err}
use Rattle.std.specs.Prelude.{if◌then◌else◌, ℤ, false, option_map, option_and_then}
use Rattle.std.specs.Fmt.{decimal}
use Rattle.std.specs.Cmp.Lexicographic.{slice_cmp}
use Rattle.std.specs.List.{list_any}
use Rattle.std.specs.Ordering.{is_gt, nat_cmp}
use Rattle.std.specs.Option.{ok_or}
use Rattle.serde_json.specs.Data.{Data, Items, no_items, item, Members, no_members, member, null, boolean, number}
use Rattle.serde_json.specs.Data.{string, array, object}
use Rattle.serde_json.specs.Find.{as_array, as_object, get, as_bool, as_i64, as_number, as_str, as_u64}
use Rattle.mon_value.specs.Same.{same_text}
use Rattle.mon_value.specs.Answers.{◌>>=◌}
use Rattle.mon_value.specs.declared.values.FieldType.{FieldType}
use Rattle.mon_value.specs.declared.values.FieldType.TheVariants as of
use Rattle.mon_value.specs.declared.values.FieldValue.{FieldValue}
use Rattle.mon_value.specs.declared.values.FieldValue.TheVariants as value
use Rattle.mon_value.specs.declared.values.ValueType.{ValueType}
use Rattle.mon_value.specs.declared.values.ValueType.TheVariants as type
use Rattle.mon_value.specs.declared.schemas.Field.{Field}
use Rattle.mon_value.specs.declared.schemas.Kind.{Kind}
use Rattle.mon_value.specs.declared.schemas.Kind.TheVariants as kind
use Rattle.mon_value.specs.declared.schemas.TargetSchema.{TargetSchema}
use Rattle.mon_value.specs.declared.schemas.MetricSchema.{MetricSchema}
use Rattle.mon_topo.specs.declared.zones.RangeSpec.{RangeSpec}
use Rattle.mon_topo.specs.declared.zones.ZoneSpec.{ZoneSpec}
use Rattle.mon_config.specs.declared.parts.Parts.{Parts}
use Rattle.mon_config.specs.declared.keys.ObjectForm.{ObjectForm}
use Rattle.mon_config.specs.declared.keys.ObjectForm.TheVariants as form
pub use Rattle.mon_config.specs.Numbers.{is_bucket_count, is_limit}

-- How a JSON value is read: what it spells, or the path from it to its first fault.

-- ---- paths

-- a path that goes through a key first
abbrev pub through_key : List ℕ → List ℕ → List ℕ
through_key key path = codes "." ++ (key ++ path)

-- a path that goes through an element first
abbrev pub through_index : ℕ → List ℕ → List ℕ
through_index i path = codes "[" ++ (decimal i ++ (codes "]" ++ path))

-- what is read under a key
abbrev pub under_key : {T : Type 0} → List ℕ → Result T (List ℕ) → Result T (List ℕ)
under_key key (Ok x) = Ok x
under_key key (Err path) = Err (through_key key path)

-- what is read of an element
abbrev pub under_index : {T : Type 0} → ℕ → Result T (List ℕ) → Result T (List ℕ)
under_index i (Ok x) = Ok x
under_index i (Err path) = Err (through_index i path)

-- ---- forms

-- what a value spells, or the fault of the value itself
abbrev pub value_or_here : {T : Type 0} → Option T → Result T (List ℕ)
value_or_here spelled = ok_or spelled []

-- ---- objects

-- the lesser by bytes of a key and another, where there is another
abbrev pub lesser_key : List ℕ → Option (List ℕ) → List ℕ
lesser_key key None = key
lesser_key key (Some other) = if is_gt (slice_cmp nat_cmp key other) then other else key

-- the key that isn't known, the least by bytes where there are more
abbrev pub unknown_in : List (List ℕ) → Members → Option (List ℕ)
unknown_in known no_members = None
unknown_in known (member key d members) =
    if list_any (same_text key) known then unknown_in known members
    else Some (lesser_key key (unknown_in known members))

-- every key is known
abbrev pub none_unknown : Option (List ℕ) → Result Bool (List ℕ)
none_unknown None = Ok true
none_unknown (Some key) = Err (through_key key [])

-- an object whose keys are all known
abbrev pub object_of : List (List ℕ) → Data → Result Bool (List ℕ)
object_of known d = value_or_here (as_object d) >>= λ members. none_unknown (unknown_in known members)

-- what is read of the value under a key, where there is one
abbrev pub if_there : {T : Type 0} → Result T (List ℕ) → (Data → Result T (List ℕ)) → Option Data
    → Result T (List ℕ)
if_there without reads None = without
if_there without reads (Some d) = reads d

-- a key that must be there
abbrev pub required_key : {T : Type 0} → List ℕ → (Data → Result T (List ℕ)) → Data → Result T (List ℕ)
required_key key reads d = under_key key (if_there (Err []) reads (get key d))

-- a key that may be there, and what counts without it
abbrev pub optional_key : {T : Type 0} → T → List ℕ → (Data → Result T (List ℕ)) → Data → Result T (List ℕ)
optional_key default key reads d = under_key key (if_there (Ok default) reads (get key d))

-- a key that must not be there
abbrev pub absent_key : List ℕ → Data → Result Bool (List ℕ)
absent_key key d = under_key key (if_there (Ok true) (λ there. Err []) (get key d))

-- ---- lists

-- the elements as a list
abbrev pub list_of : Items → List Data
list_of no_items = []
list_of (item d ds) = d ∷ list_of ds

-- the elements from the place i on
abbrev pub elements_in : {T : Type 0} → (Data → Result T (List ℕ)) → ℕ → List Data → Result (List T) (List ℕ)
elements_in reads i [] = Ok []
elements_in reads i (d ∷ ds) =
    under_index i (reads d) >>= λ x. elements_in reads (i + 1) ds >>= λ xs. Ok (x ∷ xs)

-- a list, element by element
abbrev pub list_in : {T : Type 0} → (Data → Result T (List ℕ)) → Data → Result (List T) (List ℕ)
list_in reads d = value_or_here (as_array d) >>= λ items. elements_in reads 0 (list_of items)

-- What a configuration's text spells, object by object: each key in its turn, and the path to the first fault
-- of shape.

-- the keys that an object may have
abbrev pub keys_of_form : ObjectForm → List (List ℕ)
keys_of_form form.Configuration =
    codes "buckets" ∷ codes "limit" ∷ codes "range_points" ∷ codes "targets" ∷ codes "metrics" ∷ codes "zones" ∷ []
keys_of_form form.Target = codes "name" ∷ codes "fields" ∷ []
keys_of_form form.TargetField = codes "name" ∷ codes "type" ∷ codes "location" ∷ []
keys_of_form form.Metric =
    codes "name" ∷ codes "kind" ∷ codes "type" ∷ codes "bounds" ∷ codes "column" ∷ codes "fields" ∷ []
keys_of_form form.MetricField = codes "name" ∷ codes "type" ∷ []
keys_of_form form.Zone = codes "name" ∷ codes "locations" ∷ codes "leaves" ∷ codes "ranges" ∷ []
keys_of_form form.Range = codes "from" ∷ codes "leaves" ∷ []

-- ---- values

abbrev pub text_of_data : Data → Result (List ℕ) (List ℕ)
text_of_data d = value_or_here (as_str d)

abbrev pub truth_in : Data → Result Bool (List ℕ)
truth_in d = value_or_here (as_bool d)

-- a whole number of the signed 64 bits
abbrev pub whole_in : Data → Result ℤ (List ℕ)
whole_in d = value_or_here (option_and_then as_i64 (as_number d))

-- a number for which the test holds
abbrev pub number_if : (ℕ → Bool) → ℕ → Option ℕ
number_if test n = if test n then Some n else None

abbrev pub number_of_data : (ℕ → Bool) → Data → Result ℕ (List ℕ)
number_of_data test d = value_or_here (option_and_then (number_if test) (option_and_then as_u64 (as_number d)))

-- ---- schemas

abbrev pub field_type_of : List ℕ → Option FieldType
field_type_of word =
    if same_text word (codes "text") then Some of.Text
    else if same_text word (codes "int") then Some of.Int
    else if same_text word (codes "bool") then Some of.Bool
    else None

abbrev pub field_type_in : Data → Result FieldType (List ℕ)
field_type_in d = value_or_here (option_and_then field_type_of (as_str d))

unfoldable pub target_field_in : Data → Result Field (List ℕ)
target_field_in d = do
  known ← object_of (keys_of_form form.TargetField) d
  name ← required_key (codes "name") text_of_data d
  typed ← required_key (codes "type") field_type_in d
  location ← optional_key false (codes "location") truth_in d
  Ok (record { name = name; of = typed; location = location })

unfoldable pub target_in : Data → Result TargetSchema (List ℕ)
target_in d = do
  known ← object_of (keys_of_form form.Target) d
  name ← required_key (codes "name") text_of_data d
  fields ← required_key (codes "fields") (list_in target_field_in) d
  Ok (record { name = name; fields = fields })

-- a metric's field says nothing of the location
unfoldable pub metric_field_in : Data → Result Field (List ℕ)
metric_field_in d = do
  known ← object_of (keys_of_form form.MetricField) d
  name ← required_key (codes "name") text_of_data d
  typed ← required_key (codes "type") field_type_in d
  Ok (record { name = name; of = typed; location = false })

abbrev pub kind_named : List ℕ → Option Kind
kind_named word =
    if same_text word (codes "gauge") then Some kind.Gauge
    else if same_text word (codes "delta") then Some kind.Delta
    else if same_text word (codes "cumulative") then Some kind.Cumulative
    else None

abbrev pub kind_in : Data → Result Kind (List ℕ)
kind_in d = value_or_here (option_and_then kind_named (as_str d))

-- a type, with no bounds yet
abbrev pub value_type_of : List ℕ → Option ValueType
value_type_of word =
    if same_text word (codes "int") then Some type.Int
    else if same_text word (codes "bool") then Some type.Bool
    else if same_text word (codes "text") then Some type.Text
    else if same_text word (codes "dist") then Some (type.Dist [])
    else None

abbrev pub value_type_in : Data → Result ValueType (List ℕ)
value_type_in d = value_or_here (option_and_then value_type_of (as_str d))

-- a metric has bounds exactly where it is a distribution
abbrev pub with_bounds : ValueType → Data → Result ValueType (List ℕ)
with_bounds (type.Dist none) d = required_key (codes "bounds") (list_in whole_in) d >>= λ bounds. Ok (type.Dist bounds)
with_bounds type.Int d = absent_key (codes "bounds") d >>= λ none. Ok type.Int
with_bounds type.Bool d = absent_key (codes "bounds") d >>= λ none. Ok type.Bool
with_bounds type.Text d = absent_key (codes "bounds") d >>= λ none. Ok type.Text

unfoldable pub metric_in : Data → Result MetricSchema (List ℕ)
metric_in d = do
  known ← object_of (keys_of_form form.Metric) d
  name ← required_key (codes "name") text_of_data d
  what ← required_key (codes "kind") kind_in d
  typed ← required_key (codes "type") value_type_in d
  bounded ← with_bounds typed d
  column ← required_key (codes "column") text_of_data d
  fields ← optional_key [] (codes "fields") (list_in metric_field_in) d
  Ok (record { name = name; kind = what; value = bounded; column = column; fields = fields })

-- ---- zones

-- a text, a truth value, or a whole number of the signed 64 bits
abbrev pub field_value_in : Data → Result FieldValue (List ℕ)
field_value_in (string text) = Ok (value.Text text)
field_value_in (boolean truth) = Ok (value.Bool truth)
field_value_in (number n) = value_or_here (option_map value.Int (as_i64 n))
field_value_in null = Err []
field_value_in (array elements) = Err []
field_value_in (object keys) = Err []

unfoldable pub range_in : Data → Result RangeSpec (List ℕ)
range_in d = do
  known ← object_of (keys_of_form form.Range) d
  bound ← required_key (codes "from") (list_in field_value_in) d
  leaves ← required_key (codes "leaves") (list_in text_of_data) d
  Ok (record { from = bound; leaves = leaves })

unfoldable pub zone_in : Data → Result ZoneSpec (List ℕ)
zone_in d = do
  known ← object_of (keys_of_form form.Zone) d
  name ← required_key (codes "name") text_of_data d
  locations ← required_key (codes "locations") (list_in text_of_data) d
  leaves ← required_key (codes "leaves") (list_in text_of_data) d
  ranges ← required_key (codes "ranges") (list_in range_in) d
  Ok (record { name = name; locations = locations; leaves = leaves; ranges = ranges })

-- ---- the whole

unfoldable pub parts_in : Data → Result Parts (List ℕ)
parts_in d = do
  known ← object_of (keys_of_form form.Configuration) d
  buckets ← optional_key 1024 (codes "buckets") (number_of_data is_bucket_count) d
  limit ← optional_key 1000000 (codes "limit") (number_of_data is_limit) d
  range_points ← optional_key 1000000 (codes "range_points") (number_of_data is_limit) d
  targets ← required_key (codes "targets") (list_in target_in) d
  metrics ← required_key (codes "metrics") (list_in metric_in) d
  zones ← required_key (codes "zones") (list_in zone_in) d
  Ok (record {
    buckets = buckets;
    limit = limit;
    range_points = range_points;
    targets = targets;
    metrics = metrics;
    zones = zones;
  })
