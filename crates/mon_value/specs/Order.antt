-- The order of values, of targets and of rows.
use Rattle.std.specs.Prelude.{List, [], ◌∷◌, if◌then◌else◌, ◌≡◌, ℕ, ◌++◌, map}
use Rattle.std.specs.Ordering.{is_gt, nat_cmp, int_cmp, bool_cmp, ordering_then}
use Rattle.std.specs.declared.cmp.Ordering.{Ordering}
use Rattle.std.specs.Cmp.Lexicographic.{slice_cmp}
use Rattle.std.specs.declared.cmp.Ordering.TheVariants.{Less, Equal, Greater}
use Rattle.mon_value.specs.declared.rows.Target.{Target}
use Rattle.mon_value.specs.declared.tables.TimedRow.{TimedRow}
use Rattle.mon_value.specs.declared.values.FieldValue.{FieldValue}
use Rattle.mon_value.specs.declared.values.FieldValue.TheVariants as field
use Rattle.mon_value.specs.declared.values.Value.{Value}
use Rattle.mon_value.specs.declared.values.Value.TheVariants as value
use Rattle.mon_value.specs.declared.grids.TimedValue.{TimedValue}
use Rattle.mon_value.specs.declared.rows.SeriesKey.{SeriesKey}

-- Lists in order.

module _ {A : Type 0} (order : A → A → Ordering) where
  -- a sorted list with an item more, behind those that it comes after
  abbrev pub sorted_list_with : A → List A → List A
  sorted_list_with item [] = item ∷ []
  sorted_list_with item (next ∷ items) =
      if is_gt (order item next) then next ∷ sorted_list_with item items else item ∷ next ∷ items

  -- the items in their order
  abbrev pub sorted_list : List A → List A
  sorted_list [] = []
  sorted_list (item ∷ items) = sorted_list_with item (sorted_list items)

-- The order of values, of targets and of rows.

-- texts by their bytes
abbrev pub text_cmp : List ℕ → List ℕ → Ordering
text_cmp = slice_cmp nat_cmp

-- whole numbers, then truth values, then texts, then distributions, each kind by its own order
abbrev pub value_cmp : Value → Value → Ordering
value_cmp (value.Int y) (value.Int z) = int_cmp y z
value_cmp (value.Int y) b = Less
value_cmp (value.Bool p) (value.Int z) = Greater
value_cmp (value.Bool p) (value.Bool q) = bool_cmp p q
value_cmp (value.Bool p) b = Less
value_cmp (value.Text s) (value.Text t) = text_cmp s t
value_cmp (value.Text s) (value.Dist counts) = Less
value_cmp (value.Text s) b = Greater
value_cmp (value.Dist counts) (value.Dist others) = slice_cmp nat_cmp counts others
value_cmp (value.Dist counts) b = Greater

-- a field's value as a value
abbrev pub field_as_value : FieldValue → Value
field_as_value (field.Int z) = value.Int z
field_as_value (field.Bool p) = value.Bool p
field_as_value (field.Text s) = value.Text s

-- fields by the same rules
abbrev pub field_cmp : FieldValue → FieldValue → Ordering
field_cmp a b = value_cmp (field_as_value a) (field_as_value b)

-- by the schema's name, and then by the fields in their order
abbrev pub target_cmp : Target → Target → Ordering
target_cmp a b = ordering_then (text_cmp a.schema b.schema) (slice_cmp field_cmp a.fields b.fields)

-- rows stand by time, and then column by column
abbrev pub row_cmp : TimedRow → TimedRow → Ordering
row_cmp a b = ordering_then (int_cmp a.time b.time) (slice_cmp value_cmp a.cells b.cells)

-- the rows in their order
abbrev pub sorted_rows : List TimedRow → List TimedRow
sorted_rows = sorted_list row_cmp

-- what the order does not tell apart is equal
abbrev pub TellsApart : {K : Type 0} → (K → K → Ordering) → Type 0
TellsApart {K} order = (a b : K) → order a b ≡ Equal → a ≡ b

-- A series in a table: its fields are the key cells of its rows.

-- the cells of a row: the target's fields, the metric's, and the value
abbrev pub cells_of : SeriesKey → Value → List Value
cells_of key value = map field_as_value key.target.fields ++ map field_as_value key.fields ++ value ∷ []

-- the row of what a series has at a time
abbrev pub row_of : SeriesKey → TimedValue → TimedRow
row_of key timed = record { time = timed.time; cells = cells_of key timed.value }
