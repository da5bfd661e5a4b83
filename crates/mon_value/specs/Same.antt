-- Whether two things are the same: tests that compute, for what is told apart by a key, and lists by such keys.
use Rattle.std.specs.Prelude.{ℕ, Bool, true, false, ◌&&◌, List, nat_eq, not, [], ◌∷◌, map, filter, ◌||◌, ◌++◌, drop}
use Rattle.std.specs.Prelude.{length}
use Rattle.std.specs.Cmp.Lexicographic.{pointwise}
use Rattle.std.specs.Ordering.{int_eq}
use Rattle.std.specs.List.{starts_with}
use Rattle.mon_value.specs.declared.rows.SeriesKey.{SeriesKey}
use Rattle.mon_value.specs.declared.rows.Target.{Target}
use Rattle.mon_value.specs.declared.tables.TimedRow.{TimedRow}
use Rattle.mon_value.specs.declared.values.FieldValue.{FieldValue}
use Rattle.mon_value.specs.declared.values.FieldValue.TheVariants as field
use Rattle.mon_value.specs.declared.values.Value.{Value}
use Rattle.mon_value.specs.declared.values.Value.TheVariants as value

-- Whether two things are the same: tests that compute, for what is told apart by a key.

abbrev pub same_text : List ℕ → List ℕ → Bool
same_text = pointwise nat_eq

abbrev pub same_truth : Bool → Bool → Bool
same_truth true b = b
same_truth false b = not b

-- whether two fields are of one type and hold the same
abbrev pub same_field : FieldValue → FieldValue → Bool
same_field (field.Int y) (field.Int z) = int_eq y z
same_field (field.Bool b) (field.Bool c) = same_truth b c
same_field (field.Text s) (field.Text t) = same_text s t
same_field (field.Int y) b = false
same_field (field.Bool p) b = false
same_field (field.Text s) b = false

-- whether two cells are of one kind and hold the same
abbrev pub same_value : Value → Value → Bool
same_value (value.Int y) (value.Int z) = int_eq y z
same_value (value.Bool p) (value.Bool q) = same_truth p q
same_value (value.Text s) (value.Text t) = same_text s t
same_value (value.Dist counts) (value.Dist others) = pointwise nat_eq counts others
same_value (value.Int y) b = false
same_value (value.Bool p) b = false
same_value (value.Text s) b = false
same_value (value.Dist counts) b = false

abbrev pub same_target : Target → Target → Bool
same_target a b = same_text a.schema b.schema && pointwise same_field a.fields b.fields

-- whether two keys name one series
abbrev pub same_series : SeriesKey → SeriesKey → Bool
same_series a b =
    same_target a.target b.target && (same_text a.metric b.metric && pointwise same_field a.fields b.fields)

-- whether two rows have one time and the same cells
abbrev pub same_row : TimedRow → TimedRow → Bool
same_row a b = int_eq a.time b.time && pointwise same_value a.cells b.cells

-- Items by key: rows by series, and rows of a table by group.

module _ {K A : Type 0} (same : K → K → Bool) (key_of : A → K) where
  -- the keys that occur, in the order of their first items
  abbrev pub keys_of : List A → List K
  keys_of [] = []
  keys_of (item ∷ items) = key_of item ∷ filter (λ key. not (same (key_of item) key)) (keys_of items)

  -- the items of a key, in their order
  abbrev pub items_with : K → List A → List A
  items_with key items = filter (λ item. same key (key_of item)) items

  -- each key that occurs with its items
  abbrev pub items_by_key : List A → List (K × List A)
  items_by_key items = map (λ key. (key, items_with key items)) (keys_of items)

-- Which texts a pattern matches.

-- the text is the pieces in order, with any texts between them
pub data IsMatch : List (List ℕ) → List ℕ → Type 0 where
  last_piece : {piece : List ℕ} → IsMatch (piece ∷ []) piece
  next_piece : {piece rest : List ℕ} {pieces : List (List ℕ)} (between : List ℕ) → IsMatch pieces rest →
      IsMatch (piece ∷ pieces) (piece ++ between ++ rest)

-- whether a test holds of what stands behind some front of a text
abbrev pub holds_behind : (List ℕ → Bool) → List ℕ → Bool
holds_behind test [] = test []
holds_behind test (byte ∷ bytes) = test (byte ∷ bytes) || holds_behind test bytes

-- the same, computed: the text begins with the first piece, and the others match what stands behind it and any text
abbrev pub is_match : List (List ℕ) → List ℕ → Bool
is_match [] text = false
is_match (piece ∷ []) text = same_text piece text
is_match (piece ∷ next ∷ pieces) text =
    starts_with nat_eq text piece && holds_behind (is_match (next ∷ pieces)) (drop (length piece) text)
