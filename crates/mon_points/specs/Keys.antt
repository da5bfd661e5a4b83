-- Whether a record's cells spell a key that is held.
use Rattle.std.specs.Prelude.{ℕ, ◌&&◌, Bool, true, false, List, [], ◌∷◌, length, drop, Option, Some, None}
use Rattle.mon_value.specs.Same.{same_field, same_text}
use Rattle.mon_value.specs.declared.values.FieldType.{FieldType}
use Rattle.mon_value.specs.declared.values.FieldValue.{FieldValue}
use Rattle.mon_value.specs.declared.schemas.Field.{Field}
use Rattle.mon_value.specs.declared.schemas.TargetSchema.{TargetSchema}
use Rattle.mon_value.specs.declared.schemas.MetricSchema.{MetricSchema}
use Rattle.mon_value.specs.declared.rows.SeriesKey.{SeriesKey}
use Rattle.mon_points.specs.Records.{field_of}

abbrev pub is_value : Option FieldValue → FieldValue → Bool
is_value None value = false
is_value (Some spelled) value = same_field spelled value

-- the cell spells the field's value
abbrev pub spells_field : FieldType → List ℕ → FieldValue → Bool
spells_field type cell value = is_value (field_of type cell) value

-- the cells spell the values of the fields, one each
abbrev pub spells_fields : List Field → List (List ℕ) → List FieldValue → Bool
spells_fields [] cells [] = true
spells_fields [] cells (value ∷ values) = false
spells_fields (field ∷ fields) cells [] = false
spells_fields (field ∷ fields) [] (value ∷ values) = false
spells_fields (field ∷ fields) (cell ∷ cells) (value ∷ values) =
    spells_field field.of cell value && spells_fields fields cells values

-- the cells behind the leading ones spell the key of a series of these schemas
abbrev pub spells_key : TargetSchema → MetricSchema → List (List ℕ) → SeriesKey → Bool
spells_key target metric cells key =
    (same_text key.target.schema target.name && spells_fields target.fields cells key.target.fields)
    && (same_text key.metric metric.name
    && spells_fields metric.fields (drop (length target.fields) cells) key.fields)
