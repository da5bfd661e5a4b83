-- A key that a record's cells spell is the key that they read as.
use Rattle.std.proofs.Common.{◌≡◌, ℕ, ◌+◌, ◌<◌, ◌≤◌, ◌&&◌, true, false, List, [], ◌∷◌, length, get_or, drop, Option}
use Rattle.std.proofs.Common.{Some, None, Ok, refl, ap, arith}
use Rattle.std.proofs.lemmas.Bool.{and_parts, false_from_ne_true, false≢true}
use Rattle.std.proofs.lemmas.List.{drop_all}
use Rattle.csv.specs.Records.{field_at}
use Rattle.mon_value.specs.Same.{same_text}
use Rattle.mon_value.specs.declared.values.FieldValue.{FieldValue}
use Rattle.mon_value.specs.declared.schemas.Field.{Field}
use Rattle.mon_value.specs.declared.schemas.TargetSchema.{TargetSchema}
use Rattle.mon_value.specs.declared.schemas.MetricSchema.{MetricSchema}
use Rattle.mon_value.specs.declared.rows.SeriesKey.{SeriesKey}
use Rattle.mon_value.proofs.SameLemmas.{same_field-Decides, same_text-Decides}
use Rattle.mon_points.specs.Records.{field_of, fields_read, key_read}
use Rattle.mon_points.specs.Keys.{is_value, spells_field, spells_fields, spells_key}
use Rattle.mon_points.proofs.FieldsReadLemmas.{cell_here, item_here}

is_value-some : (o : Option FieldValue) (value : FieldValue) → is_value o value ≡ true → o ≡ Some value
is_value-some None value e = absurd (false≢true e)
is_value-some (Some spelled) value e = ap (λ v. Some v) ((same_field-Decides spelled value).0 e)

spells_fields-read : (n : ℕ) (fields : List Field) (cells : List (List ℕ)) (values : List FieldValue)
    → spells_fields fields cells values ≡ true → fields_read n fields cells ≡ Ok values
spells_fields-read n [] cells [] e = refl
spells_fields-read n [] cells (value ∷ values) e = absurd (false≢true e)
spells_fields-read n (field ∷ fields) cells [] e = absurd (false≢true e)
spells_fields-read n (field ∷ fields) [] (value ∷ values) e = absurd (false≢true e)
spells_fields-read n (field ∷ fields) (cell ∷ cells) (value ∷ values) e =
    let parts = and_parts (spells_field field.of cell value) (spells_fields fields cells values) e in
    rw (is_value-some (field_of field.of cell) value parts.0, spells_fields-read (n + 1) fields cells values parts.1)
    refl

pub spells_key-read : (target : TargetSchema) (metric : MetricSchema) (cells : List (List ℕ)) (key : SeriesKey)
    → spells_key target metric cells key ≡ true → key_read target metric cells ≡ Ok key
unfolding key_read
spells_key-read target metric cells key e =
    let of_target = spells_fields target.fields cells key.target.fields in
    let others = drop (length target.fields) cells in
    let of_metric = spells_fields metric.fields others key.fields in
    let both = and_parts (same_text key.target.schema target.name && of_target) (same_text key.metric metric.name
    && of_metric) e in
    let first = and_parts (same_text key.target.schema target.name) of_target both.0 in
    let second = and_parts (same_text key.metric metric.name) of_metric both.1 in
    let schema = (same_text-Decides key.target.schema target.name).0 first.0 in
    let name = (same_text-Decides key.metric metric.name).0 second.0 in
    rw (
      spells_fields-read 1 target.fields cells key.target.fields first.1,
      spells_fields-read (length target.fields + 1) metric.fields others key.fields second.1,
      ← schema,
      ← name,
    ) refl

-- one more field
pub spells_fields-more : (place i : ℕ) (fields : List Field) (cells : List (List ℕ)) (values : List FieldValue)
    (field : Field) (cell : List ℕ) (value : FieldValue)
    → i < length fields → i < length values → field ≡ get_or fields i field → value ≡ get_or values i value
    → field_at cells (place + i) ≡ Some cell
    → spells_fields (drop i fields) (drop (place + i) cells) (drop i values)
    ≡ (spells_field field.of cell value
    && spells_fields (drop (i + 1) fields) (drop (place + (i + 1)) cells) (drop (i + 1) values))
spells_fields-more place i fields cells values field cell value l m at_field at_value at_cell =
    rw (item_here fields i field l at_field, cell_here cells place i cell at_cell, item_here values i value m at_value)
    refl

-- no field more
pub spells_fields-none : (i : ℕ) (fields : List Field) (cells : List (List ℕ)) (values : List FieldValue)
    → length fields ≤ i → length values ≤ i → spells_fields (drop i fields) cells (drop i values) ≡ true
spells_fields-none i fields cells values l m = rw (drop_all i fields l, drop_all i values m) refl

-- as many values as fields
fields-length : (fields : List Field) (cells : List (List ℕ)) (values : List FieldValue)
    → spells_fields fields cells values ≡ true → length fields ≡ length values
fields-length [] cells [] e = refl
fields-length [] cells (value ∷ values) e = absurd (false≢true e)
fields-length (field ∷ fields) cells [] e = absurd (false≢true e)
fields-length (field ∷ fields) [] (value ∷ values) e = absurd (false≢true e)
fields-length (field ∷ fields) (cell ∷ cells) (value ∷ values) e =
    let parts = and_parts (spells_field field.of cell value) (spells_fields fields cells values) e in
    let rest = fields-length fields cells values parts.1 in omega arith

pub spells_fields-unlike : (fields : List Field) (cells : List (List ℕ)) (values : List FieldValue)
    → (length fields ≡ length values → ⊥) → spells_fields fields cells values ≡ false
spells_fields-unlike fields cells values h =
    false_from_ne_true (spells_fields fields cells values) (λ e. h (fields-length fields cells values e))
