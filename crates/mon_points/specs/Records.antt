-- What the records of a points file read as, cell by cell, and what their faults print as.
use Rattle.std.specs.Prelude.{ℕ, ℤ, pos, negsuc, ◌==◌, Bool, true, false, List, [], ◌∷◌, codes, Option, Some, None}
use Rattle.std.specs.Prelude.{option_map, if◌then◌else◌, ◌+◌, length, map, drop, Result, Ok, Err, ◌++◌}
use Rattle.std.specs.List.{slice_split, list_all}
use Rattle.std.specs.Option.{option_and_then, option_zip, ok_or}
use Rattle.std.specs.Str.{is_utf8}
use Rattle.std.specs.Fmt.{decimal}
use Rattle.mon_value.specs.Values.{number_of, semicolon}
use Rattle.mon_value.specs.Same.{same_text}
use Rattle.mon_value.specs.declared.values.FieldType.{FieldType}
use Rattle.mon_value.specs.declared.values.FieldType.TheVariants as type
use Rattle.mon_value.specs.declared.values.FieldValue.{FieldValue}
use Rattle.mon_value.specs.declared.values.FieldValue.TheVariants as field
use Rattle.mon_value.specs.declared.values.ValueType.{ValueType}
use Rattle.mon_value.specs.declared.values.ValueType.TheVariants as of
use Rattle.mon_value.specs.declared.values.Value.{Value}
use Rattle.mon_value.specs.declared.values.Value.TheVariants as value
use Rattle.mon_value.specs.declared.schemas.Kind.{Kind}
use Rattle.mon_schema.specs.Fits.{field_fits, is_number, times_fit, value_fits}
use Rattle.csv.specs.Reading.{default_config, records, strip_bom}
use Rattle.mon_value.specs.Answers.{◌>>=◌}
use Rattle.mon_value.specs.declared.schemas.Field.{Field}
use Rattle.mon_value.specs.declared.schemas.TargetSchema.{TargetSchema}
use Rattle.mon_value.specs.declared.schemas.MetricSchema.{MetricSchema}
use Rattle.mon_value.specs.declared.rows.SeriesKey.{SeriesKey}
use Rattle.mon_value.specs.declared.rows.Point.{Point}
use Rattle.mon_value.specs.declared.rows.Row.{Row}
use Rattle.mon_schema.specs.Names.{SchemaLists, target_named, metric_named}
use Rattle.mon_points.specs.declared.faults.RowFault.{RowFault}
use Rattle.mon_points.specs.declared.faults.RowFault.TheVariants as fault
use Rattle.mon_points.specs.declared.records.RowRead.{RowRead}
use Rattle.mon_points.specs.declared.records.RowRead.TheVariants as read

-- What the cells of a record of points spell, and which of that fits.

-- what is there, where it passes the test
abbrev pub option_filter : {A : Type 0} → (A → Bool) → Option A → Option A
option_filter test None = None
option_filter test (Some x) = if test x then Some x else None

-- a number of 64 bits
abbrev pub int_of : List ℕ → Option ℤ
int_of text = option_filter is_number (number_of text)

abbrev pub truth_of : List ℕ → Option Bool
truth_of text =
    if same_text text (codes "true") then Some true
    else if same_text text (codes "false") then Some false
    else None

-- a count is a number that is not negative
abbrev pub natural_of : ℤ → Option ℕ
natural_of (pos n) = Some n
natural_of (negsuc n) = None

abbrev pub count_of : List ℕ → Option ℕ
count_of text = option_and_then natural_of (number_of text)

-- the counts that all of these texts spell
abbrev pub counts_of_texts : List (List ℕ) → Option (List ℕ)
counts_of_texts [] = Some []
counts_of_texts (text ∷ texts) = option_map (λ counts. counts.0 ∷ counts.1)
    (option_zip (count_of text) (counts_of_texts texts))

-- the counts between semicolons, of any number and size
abbrev pub counts_spelled : List ℕ → Option (List ℕ)
counts_spelled text = counts_of_texts (slice_split (λ byte. byte == semicolon) text)

-- the value of a type that a text spells, of any size
abbrev pub value_in : ValueType → List ℕ → Option Value
value_in of.Int text = option_map (λ z. value.Int z) (number_of text)
value_in of.Bool text = option_map (λ b. value.Bool b) (truth_of text)
value_in of.Text text = Some (value.Text text)
value_in (of.Dist bounds) text = option_map (λ counts. value.Dist counts) (counts_spelled text)

-- the same of a field
abbrev pub field_in : FieldType → List ℕ → Option FieldValue
field_in type.Int text = option_map (λ z. field.Int z) (number_of text)
field_in type.Bool text = option_map (λ b. field.Bool b) (truth_of text)
field_in type.Text text = Some (field.Text text)

-- the value of a point: what its cell spells, where that fits the metric's type
abbrev pub value_of : ValueType → List ℕ → Option Value
value_of type text = option_filter (value_fits type) (value_in type text)

-- the value of a field: what its cell spells, where that fits the field's type
abbrev pub field_of : FieldType → List ℕ → Option FieldValue
field_of type text = option_filter (field_fits type) (field_in type text)

-- the start and the end of a point, where they fit the metric's kind
abbrev pub times_of : Kind → List ℕ → List ℕ → Option (ℤ × ℤ)
times_of kind start end =
    option_filter (λ times. times_fit kind times.0 times.1) (option_zip (number_of start) (number_of end))

-- What the records of a points file read as.

-- the values of fields that are numbered on from n, or the first bad one
abbrev pub fields_read : ℕ → List Field → List (List ℕ) → Result (List FieldValue) RowFault
fields_read n [] cells = Ok []
fields_read n (field ∷ fields) [] = Err (fault.BadField n)
fields_read n (field ∷ fields) (cell ∷ cells) = do
  value ← ok_or (field_of field.of cell) (fault.BadField n)
  values ← fields_read (n + 1) fields cells
  Ok (value ∷ values)

-- the point of a record of this metric
unfoldable pub point_read : MetricSchema → List ℕ → List ℕ → List ℕ → Result Point RowFault
point_read metric start end value = do
  times ← ok_or (times_of metric.kind start end) fault.BadTime
  spelled ← ok_or (value_of metric.value value) fault.BadValue
  Ok (record { start = times.0; end = times.1; value = spelled })

-- the series of a record whose field cells are these, the target's before the metric's
unfoldable pub key_read : TargetSchema → MetricSchema → List (List ℕ) → Result SeriesKey RowFault
key_read target metric cells = do
  of_target ← fields_read 1 target.fields cells
  of_metric ← fields_read (length target.fields + 1) metric.fields (drop (length target.fields) cells)
  Ok (record {
    target = record { schema = target.name; fields = of_target };
    metric = metric.name;
    fields = of_metric;
  })

-- one cell for each field
abbrev pub field_cells : TargetSchema → MetricSchema → List (List ℕ) → Result (List (List ℕ)) RowFault
field_cells target metric cells =
    if length cells == length target.fields + length metric.fields then Ok cells else Err fault.Fields

-- a record is the schema, the metric, the start, the end and the value, and then the fields: its row, or
-- its first fault
unfoldable pub row_read : SchemaLists → List (List ℕ) → Result Row RowFault
row_read schemas (schema ∷ metric ∷ start ∷ end ∷ value ∷ rest) = do
  target ← ok_or (target_named schema schemas.targets) fault.UnknownSchema
  measured ← ok_or (metric_named metric schemas.metrics) fault.UnknownMetric
  cells ← field_cells target measured rest
  point ← point_read measured start end value
  key ← key_read target measured cells
  Ok (record { key = key; point = point })
row_read schemas cells = Err fault.Fields

abbrev pub read_as : Result Row RowFault → RowRead
read_as (Ok row) = read.Row row
read_as (Err fault) = read.Fault fault

-- a record with a cell that is not UTF-8 reads as that fault, before any other
abbrev pub record_read : SchemaLists → List (List ℕ) → RowRead
record_read schemas cells =
    if list_all is_utf8 cells then read_as (row_read schemas cells) else read.Fault fault.NotUtf8

-- the records of a file, behind a byte order mark if there is one, each read
abbrev pub reads_of : SchemaLists → List ℕ → List RowRead
reads_of schemas bytes = map (record_read schemas) (records default_config (strip_bom bytes))

-- What the faults of a record print as.

abbrev pub row_fault_text : RowFault → List ℕ
row_fault_text fault.Fields = codes "Fields"
row_fault_text fault.UnknownSchema = codes "UnknownSchema"
row_fault_text fault.UnknownMetric = codes "UnknownMetric"
row_fault_text (fault.BadField number) = codes "BadField " ++ decimal number
row_fault_text fault.BadTime = codes "BadTime"
row_fault_text fault.BadValue = codes "BadValue"
row_fault_text fault.NotUtf8 = codes "NotUtf8"
