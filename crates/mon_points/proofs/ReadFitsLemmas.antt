-- Each row that is read is of schemas that are held.
use Rattle.std.proofs.Common.{◌≡◌, ◌∙◌, ℕ, ℤ, ◌+◌, ◌&&◌, Bool, true, false, cond, List, [], ◌∷◌, length, map, drop}
use Rattle.std.proofs.Common.{Option, Some, None, Result, Ok, Err, refl, subst, ap}
use Rattle.std.specs.List.{AllByRecursion, list_all}
use Rattle.std.specs.Option.{ok_or, option_zip}
use Rattle.std.specs.Str.{is_utf8}
use Rattle.std.proofs.lemmas.Bool.{and_from}
use Rattle.csv.specs.Reading.{default_config, records, strip_bom}
use Rattle.mon_value.specs.Answers.{◌>>=◌}
use Rattle.mon_value.specs.Values.{number_of}
use Rattle.mon_value.specs.declared.values.FieldValue.{FieldValue}
use Rattle.mon_value.specs.declared.schemas.Field.{Field}
use Rattle.mon_value.specs.declared.schemas.TargetSchema.{TargetSchema}
use Rattle.mon_value.specs.declared.schemas.MetricSchema.{MetricSchema}
use Rattle.mon_value.specs.declared.rows.SeriesKey.{SeriesKey}
use Rattle.mon_value.specs.declared.rows.Point.{Point}
use Rattle.mon_value.specs.declared.rows.Row.{Row}
use Rattle.mon_schema.proofs.NamedLemmas.{first_named-name}
use Rattle.mon_schema.specs.Names.{SchemaLists, first_named, target_named, metric_named}
use Rattle.mon_schema.specs.Fits.{field_fits, fields_fit, fits, fits_both, times_fit, value_fits}
use Rattle.mon_points.specs.Records.{field_in, field_of, times_of, value_in, value_of, field_cells, fields_read}
use Rattle.mon_points.specs.Records.{key_read, point_read, read_as, reads_of, record_read, row_read}
use Rattle.mon_points.specs.Fitting.{ReadFits}
use Rattle.mon_points.specs.declared.faults.RowFault.{RowFault}
use Rattle.mon_points.specs.declared.faults.RowFault.TheVariants as fault
use Rattle.mon_points.specs.declared.records.RowRead.TheVariants as read
use Rattle.mon_points.proofs.OptionFilterLemmas.{option_filter-some}

-- ---- steps

-- what two steps make is made by the second, of what the first makes
steps : {A B P : Type 0} (first : Result A RowFault) (next : A → Result B RowFault) (y : B) → first >>= next ≡ Ok y
    → ((x : A) → first ≡ Ok x → next x ≡ Ok y → P) → P
steps (Err fault) next y e then = cc
steps (Ok x) next y e then = then x refl e

there : {A : Type 0} (o : Option A) (fault : RowFault) (x : A) → ok_or o fault ≡ Ok x → o ≡ Some x
there None fault x e = cc
there (Some y) fault x e = cc

same_Ok : {A : Type 0} (x y : A) → ◌≡◌ {A = Result A RowFault} (Ok x) (Ok y) → x ≡ y
same_Ok x y e = cc

-- a schema is found again by the name that it has
again : {S : Type 0} (name_of : S → List ℕ) (name : List ℕ) (schemas : List S) (found : S)
    → first_named name_of name schemas ≡ Some found → first_named name_of (name_of found) schemas ≡ Some found
again name_of name schemas found e =
    subst (λ n. first_named name_of n schemas ≡ Some found) (first_named-name name_of name schemas found e) e

-- ---- fields, points and keys

fields_spelled : (n : ℕ) (fields : List Field) (cells : List (List ℕ)) (values : List FieldValue)
    → fields_read n fields cells ≡ Ok values → fields_fit fields values ≡ true
fields_spelled n [] cells values e = subst (λ vs. fields_fit [] vs ≡ true) (same_Ok [] values e) refl
fields_spelled n (field ∷ fields) [] values e = cc
fields_spelled n (field ∷ fields) (cell ∷ cells) values e =
    steps (ok_or (field_of field.of cell) (fault.BadField n)) _ values e (λ v is rest.
    steps (fields_read (n + 1) fields cells) _ values rest (λ vs are all.
    subst (λ ws. fields_fit (field ∷ fields) ws ≡ true) (same_Ok (v ∷ vs) values all)
    (and_from (field_fits field.of v) (fields_fit fields vs) (option_filter-some (field_fits field.of)
    (field_in field.of cell) v (there _ (fault.BadField n) v is)).0 (fields_spelled (n + 1) fields cells vs are))))

abbrev point_fits : MetricSchema → Point → Bool
point_fits metric point = times_fit metric.kind point.start point.end && value_fits metric.value point.value

point_spelled : (metric : MetricSchema) (start end text : List ℕ) (point : Point)
    → point_read metric start end text ≡ Ok point → point_fits metric point ≡ true
unfolding point_read
point_spelled metric start end text point e =
    steps (ok_or (times_of metric.kind start end) fault.BadTime) _ point e (λ times is rest.
    steps (ok_or (value_of metric.value text) fault.BadValue) _ point rest (λ v spelled all.
    let made : Point = record { start = times.0; end = times.1; value = v } in
    subst (λ p. point_fits metric p ≡ true) (same_Ok made point all)
    (and_from (times_fit metric.kind times.0 times.1) (value_fits metric.value v)
    (option_filter-some (λ (pair : ℤ × ℤ). times_fit metric.kind pair.0 pair.1)
    (option_zip (number_of start) (number_of end)) times (there _ fault.BadTime times is)).0
    (option_filter-some (value_fits metric.value) (value_in metric.value text) v
    (there _ fault.BadValue v spelled)).0)))

-- a key has the names of its schemas, and values that fit their fields
record IsOf (target : TargetSchema) (metric : MetricSchema) (key : SeriesKey) : Type 0 where
  schema : key.target.schema ≡ target.name
  name : key.metric ≡ metric.name
  fields : (fields_fit target.fields key.target.fields && fields_fit metric.fields key.fields) ≡ true

key_spelled : (target : TargetSchema) (metric : MetricSchema) (cells : List (List ℕ)) (key : SeriesKey)
    → key_read target metric cells ≡ Ok key → IsOf target metric key
unfolding key_read
key_spelled target metric cells key e =
    steps (fields_read 1 target.fields cells) _ key e (λ of_target are rest.
    steps (fields_read (length target.fields + 1) metric.fields (drop (length target.fields) cells)) _ key rest
    (λ of_metric others all.
    let made : SeriesKey = record {
      target = record { schema = target.name; fields = of_target };
      metric =
          metric.name;
      fields = of_metric;
    } in
    subst (IsOf target metric) (same_Ok made key all) (record {
      schema = refl;
      name = refl;
      fields = and_from (fields_fit target.fields of_target) (fields_fit metric.fields of_metric)
          (fields_spelled 1 target.fields cells of_target are) (fields_spelled _ metric.fields _ of_metric others);
    })))

-- ---- rows

row_of : (schemas : SchemaLists) (target : TargetSchema) (metric : MetricSchema) (key : SeriesKey) (point : Point)
    → target_named target.name schemas.targets ≡ Some target
    → metric_named metric.name schemas.metrics ≡ Some metric → IsOf target metric key
    → point_fits metric point ≡ true → fits schemas (record { key = key; point = point }) ≡ true
row_of schemas target metric key point held measured is fitting =
    let row : Row = record { key = key; point = point } in
    let t : target_named key.target.schema schemas.targets ≡ Some target = ap (λ n. target_named n schemas.targets)
    is.schema ∙ held in
    let m : metric_named key.metric schemas.metrics ≡ Some metric = ap (λ n. metric_named n schemas.metrics) is.name
    ∙ measured in
    ap (λ found. fits_both found (metric_named key.metric schemas.metrics) row) t
    ∙ (ap (λ found. fits_both (Some target) found row) m
    ∙ and_from (fields_fit target.fields key.target.fields && fields_fit metric.fields key.fields)
    (point_fits metric point) is.fields fitting)

row_fits : (schemas : SchemaLists) (cells : List (List ℕ)) (row : Row) → row_read schemas cells ≡ Ok row
    → fits schemas row ≡ true
unfolding row_read
row_fits schemas [] row e = cc
row_fits schemas (a ∷ []) row e = cc
row_fits schemas (a ∷ b ∷ []) row e = cc
row_fits schemas (a ∷ b ∷ c ∷ []) row e = cc
row_fits schemas (a ∷ b ∷ c ∷ d ∷ []) row e = cc
row_fits schemas (schema ∷ metric ∷ start ∷ end ∷ value ∷ rest) row e =
    steps (ok_or (target_named schema schemas.targets) fault.UnknownSchema) _ row e (λ target held next.
    steps (ok_or (metric_named metric schemas.metrics) fault.UnknownMetric) _ row next (λ measured known next.
    steps (field_cells target measured rest) _ row next (λ cells enough next.
    steps (point_read measured start end value) _ row next (λ point spelled next.
    steps (key_read target measured cells) _ row next (λ key are all.
    subst (λ r. fits schemas r ≡ true) (same_Ok (record { key = key; point = point }) row all)
    (row_of schemas target measured key point
    (again (λ (s : TargetSchema). s.name) schema schemas.targets target (there _ fault.UnknownSchema target held))
    (again (λ (m : MetricSchema). m.name) metric schemas.metrics measured (there _ fault.UnknownMetric measured known))
    (key_spelled target measured cells key are)
    (point_spelled measured start end value point spelled)))))))

-- ---- records

read_fits : (schemas : SchemaLists) (row : Result Row RowFault)
    → ((r : Row) → row ≡ Ok r → fits schemas r ≡ true) → ReadFits schemas (read_as row)
read_fits schemas (Ok row) all = all row refl
read_fits schemas (Err fault) all = tt

record_fits : (schemas : SchemaLists) (texts : Bool) (row : Result Row RowFault)
    → ((r : Row) → row ≡ Ok r → fits schemas r ≡ true)
    → ReadFits schemas (cond texts (read_as row) (read.Fault fault.NotUtf8))
record_fits schemas true row all = read_fits schemas row all
record_fits schemas false row all = tt

-- a row that is read from a record fits its schemas
pub one_fits : (schemas : SchemaLists) (cells : List (List ℕ)) → ReadFits schemas (record_read schemas cells)
one_fits schemas cells =
    record_fits schemas (list_all is_utf8 cells) (row_read schemas cells) (row_fits schemas cells)

all_fit : (schemas : SchemaLists) (rows : List (List (List ℕ)))
    → AllByRecursion (ReadFits schemas) (map (record_read schemas) rows)
all_fit schemas [] = tt
all_fit schemas (cells ∷ rows) = (one_fits schemas cells, all_fit schemas rows)

-- every row that is read from a file fits its schemas
pub reads_fit : (schemas : SchemaLists) (bytes : List ℕ) → AllByRecursion (ReadFits schemas) (reads_of schemas bytes)
reads_fit schemas bytes = all_fit schemas (records default_config (strip_bom bytes))
