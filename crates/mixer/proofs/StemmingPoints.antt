-- The homes of the points that reach a part say what its filters fix, and the rows of their alignment stem from them.
use Rattle.std.proofs.Common.{◌≡◌, ◌∙◌, ℕ, suc, ◌+◌, Bool, true, false, cond, Some, None, List, [], ◌∷◌, ◌++◌, map}
use Rattle.std.proofs.Common.{refl, sym, ap, subst, arith}
use Rattle.std.specs.Prelude.{slice_get}
use Rattle.std.specs.List.{AllByRecursion}
use Rattle.mon_value.specs.Grids.{aligned_values}
use Rattle.mon_value.specs.Order.{field_as_value, cells_of, row_of}
use Rattle.mon_value.specs.Same.{same_series, same_text}
use Rattle.mon_value.specs.LeafHistories.{key_of_row, points_by_series, points_of, series_of}
use Rattle.mon_value.specs.declared.aligners.Aligner.{Aligner}
use Rattle.mon_value.specs.declared.columns.Anchor.{Anchor}
use Rattle.mon_value.specs.declared.columns.Anchor.TheVariants as anchor
use Rattle.mon_value.specs.declared.columns.Column.{Column}
use Rattle.mon_value.specs.declared.grids.Grid.{Grid}
use Rattle.mon_value.specs.declared.rows.Point.{Point}
use Rattle.mon_value.specs.declared.rows.Row.{Row}
use Rattle.mon_value.specs.declared.rows.SeriesKey.{SeriesKey}
use Rattle.mon_value.specs.declared.rows.Target.{Target}
use Rattle.mon_value.specs.declared.schemas.Field.{Field}
use Rattle.mon_value.specs.declared.schemas.MetricSchema.{MetricSchema}
use Rattle.mon_value.specs.declared.schemas.TargetSchema.{TargetSchema}
use Rattle.mon_value.specs.declared.tables.TimedRow.{TimedRow}
use Rattle.mon_value.specs.declared.values.FieldValue.{FieldValue}
use Rattle.mon_value.specs.declared.values.Value.{Value}
use Rattle.mon_value.proofs.PlainLemmas.{all_both, and_both}
use Rattle.mon_value.proofs.SameLemmas.{same_series-Decides, same_text-Decides}
use Rattle.mon_schema.specs.Fits.{field_fits, fields_fit}
use Rattle.mon_schema.specs.Names.{SchemaLists, target_named}
use Rattle.mql_ast.specs.Rows.{predicate_truth}
use Rattle.typed_trees.specs.Branches.{with_width}
use Rattle.typed_trees.specs.Fetches.{columns_fetched, key_column, target_columns, value_column}
use Rattle.typed_trees.specs.Meaning.{aligned_rows, is_fetched, is_point_kept, points_meant}
use Rattle.typed_trees.specs.Nodes as node
use Rattle.typed_trees.specs.Nodes.{NodeTree, fixed_of}
use Rattle.typed_trees.specs.Typing.{aligned_column, aligned_width}
use Rattle.typed_trees.specs.declared.nodes.NodeInfo.{NodeInfo}
use Rattle.typed_rows.proofs.FetchedPoints.{IsRowOf, IsSeriesOf, columns_split, series_columns}
use Rattle.typed_rows.proofs.FetchedTrees.{AllFit, ArePoints, columns_fetched_are, points_of_schemas}
use Rattle.typed_rows.proofs.JoinedRows.{all-flat_map, all-made, all-map}
use Rattle.typed_rows.proofs.KeptRows.{all-filter}
use Rattle.typed_rows.proofs.OnceLemmas.{aligned_name}
use Rattle.typed_rows.proofs.TypedTrees.{AlignOf}
use Rattle.mon_meaning.proofs.ApartKeys.{all_keys}
use Rattle.typed_trees.specs.FixedColumns.{fixed_by, with_fixed}
use Rattle.mixer.proofs.FixedHomes.{AllFixed, FixSays, Fixes, truth_fixes}
use Rattle.typed_trees.proofs.FixedLemmas.{all_with_fixed}
use Rattle.mixer.proofs.FixedTables.{fixed_mapped}
use Rattle.mixer.proofs.FixingTrees.{AreFixing}
use Rattle.mixer.proofs.HeldCells as held_cells
use Rattle.mixer.proofs.HeldCells.{Holds, SaysIf, Stems}
use Rattle.typed_rows.proofs.NamedTrees.{NamedOnce}
use Rattle.mixer.proofs.PlainColumns.{units}
use Rattle.mixer.proofs.StemmingRows.{AllStem, all_passing, stems_so}

-- ---- points that reach a part

-- what holds of all rows holds of those that reach a part
pub all_points : (R : Row → Type 0) (tree : NodeTree) (rows : List Row) → AllByRecursion R rows
    → AllByRecursion R (points_meant tree rows)
all_points R (node.Fetch info schema metric) rows all = all-filter R (λ row. is_fetched schema metric row.key) rows all
all_points R (node.Filter info by input) rows all =
    all-filter R (is_point_kept by info.columns) (points_meant input rows) (all_points R input rows all)
all_points R (node.Align info by input) rows all = tt
all_points R (node.GroupBy info by with input) rows all = tt
all_points R (node.Value info items input) rows all = tt
all_points R (node.Top info most column input) rows all = tt
all_points R (node.Join info left right) rows all = tt
all_points R (node.Union info left right) rows all = tt

-- they are of the target schema that is fetched
points_named : (held : SchemaLists) (target : TargetSchema) (found : MetricSchema) (tree : NodeTree)
    → ArePoints held target found tree → (rows : List Row)
    → AllByRecursion (λ row. target_named row.key.target.schema held.targets ≡ Some target) (points_meant tree rows)
points_named held target found (node.Fetch info schema metric) own rows =
    all_passing (λ row. Unit {0}) (λ row. target_named row.key.target.schema held.targets ≡ Some target)
    (λ row. is_fetched schema metric row.key) rows
    (λ row t fetched.
    let parts = and_both (same_text schema row.key.target.schema) (same_text metric row.key.metric) fetched in
    ap (λ name. target_named name held.targets) (sym ((same_text-Decides schema row.key.target.schema).0 parts.0))
    ∙ own.1.0) (units rows)
points_named held target found (node.Filter info by input) own rows =
    all-filter (λ row. target_named row.key.target.schema held.targets ≡ Some target) (is_point_kept by info.columns)
    (points_meant input rows) (points_named held target found input own.1 rows)
points_named held target found (node.Align info by input) own rows = absurd own
points_named held target found (node.GroupBy info by with input) own rows = absurd own
points_named held target found (node.Value info items input) own rows = absurd own
points_named held target found (node.Top info most column input) own rows = absurd own
points_named held target found (node.Join info left right) own rows = absurd own
points_named held target found (node.Union info left right) own rows = absurd own

-- a series of the schemas that are fetched
abbrev IsSeries : SchemaLists → TargetSchema → MetricSchema → SeriesKey → Type 0
IsSeries held target found key =
    (target_named key.target.schema held.targets ≡ Some target) × IsSeriesOf target found key

are_series : (held : SchemaLists) (target : TargetSchema) (found : MetricSchema) (tree : NodeTree)
    → ArePoints held target found tree → (rows : List Row) → AllFit held rows
    → AllByRecursion (λ (row : Row). IsSeries held target found row.key) (points_meant tree rows)
are_series held target found tree own rows fit =
    let points = points_meant tree rows in
    all-map (λ (row : Row). (target_named row.key.target.schema held.targets ≡ Some target) × IsRowOf target found row)
    (λ (row : Row). IsSeries held target found row.key) points
    (λ row p. (p.0, p.1.series))
    (all_both (λ (row : Row). target_named row.key.target.schema held.targets ≡ Some target) (IsRowOf target found)
    points (points_named held target found tree own rows) (points_of_schemas held target found tree own rows fit))

any_made : {A B : Type 0} (Q : B → Type 0) (f : A → B) → ((x : A) → Q (f x)) → (xs : List A)
    → AllByRecursion Q (map f xs)
any_made Q f all [] = tt
any_made Q f all (x ∷ xs) = (all x, any_made Q f all xs)

module _ {H : Type 0} (Says : H → Anchor → Value → Type 0) (held : SchemaLists) (IsHome : Target → H → Type 0)
    (of_field : (schema : TargetSchema) (target : Target) (home : H)
    → target_named target.schema held.targets ≡ Some schema → fields_fit schema.fields target.fields ≡ true
    → IsHome target home → (k : ℕ) (v : FieldValue) → slice_get target.fields k ≡ Some v
    → Says home (anchor.Field schema.name k) (field_as_value v)) where
  -- a row whose target has a home of a kind
  pub record HasHome (P : H → Type 0) (target : Target) : Type 0 where
    pub home : H
    pub from : P home
    pub is : IsHome target home

  -- ---- rows of a series

  target_holds : (home : H) (name : List ℕ) (next : ℕ) (fields : List Field) (values : List FieldValue)
      → fields_fit fields values ≡ true
      → ((k : ℕ) (v : FieldValue) → slice_get values k ≡ Some v
      → Says home (anchor.Field name (next + k)) (field_as_value v))
      → Holds Says home (target_columns name next fields) (map field_as_value values)
  target_holds home name next [] [] fit says = tt
  target_holds home name next [] (v ∷ vs) fit says = absurd cc
  target_holds home name next (f ∷ fs) [] fit says = absurd cc
  target_holds home name next (f ∷ fs) (v ∷ vs) fit says =
      let parts = and_both (field_fits f.of v) (fields_fit fs vs) fit in
      let S : ℕ → FieldValue → Type 0 = λ n w. Says home (anchor.Field name n) (field_as_value w) in (
        subst (λ n. S n v) (omega arith) (says 0 v refl),
        target_holds home name (next + 1) fs vs parts.1
            (λ k w is. subst (λ n. S n w) (omega arith) (says (suc k) w is)),
      )

  metric_holds : (home : H) (fields : List Field) (values : List FieldValue) → fields_fit fields values ≡ true
      → Holds Says home (map (key_column None) fields) (map field_as_value values)
  metric_holds home [] [] fit = tt
  metric_holds home [] (v ∷ vs) fit = absurd cc
  metric_holds home (f ∷ fs) [] fit = absurd cc
  metric_holds home (f ∷ fs) (v ∷ vs) fit =
      (tt, metric_holds home fs vs (and_both (field_fits f.of v) (fields_fit fs vs) fit).1)

  row_holds : (home : H) (target : TargetSchema) (found : MetricSchema) (key : SeriesKey)
      → IsSeries held target found key → IsHome key.target home → (value : Value)
      → Holds Says home (columns_fetched target found) (cells_of key value)
  row_holds home target found key of is value =
      subst (λ cs. Holds Says home cs (cells_of key value)) (columns_split target found)
      (held_cells.Holds-append Says home (series_columns target found) (value_column found ∷ [])
      (map field_as_value key.target.fields ++ map field_as_value key.fields) (value ∷ [])
      (held_cells.Holds-append Says home (target_columns target.name 0 target.fields)
      (map (key_column None) found.fields) (map field_as_value key.target.fields) (map field_as_value key.fields)
      (target_holds home target.name 0 target.fields key.target.fields of.1.target_fields
      (λ k v at. subst (λ n. Says home (anchor.Field target.name n) (field_as_value v)) (omega arith)
      (of_field target key.target home of.0 of.1.target_fields is k v at)))
      (metric_holds home found.fields key.fields of.1.fields)) (tt, tt))

  -- ---- what filters of points fix

  points_fix : (P : H → Type 0) (target : TargetSchema) (found : MetricSchema) (tree : NodeTree)
      → ArePoints held target found tree → AreFixing tree → (rows : List Row) → AllFit held rows
      → AllByRecursion (λ (row : Row). HasHome P row.key.target) rows
      → AllByRecursion
      (λ (row : Row). HasHome (Fixes Says P (fixed_of tree) (columns_fetched target found)) row.key.target)
      (points_meant tree rows)
  points_fix P target found (node.Fetch info schema metric) own fixing rows fit homes =
      all-map (λ (row : Row). HasHome P row.key.target) _ (points_meant (node.Fetch info schema metric) rows)
      (λ row one. record {
        home = one.home;
        from = (one.from, subst (λ fixed. AllFixed Says one.home fixed (columns_fetched target found)) (sym fixing) tt);
        is = one.is;
      })
      (all_points (λ (row : Row). HasHome P row.key.target) (node.Fetch info schema metric) rows homes)
  points_fix P target found (node.Filter info by input) own fixing rows fit homes =
      let columns = columns_fetched target found in
      let Below : Row → Type 0 = λ row. HasHome (Fixes Says P (fixed_of input) columns) row.key.target in
      all_passing (λ (row : Row). Below row × IsSeries held target found row.key)
      (λ row. HasHome (Fixes Says P (fixed_of (node.Filter info by input)) columns) row.key.target)
      (is_point_kept by info.columns) (points_meant input rows)
      (λ row both kept.
      let one = both.0 in
      let truth : predicate_truth by columns (cells_of row.key row.point.value) ≡ true =
      subst (λ cs. predicate_truth by cs (cells_of row.key row.point.value) ≡ true) own.0 kept in
      let fixed : AllFixed Says one.home (with_fixed (fixed_of input) (fixed_by by)) columns =
      all_with_fixed (λ f. FixSays Says one.home f columns) (fixed_of input) (fixed_by by) one.from.1
      (truth_fixes Says one.home by columns (cells_of row.key row.point.value) (subst NamedOnce own.0 fixing.1.0)
      (row_holds one.home target found row.key both.1 one.is row.point.value) truth) in
      record {
        home = one.home;
        from = (one.from.0, subst (λ some. AllFixed Says one.home some columns) (sym fixing.0) fixed);
        is = one.is;
      })
      (all_both Below (λ (row : Row). IsSeries held target found row.key) (points_meant input rows)
      (points_fix P target found input own.1 fixing.1.1 rows fit homes)
      (are_series held target found input own.1 rows fit))
  points_fix P target found (node.Align info by input) own fixing rows fit homes = absurd own
  points_fix P target found (node.GroupBy info by with input) own fixing rows fit homes = absurd own
  points_fix P target found (node.Value info items input) own fixing rows fit homes = absurd own
  points_fix P target found (node.Top info most column input) own fixing rows fit homes = absurd own
  points_fix P target found (node.Join info left right) own fixing rows fit homes = absurd own
  points_fix P target found (node.Union info left right) own fixing rows fit homes = absurd own

  -- ---- alignments

  aligned_less : (home : H) (by : Aligner) (c : Column) (x : Value) → SaysIf Says home c.anchor x
      → SaysIf Says home (aligned_column by c).anchor x
  aligned_less home by c x says = by_key c.key
    where
      by_key : (b : Bool) → SaysIf Says home (cond b c (with_width (aligned_width by) c)).anchor x
      by_key true = says
      by_key false = says

  series_stem : (P : H → Type 0) (target : TargetSchema) (found : MetricSchema) (by : Aligner) (grid : Grid)
      (points : List Row)
      → AllByRecursion (λ (row : Row). HasHome P row.key.target × IsSeries held target found row.key) points
      → AllStem Says P (map (aligned_column by) (columns_fetched target found)) (aligned_rows by grid points)
  series_stem P target found by grid points all =
      let IsOne : SeriesKey → Type 0 = λ key. HasHome P key.target × IsSeries held target found key in
      let to = map (aligned_column by) (columns_fetched target found) in
      let series : AllByRecursion (λ (s : SeriesKey × List Point). IsOne s.0) (points_by_series points) =
      all-made IsOne (λ (s : SeriesKey × List Point). IsOne s.0) (λ key. (key, points_of key points))
      (series_of points) (λ key one. one)
      (all_keys same_series same_series-Decides key_of_row IsOne points all) in
      all-flat_map (λ (s : SeriesKey × List Point). IsOne s.0) (λ row. Stems Says P to row.cells)
      (λ s. map (row_of s.0) (aligned_values by grid s.1)) (points_by_series points)
      (λ s one. any_made (λ (row : TimedRow). Stems Says P to row.cells) (row_of s.0)
      (λ timed. record {
        home = one.0.home;
        from = one.0.from;
        holds = held_cells.Holds-map Says one.0.home (aligned_column by) (aligned_less one.0.home by)
            (columns_fetched target found) (cells_of s.0 timed.value)
            (row_holds one.0.home target found s.0 one.1 one.0.is timed.value);
      }) (aligned_values by grid s.1)) series

  -- the rows of an alignment stem from homes that say what the filters of its points fix
  pub align_stems : (P : H → Type 0) (info : NodeInfo) (by : Aligner) (input : NodeTree)
      → (own : AlignOf held info by input) → AreFixing input → (grid : Grid) (rows : List Row) → AllFit held rows
      → AllByRecursion (λ (row : Row). HasHome P row.key.target) rows
      → AllStem Says (Fixes Says P (fixed_of input) info.columns) info.columns
      (aligned_rows by grid (points_meant input rows))
  align_stems P info by input own fixing grid rows fit homes =
      let columns = columns_fetched own.target own.found in
      let fixed = fixed_of input in
      let points = points_meant input rows in
      let Below : H → Type 0 = Fixes Says P fixed columns in
      let to = map (aligned_column by) columns in
      let same : to ≡ info.columns =
      ap (map (aligned_column by)) (sym (columns_fetched_are held own.target own.found input own.points))
      ∙ sym own.is in
      subst (λ cs. AllStem Says (Fixes Says P fixed cs) cs (aligned_rows by grid points)) same
      (stems_so Says Below (Fixes Says P fixed to)
      (λ home from. (
        from.0,
        fixed_mapped Says home (aligned_column by) (aligned_name by) (aligned_less home by) columns
            fixed from.1,
      )) to (aligned_rows by grid points)
      (series_stem Below own.target own.found by grid points
      (all_both (λ (row : Row). HasHome Below row.key.target)
      (λ (row : Row). IsSeries held own.target own.found row.key) points
      (points_fix P own.target own.found input own.points fixing rows fit homes)
      (are_series held own.target own.found input own.points rows fit))))
