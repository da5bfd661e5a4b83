-- Trees whose nodes have the columns of their rules: their tables fit, and each operation's input meets what it asks.
use Rattle.std.proofs.Common.{◌≡◌, ◌∙◌, ◌≤◌, ℕ, ℤ, ◌+◌, ◌^◌, true, Option, Some, None, List, [], ◌∷◌, map, length}
use Rattle.std.proofs.Common.{subst, ap, sym, arith}
use Rattle.std.specs.Prelude.{option_map, unwrap_or}
use Rattle.std.specs.List.{AllByRecursion, flat_map}
use Rattle.std.proofs.lemmas.Bool.{leb-true}
use Rattle.mon_value.specs.Grids.{seconds_of, IsDuration, IsLawfulGrid}
use Rattle.mon_value.specs.Tables.{FitColumns, IsWhole, right_columns}
use Rattle.mon_value.specs.Groups.{CanGroup, rows_at, group_rows}
use Rattle.mon_value.specs.declared.aggregates.Aggregate as folds
use Rattle.mon_value.specs.declared.aligners.Aligner.{Aligner}
use Rattle.mon_value.specs.declared.columns.Column.{Column}
use Rattle.mon_value.specs.declared.grids.Grid.{Grid}
use Rattle.mon_value.specs.declared.rows.Row.{Row}
use Rattle.mon_value.specs.declared.schemas.MetricSchema.{MetricSchema}
use Rattle.mon_value.specs.declared.schemas.TargetSchema.{TargetSchema}
use Rattle.mon_value.specs.declared.tables.TimedRow.{TimedRow}
use Rattle.mon_value.specs.declared.values.ValueType.{ValueType}
use Rattle.mon_value.specs.declared.values.ValueType.TheVariants as type
use Rattle.mon_schema.specs.Faults.{is_bounded}
use Rattle.mon_schema.specs.Names.{SchemaLists}
use Rattle.mql_ast.specs.Rows.{column_named, CanCompute, FitWidths, HasBound, HasShares, predicate_truth}
use Rattle.mql_ast.specs.Trees.{ItemTree}
use Rattle.mql_ast.specs.declared.names.Name.{Name}
use Rattle.mql_ast.specs.declared.operations.Aggregate.{Aggregate}
use Rattle.typed_trees.specs.declared.nodes.NodeInfo.{NodeInfo}
use Rattle.typed_trees.specs.Branches.{anchored_with, as_joined, join_columns, left_column, same_columns, union_columns}
use Rattle.typed_trees.specs.Branches.{united_column}
use Rattle.typed_trees.specs.Fetches.{columns_fetched}
use Rattle.typed_trees.specs.Groupings.{aggregate_faults, aggregates_over, grouped_columns, listed_places}
use Rattle.typed_trees.specs.Items.{item_sum_faults, reserved_names, value_columns}
use Rattle.typed_trees.specs.Meaning.{load_of, points_reached, aligned_rows, points_meant, rows_meant}
use Rattle.typed_trees.specs.Nodes as node
use Rattle.typed_trees.specs.Nodes.{NodeTree, columns_of}
use Rattle.mon_schema.specs.Fits.{IsHeld}
use Rattle.typed_trees.specs.Soundness.{CountsRows, FitTable, HasLiterals, IsEvaluable, TotalsFit}
use Rattle.typed_trees.specs.Typing.{aligned_column}
use Rattle.typed_rows.proofs.AlignedRows.{FitTable-align, aligned_lawful, can_align}
use Rattle.typed_rows.proofs.AlignedValues.{Takes}
use Rattle.typed_rows.proofs.FetchedTrees.{AllFit, ArePoints, columns_fetched_are, points_few, points_of_schemas}
use Rattle.typed_rows.proofs.GroupedRows.{FitTable-group_by, can_group, group_lawful}
use Rattle.typed_rows.proofs.JoinedRows.{FitTable-join, IsNarrow, all-front, all-made, all-map}
use Rattle.typed_rows.proofs.KeptRows.{FitTable-filter, FitTable-top, all-filter}
use Rattle.typed_rows.proofs.MadeCells.{length_fit}
use Rattle.typed_rows.proofs.RowCounts.{rows_within_load}
use Rattle.typed_rows.proofs.SumBounds.{AreLawful, IsSound}
use Rattle.typed_rows.proofs.TypedSums.{sums_typed}
use Rattle.typed_rows.proofs.UnitedRows.{FitTable-union}
use Rattle.typed_rows.proofs.ValueRows.{FitTable-value, value_lawful}
use Rattle.mon_value.proofs.PlainLemmas.{all_both, and_both, all_append, all_unmapped}

-- ---- nodes of the rules

pub record AlignOf (held : SchemaLists) (info : NodeInfo) (by : Aligner) (input : NodeTree) : Type 0 where
  pub target : TargetSchema
  pub found : MetricSchema
  pub metric : IsHeld found
  pub takes : Takes by found.value
  pub duration : IsDuration (seconds_of by)
  pub points : ArePoints held target found input
  pub is : info.columns ≡ map (aligned_column by) (columns_of input)

pub record GroupOf (info : NodeInfo) (by : List ℕ) (with : List folds.Aggregate) (columns : List Column) : Type 0
  where
    pub names : List Name
    pub aggregates : List Aggregate
    pub counts : AllByRecursion (λ (a : Aggregate). CountsRows a.fold a.column) aggregates
    pub none : flat_map (aggregate_faults columns) aggregates ≡ []
    pub places : listed_places columns reserved_names names ≡ by
    pub makes : aggregates_over columns aggregates ≡ with
    pub is : grouped_columns columns names aggregates ≡ info.columns

pub record ValueOf (info : NodeInfo) (items : List ItemTree) (columns : List Column) : Type 0 where
  pub literals : AllByRecursion (λ (item : ItemTree). HasLiterals item.sum) items
  pub shares : AllByRecursion (λ (item : ItemTree). HasShares item.sum) items
  pub none : flat_map (item_sum_faults columns) items ≡ []
  pub is : value_columns columns items ≡ info.columns

pub record JoinOf (held : SchemaLists) (info : NodeInfo) (lefts rights : List Column) : Type 0 where
  pub narrow : AllByRecursion IsNarrow (join_columns held lefts rights)
  pub is : join_columns held lefts rights ≡ info.columns

pub record UnionOf (held : SchemaLists) (info : NodeInfo) (lefts rights : List Column) : Type 0 where
  pub same : same_columns lefts rights ≡ true
  pub narrow : AllByRecursion IsNarrow (union_columns held lefts rights)
  pub is : union_columns held lefts rights ≡ info.columns

-- a tree of tables, each node of which has the columns of its rule
abbrev pub AreRows : SchemaLists → NodeTree → Type 0
AreRows held (node.Fetch info schema metric) = AreLawful info.columns
AreRows held (node.Filter info by input) = (columns_of input ≡ info.columns) × AreRows held input
AreRows held (node.Align info by input) = AlignOf held info by input
AreRows held (node.GroupBy info by with input) = GroupOf info by with (columns_of input) × AreRows held input
AreRows held (node.Value info items input) = ValueOf info items (columns_of input) × AreRows held input
AreRows held (node.Top info most column input) = (columns_of input ≡ info.columns) × AreRows held input
AreRows held (node.Join info left right) =
    JoinOf held info (columns_of left) (columns_of right) × (AreRows held left × AreRows held right)
AreRows held (node.Union info left right) =
    UnionOf held info (columns_of left) (columns_of right) × (AreRows held left × AreRows held right)

-- ---- their columns

joined_sound : (c : Column) → IsSound c → IsNarrow (as_joined c) → IsSound (as_joined c)
joined_sound c sound narrow = record {
  width = record { ordered = omega (arith, narrow); narrow = narrow };
  numbers = sound.numbers;
  bounded = sound.bounded;
}

left_sound : (held : SchemaLists) (c : Column) (o : Option Column) → IsSound c
    → IsNarrow (as_joined (unwrap_or (option_map (anchored_with held c) o) c))
    → IsSound (as_joined (unwrap_or (option_map (anchored_with held c) o) c))
left_sound held c None sound narrow = joined_sound c sound narrow
left_sound held c (Some other) sound narrow =
    joined_sound (anchored_with held c other)
    (record {
      width = record { ordered = sound.width.ordered; narrow = sound.width.narrow };
      numbers = sound.numbers;
      bounded = sound.bounded;
    }) narrow

join_lawful : (held : SchemaLists) (lefts rights : List Column) → AreLawful lefts → AreLawful rights
    → AllByRecursion IsNarrow (join_columns held lefts rights) → AreLawful (join_columns held lefts rights)
join_lawful held lefts rights left right narrow =
    let parts = all-front IsNarrow (map (left_column held rights) lefts)
    (map as_joined (right_columns lefts rights)) narrow in
    all_append IsSound (map (left_column held rights) lefts) (map as_joined (right_columns lefts rights))
    (all-made (λ (c : Column). IsSound c × IsNarrow (left_column held rights c)) IsSound
    (left_column held rights) lefts
    (λ c p. left_sound held c (column_named c.name rights) p.0 p.1)
    (all_both IsSound (λ (c : Column). IsNarrow (left_column held rights c)) lefts left
    (all_unmapped IsNarrow (left_column held rights) lefts parts.0)))
    (all-made (λ (c : Column). IsSound c × IsNarrow (as_joined c)) IsSound as_joined (right_columns lefts rights)
    (λ c p. joined_sound c p.0 p.1)
    (all_both IsSound (λ (c : Column). IsNarrow (as_joined c)) (right_columns lefts rights)
    (all-filter IsSound _ rights right)
    (all_unmapped IsNarrow as_joined (right_columns lefts rights) parts.1)))

united_sound : (held : SchemaLists) (l r : Column) → IsSound l → IsSound r → IsNarrow (united_column held l r)
    → IsSound (united_column held l r)
united_sound held l r left right narrow = record {
  width = record { ordered = omega (arith, narrow, left.width.ordered, right.width.ordered); narrow = narrow };
  numbers = left.numbers;
  bounded = left.bounded;
}

union_lawful : (held : SchemaLists) (lefts rights : List Column) → AreLawful lefts → AreLawful rights
    → AllByRecursion IsNarrow (union_columns held lefts rights) → AreLawful (union_columns held lefts rights)
union_lawful held [] rights left right narrow = tt
union_lawful held (l ∷ ls) [] left right narrow = tt
union_lawful held (l ∷ ls) (r ∷ rs) left right narrow =
    (united_sound held l r left.0 right.0 narrow.0, union_lawful held ls rs left.1 right.1 narrow.1)

some_bound : (of : ValueType) → is_bounded of ≡ true → HasBound of
some_bound type.Int e = tt
some_bound type.Bool e = tt
some_bound type.Text e = tt
some_bound (type.Dist bounds) e = leb-true 1 (length bounds) (and_both _ _ (and_both _ _ e).0).0

pub lawful_columns : (held : SchemaLists) (tree : NodeTree) → AreRows held tree → AreLawful (columns_of tree)
lawful_columns held (node.Fetch info schema metric) own = own
lawful_columns held (node.Filter info by input) own = subst AreLawful own.0 (lawful_columns held input own.1)
lawful_columns held (node.Align info by input) own =
    let same : map (aligned_column by) (columns_fetched own.target own.found) ≡ info.columns =
    ap (λ cs. map (aligned_column by) cs) (sym (columns_fetched_are held own.target own.found input own.points))
    ∙ sym own.is in
    subst AreLawful same (aligned_lawful own.target own.found by own.metric.numbers
    (some_bound own.found.value own.metric.bounded))
lawful_columns held (node.GroupBy info by with input) own =
    subst AreLawful own.0.is (group_lawful (columns_of input) own.0.names own.0.aggregates
    (lawful_columns held input own.1) own.0.counts own.0.none)
lawful_columns held (node.Value info items input) own =
    subst AreLawful own.0.is (value_lawful (columns_of input) items (lawful_columns held input own.1) own.0.literals
    own.0.none)
lawful_columns held (node.Top info most column input) own = subst AreLawful own.0 (lawful_columns held input own.1)
lawful_columns held (node.Join info left right) own =
    subst AreLawful own.0.is
    (join_lawful held (columns_of left) (columns_of right) (lawful_columns held left own.1.0)
    (lawful_columns held right own.1.1) own.0.narrow)
lawful_columns held (node.Union info left right) own =
    subst AreLawful own.0.is
    (union_lawful held (columns_of left) (columns_of right) (lawful_columns held left own.1.0)
    (lawful_columns held right own.1.1) own.0.narrow)

-- ---- their tables

no_totals : (next : ℕ) (columns : List Column) (time : ℤ) → TotalsFit next columns (rows_at time [])
no_totals next [] time = tt
no_totals next (c ∷ cs) time = (omega arith, no_totals (next + 1) cs time)

no_rows : (columns : List Column) → FitTable columns []
no_rows columns = record { shaped = tt; widths = tt; totals = λ time. no_totals 0 columns time }

grouped : (held : SchemaLists) (info : NodeInfo) (by : List ℕ) (with : List folds.Aggregate) (columns : List Column)
    → GroupOf info by with columns
    → AreLawful columns → (rows : List TimedRow) → FitTable columns rows → length rows ≤ 2 ^ 24
    → FitTable info.columns (group_rows by with rows)
grouped held info by with columns own lawful rows fit few =
    let P : List ℕ → Type 0 = λ places. FitTable info.columns (group_rows places with rows) in
    let Q : List folds.Aggregate → Type 0 =
    λ aggregates. FitTable info.columns
    (group_rows (listed_places columns reserved_names own.names) aggregates rows) in
    let R : List Column → Type 0 = λ cs. FitTable cs
    (group_rows (listed_places columns reserved_names own.names) (aggregates_over columns own.aggregates)
    rows) in
    subst P own.places (subst Q own.makes
    (subst R own.is (FitTable-group_by columns own.names own.aggregates rows fit lawful own.counts own.none
    few)))

aligned : (held : SchemaLists) (grid : Grid) → IsLawfulGrid grid → (rows : List Row) → AllFit held rows
    → (info : NodeInfo) (by : Aligner) (input : NodeTree)
    → AlignOf held info by input → length (points_reached grid by input rows) ≤ 2 ^ 24
    → length (aligned_rows by grid (points_meant input rows)) ≤ 2 ^ 24
    → FitTable info.columns (aligned_rows by grid (points_meant input rows))
aligned held grid lawful rows fit info by input own reach few =
    let same : map (aligned_column by) (columns_fetched own.target own.found) ≡ info.columns =
    ap (λ cs. map (aligned_column by) cs) (sym (columns_fetched_are held own.target own.found input own.points))
    ∙ sym own.is in
    let P : List Column → Type 0 = λ cs. FitTable cs (aligned_rows by grid (points_meant input rows)) in
    subst P same
    (FitTable-align own.target own.found by grid (points_meant input rows)
    (points_of_schemas held own.target own.found input own.points rows fit)
    (omega (arith, points_few held own.target own.found input own.points rows fit grid by, reach)) lawful
    own.takes few)

-- the rows of a tree of tables fit its columns
pub tree_fits : (held : SchemaLists) (grid : Grid) → IsLawfulGrid grid → (rows : List Row) → AllFit held rows
    → (tree : NodeTree) → AreRows held tree
    → load_of grid tree rows ≤ 2 ^ 24 → FitTable (columns_of tree) (rows_meant grid tree rows)
tree_fits held grid lawful rows fit (node.Fetch info schema metric) own few = no_rows info.columns
tree_fits held grid lawful rows fit (node.Filter info by input) own few =
    let P : List Column → Type 0 = λ cs. FitTable cs (rows_meant grid (node.Filter info by input) rows) in
    subst P own.0
    (FitTable-filter (columns_of input) (λ (row : TimedRow). predicate_truth by info.columns row.cells)
    (rows_meant grid input rows)
    (tree_fits held grid lawful rows fit input own.1 few))
tree_fits held grid lawful rows fit (node.Align info by input) own few =
    aligned held grid lawful rows fit info by input own (omega (arith, few)) (omega (arith, few))
tree_fits held grid lawful rows fit (node.GroupBy info by with input) own few =
    grouped held info by with (columns_of input) own.0 (lawful_columns held input own.1) (rows_meant grid input rows)
    (tree_fits held grid lawful rows fit input own.1 few) (omega (arith, few, rows_within_load grid input rows))
tree_fits held grid lawful rows fit (node.Value info items input) own few =
    let P : List Column → Type 0 = λ cs. FitTable cs (rows_meant grid (node.Value info items input) rows) in
    subst P own.0.is
    (FitTable-value (columns_of input) items (rows_meant grid input rows)
    (tree_fits held grid lawful rows fit input own.1 few)
    (lawful_columns held input own.1) own.0.literals own.0.none
    (omega (arith, few, rows_within_load grid input rows)))
tree_fits held grid lawful rows fit (node.Top info most column input) own few =
    let P : List Column → Type 0 = λ cs. FitTable cs (rows_meant grid (node.Top info most column input) rows) in
    subst P own.0
    (FitTable-top (columns_of input) most column (rows_meant grid input rows)
    (tree_fits held grid lawful rows fit input own.1 few))
tree_fits held grid lawful rows fit (node.Join info left right) own few =
    let P : List Column → Type 0 = λ cs. FitTable cs (rows_meant grid (node.Join info left right) rows) in
    subst P own.0.is
    (FitTable-join held (columns_of left) (columns_of right) (rows_meant grid left rows)
    (rows_meant grid right rows)
    (tree_fits held grid lawful rows fit left own.1.0 (omega (arith, few)))
    (tree_fits held grid lawful rows fit right own.1.1 (omega (arith, few)))
    own.0.narrow (omega (arith, few)))
tree_fits held grid lawful rows fit (node.Union info left right) own few =
    let P : List Column → Type 0 = λ cs. FitTable cs (rows_meant grid (node.Union info left right) rows) in
    subst P own.0.is
    (FitTable-union held (columns_of left) (columns_of right) (rows_meant grid left rows)
    (rows_meant grid right rows)
    (tree_fits held grid lawful rows fit left own.1.0 (omega (arith, few)))
    (tree_fits held grid lawful rows fit right own.1.1 (omega (arith, few)))
    own.0.same own.0.narrow (omega (arith, few, rows_within_load grid (node.Union info left right) rows)))

-- ---- what their operations ask

whole_rows : (columns : List Column) (rows : List TimedRow) → FitTable columns rows
    → IsWhole (record { columns = columns; rows = rows })
whole_rows columns rows fit =
    all-map (λ (row : TimedRow). FitColumns columns row.cells)
    (λ (row : TimedRow). length row.cells ≡ length columns) rows
    (λ row p. length_fit columns row.cells p) fit.shaped

computable : (columns : List Column) → AreLawful columns → (rows : List TimedRow) → FitTable columns rows
    → AllByRecursion (λ (row : TimedRow). CanCompute columns row.cells) rows
computable columns lawful rows fit =
    let bounds = all-map IsSound (λ (c : Column). HasBound c.of) columns (λ c sound. sound.bounded) lawful in
    all-map (λ (row : TimedRow). FitColumns columns row.cells × FitWidths columns row.cells)
    (λ (row : TimedRow). CanCompute columns row.cells) rows
    (λ row p. record { bounded = bounds; shaped = p.0; widths = p.1 })
    (all_both (λ (row : TimedRow). FitColumns columns row.cells)
    (λ (row : TimedRow). FitWidths columns row.cells) rows fit.shaped fit.widths)

groupable : (info : NodeInfo) (by : List ℕ) (with : List folds.Aggregate) (columns : List Column)
    → GroupOf info by with columns
    → AreLawful columns → (rows : List TimedRow) → FitTable columns rows → CanGroup columns by with rows
groupable info by with columns own lawful rows fit =
    let P : List ℕ → Type 0 = λ places. CanGroup columns places with rows in
    let Q : List folds.Aggregate → Type 0 =
    λ aggregates. CanGroup columns (listed_places columns reserved_names own.names) aggregates rows in
    subst P own.places (subst Q own.makes
    (can_group columns own.names own.aggregates rows fit lawful own.counts own.none))

-- each operation's input meets what it asks
pub tree_evaluable : (held : SchemaLists) (grid : Grid) → IsLawfulGrid grid → (rows : List Row) → AllFit held rows
    → (tree : NodeTree) → AreRows held tree
    → IsEvaluable grid tree rows
tree_evaluable held grid lawful rows fit (node.Fetch info schema metric) own = tt
tree_evaluable held grid lawful rows fit (node.Filter info by input) own =
    tree_evaluable held grid lawful rows fit input own.1
tree_evaluable held grid lawful rows fit (node.Align info by input) own = (
  own.duration,
  λ few.
      can_align own.target own.found by grid (points_meant input rows)
      (points_of_schemas held own.target own.found input own.points rows fit)
      (omega (arith, points_few held own.target own.found input own.points rows fit grid by, few)) lawful
      own.duration own.takes,
)
tree_evaluable held grid lawful rows fit (node.GroupBy info by with input) own = (
  (λ few. groupable info by with (columns_of input) own.0 (lawful_columns held input own.1)
      (rows_meant grid input rows)
      (tree_fits held grid lawful rows fit input own.1 few)),
  tree_evaluable held grid lawful rows fit input own.1,
)
tree_evaluable held grid lawful rows fit (node.Value info items input) own = (
  sums_typed (columns_of input) (lawful_columns held input own.1) items own.0.literals own.0.shares own.0.none,
  (
    (λ few. computable (columns_of input) (lawful_columns held input own.1) (rows_meant grid input rows)
        (tree_fits held grid lawful rows fit input own.1 few)),
    tree_evaluable held grid lawful rows fit input own.1,
  ),
)
tree_evaluable held grid lawful rows fit (node.Top info most column input) own =
    tree_evaluable held grid lawful rows fit input own.1
tree_evaluable held grid lawful rows fit (node.Join info left right) own = (
  (λ few. whole_rows (columns_of left) (rows_meant grid left rows)
      (tree_fits held grid lawful rows fit left own.1.0 few)),
  (
    (λ few. whole_rows (columns_of right) (rows_meant grid right rows)
        (tree_fits held grid lawful rows fit right own.1.1 few)),
    (
      tree_evaluable held grid lawful rows fit left own.1.0,
      tree_evaluable held grid lawful rows fit right
          own.1.1,
    ),
  ),
)
tree_evaluable held grid lawful rows fit (node.Union info left right) own =
    (tree_evaluable held grid lawful rows fit left own.1.0, tree_evaluable held grid lawful rows fit right own.1.1)
