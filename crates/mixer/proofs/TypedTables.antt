-- The tables of a typed tree have the types of its columns, however much work the tree is.
use Rattle.std.proofs.Common.{◌≡◌, ◌∙◌, ℕ, List, [], ◌∷◌, ◌++◌, map}
use Rattle.std.proofs.Common.{length, take, sym, ap, subst}
use Rattle.std.specs.List.{filter, filter_map, flat_map}
use Rattle.mon_value.specs.Grids.{aligned_values, IsLawfulGrid}
use Rattle.mon_value.specs.Tables.{FitColumns, HasType, is_pair, pair_of, pairs_of}
use Rattle.mon_value.specs.Groups.{group_key, group_keys, group_rows, rows_in, rank_cmp}
use Rattle.mon_value.specs.Same.{same_row}
use Rattle.mon_value.specs.Order.{row_of, sorted_list}
use Rattle.mon_value.specs.LeafHistories.{points_by_series}
use Rattle.mon_value.specs.declared.aggregates.Aggregate as folds
use Rattle.mon_value.specs.declared.aligners.Aligner.{Aligner}
use Rattle.mon_value.specs.declared.columns.Column.{Column}
use Rattle.mon_value.specs.declared.grids.Grid.{Grid}
use Rattle.mon_value.specs.declared.grids.TimedValue.{TimedValue}
use Rattle.mon_value.specs.declared.rows.Point.{Point}
use Rattle.mon_value.specs.declared.rows.Row.{Row}
use Rattle.mon_value.specs.declared.rows.SeriesKey.{SeriesKey}
use Rattle.mon_value.specs.declared.tables.TimedRow.{TimedRow}
use Rattle.mon_value.specs.declared.values.Value.{Value}
use Rattle.mon_value.specs.declared.values.Value.TheVariants as value
use Rattle.mon_value.specs.declared.values.ValueType.TheVariants as type
use Rattle.mon_schema.specs.Names.{SchemaLists}
use Rattle.mql_ast.specs.Trees.{ItemTree}
use Rattle.mql_ast.specs.Rows.{predicate_truth}
use Rattle.typed_trees.specs.Branches.{join_columns, union_columns, with_width}
use Rattle.typed_trees.specs.Fetches.{value_column}
use Rattle.typed_trees.specs.Groupings.{aggregate_columns, key_columns_at}
use Rattle.typed_trees.specs.Items.{value_columns}
use Rattle.typed_trees.specs.Meaning.{series_cells, aligned_rows, points_meant, rows_meant, value_row}
use Rattle.typed_trees.specs.Nodes as node
use Rattle.typed_trees.specs.Nodes.{NodeTree, columns_of}
use Rattle.typed_trees.specs.Typing.{aligned_column, aligned_width}
use Rattle.typed_trees.specs.declared.nodes.NodeInfo.{NodeInfo}
use Rattle.typed_rows.proofs.AlignedRows.{SeriesFits, aligned_are, series_fit}
use Rattle.typed_rows.proofs.AlignedValues.{aligned_fit}
use Rattle.typed_rows.proofs.FetchedPoints.{series_columns, series_typed}
use Rattle.typed_rows.proofs.FetchedTrees.{AllFit, columns_fetched_are, points_of_schemas}
use Rattle.typed_rows.proofs.JoinedRows.{FitColumns-append, all-flat_map, all-made, all-map}
use Rattle.typed_rows.proofs.KeptRows.{all-filter, all-sorted, all-take}
use Rattle.typed_rows.proofs.MadeCells.{all-filter_map, length_fit}
use Rattle.typed_rows.proofs.SumBounds.{AreLawful}
use Rattle.typed_rows.proofs.TypedTrees.{AlignOf, AreRows, GroupOf, ValueOf, lawful_columns}
use Rattle.typed_rows.proofs.UnitedRows.{left_fits, right_fits}
use Rattle.typed_rows.proofs.JoinedRows.{pair_fits}
use Rattle.mixer.proofs.LocalTrees.{MakesWhole}
use Rattle.mixer.proofs.StemmingRows.{AreWhole}
use Rattle.mixer.proofs.TypedCells.{AreTyped}
use Rattle.mixer.proofs.TypedRows.{group_typed, value_made}
use Rattle.mon_value.proofs.PlainLemmas.{all_append}

-- ---- alignments

align_typed : (held : SchemaLists) (grid : Grid) → IsLawfulGrid grid → (rows : List Row) → AllFit held rows
    → (info : NodeInfo) (by : Aligner) (input : NodeTree) → AlignOf held info by input
    → AreTyped info.columns (aligned_rows by grid (points_meant input rows))
align_typed held grid lawful rows fit info by input own =
    let points = points_meant input rows in
    let last = with_width (aligned_width by) (value_column own.found) in
    let to = series_columns own.target own.found ++ last ∷ [] in
    let same : to ≡ info.columns =
    aligned_are by own.target own.found
    ∙ ap (λ cs. map (aligned_column by) cs) (sym (columns_fetched_are held own.target own.found input own.points))
    ∙ sym own.is in
    subst (λ cs. AreTyped cs (aligned_rows by grid points)) same
    (all-flat_map (SeriesFits own.target own.found) (λ (row : TimedRow). FitColumns to row.cells)
    (λ (s : SeriesKey × List Point). map (row_of s.0) (aligned_values by grid s.1)) (points_by_series points)
    (λ s of. all-made (λ (timed : TimedValue). HasType own.found.value timed.value)
    (λ (row : TimedRow). FitColumns to row.cells) (row_of s.0) (aligned_values by grid s.1)
    (λ timed t. FitColumns-append (series_columns own.target own.found) (last ∷ []) (series_cells s.0)
    (timed.value ∷ []) (series_typed own.target own.found s.0 of.key) (t, tt))
    (all-map _ (λ (timed : TimedValue). HasType own.found.value timed.value) (aligned_values by grid s.1)
    (λ timed p. p.0) (aligned_fit grid lawful by own.found.value own.takes s.1 of.points)))
    (series_fit own.target own.found points
    (points_of_schemas held own.target own.found input own.points rows fit)))

-- ---- joins and unions

join_typed : (held : SchemaLists) (lefts rights : List Column) (rows others : List TimedRow) → AreTyped lefts rows
    → AreTyped rights others
    → AreTyped (join_columns held lefts rights) (flat_map (pairs_of lefts rights others) rows)
join_typed held lefts rights rows others fit more =
    let to = join_columns held lefts rights in
    all-flat_map (λ (row : TimedRow). FitColumns lefts row.cells) (λ (row : TimedRow). FitColumns to row.cells)
    (pairs_of lefts rights others) rows
    (λ left l. all-made (λ (row : TimedRow). FitColumns rights row.cells)
    (λ (row : TimedRow). FitColumns to row.cells) (pair_of lefts rights left)
    (filter (is_pair lefts rights left) others)
    (λ right r. pair_fits held lefts rights left right l r)
    (all-filter (λ (row : TimedRow). FitColumns rights row.cells) (is_pair lefts rights left) others more)) fit

-- ---- trees

firsts_typed : (columns : List Column) (most column : ℕ) (rows : List TimedRow) → AreTyped columns rows
    → (keys : List TimedRow)
    → AreTyped columns
    (flat_map (λ (group : TimedRow × List TimedRow). take most (sorted_list (rank_cmp column) group.1))
    (map (λ key. (key, rows_in [] key rows)) keys))
firsts_typed columns most column rows fit [] = tt
firsts_typed columns most column rows fit (key ∷ keys) =
    let P : TimedRow → Type 0 = λ row. FitColumns columns row.cells in
    all_append P (take most (sorted_list (rank_cmp column) (rows_in [] key rows))) _
    (all-take P most (sorted_list (rank_cmp column) (rows_in [] key rows))
    (all-sorted P (rank_cmp column) (rows_in [] key rows)
    (all-filter P (λ row. same_row key (group_key [] row)) rows fit)))
    (firsts_typed columns most column rows fit keys)

group_by_typed : (info : NodeInfo) (by : List ℕ) (with : List folds.Aggregate) (columns : List Column)
    → GroupOf info by with columns → AreLawful columns → (rows : List TimedRow) → AreTyped columns rows
    → AreTyped info.columns (group_rows by with rows)
group_by_typed info by with columns own lawful rows fit =
    let plain = aggregate_columns columns own.aggregates in
    let same : key_columns_at columns by ++ plain ≡ info.columns =
    ap (λ places. key_columns_at columns places ++ plain) (sym own.places) ∙ own.is in
    subst (λ cs. AreTyped cs (group_rows by with rows)) same
    (subst (λ made. AreTyped (key_columns_at columns by ++ plain) (group_rows by made rows)) own.makes
    (group_typed columns by own.aggregates lawful own.counts own.none rows fit))

values_typed : (info : NodeInfo) (items : List ItemTree) (columns : List Column) → ValueOf info items columns
    → (rows : List TimedRow) → AreTyped columns rows
    → AreTyped info.columns (filter_map (value_row columns items) rows)
values_typed info items columns own rows fit =
    subst (λ cs. AreTyped cs (filter_map (value_row columns items) rows)) own.is
    (all-filter_map (λ (row : TimedRow). FitColumns columns row.cells)
    (λ (row : TimedRow). FitColumns (value_columns columns items) row.cells) (value_row columns items) rows
    (λ row made f e. value_made columns items own.none row made f e) fit)

module _ (held : SchemaLists) (grid : Grid) (lawful : IsLawfulGrid grid) (rows : List Row)
    (fit : AllFit held rows) where
  pub tree_typed : (tree : NodeTree) → AreRows held tree → AreTyped (columns_of tree) (rows_meant grid tree rows)
  tree_typed (node.Fetch info schema metric) own = tt
  tree_typed (node.Filter info by input) own =
      subst (λ cs. AreTyped cs (rows_meant grid (node.Filter info by input) rows)) own.0
      (all-filter (λ (row : TimedRow). FitColumns (columns_of input) row.cells)
      (λ (row : TimedRow). predicate_truth by info.columns row.cells) (rows_meant grid input rows)
      (tree_typed input own.1))
  tree_typed (node.Align info by input) own = align_typed held grid lawful rows fit info by input own
  tree_typed (node.GroupBy info by with input) own =
      group_by_typed info by with (columns_of input) own.0 (lawful_columns held input own.1)
      (rows_meant grid input rows)
      (tree_typed input own.1)
  tree_typed (node.Value info items input) own =
      values_typed info items (columns_of input) own.0 (rows_meant grid input rows) (tree_typed input own.1)
  tree_typed (node.Top info most column input) own =
      subst (λ cs. AreTyped cs (rows_meant grid (node.Top info most column input) rows)) own.0
      (firsts_typed (columns_of input) most column (rows_meant grid input rows) (tree_typed input own.1)
      (group_keys [] (rows_meant grid input rows)))
  tree_typed (node.Join info left right) own =
      subst (λ cs. AreTyped cs (rows_meant grid (node.Join info left right) rows)) own.0.is
      (join_typed held (columns_of left) (columns_of right) (rows_meant grid left rows) (rows_meant grid right rows)
      (tree_typed left own.1.0) (tree_typed right own.1.1))
  tree_typed (node.Union info left right) own =
      let to = union_columns held (columns_of left) (columns_of right) in
      subst (λ cs. AreTyped cs (rows_meant grid (node.Union info left right) rows)) own.0.is
      (all_append (λ (row : TimedRow). FitColumns to row.cells) (rows_meant grid left rows)
      (rows_meant grid right rows)
      (all-map (λ (row : TimedRow). FitColumns (columns_of left) row.cells)
      (λ (row : TimedRow). FitColumns to row.cells) (rows_meant grid left rows)
      (λ row f. left_fits held (columns_of left) (columns_of right) row.cells own.0.same f)
      (tree_typed left own.1.0))
      (all-map (λ (row : TimedRow). FitColumns (columns_of right) row.cells)
      (λ (row : TimedRow). FitColumns to row.cells) (rows_meant grid right rows)
      (λ row f. right_fits held (columns_of left) (columns_of right) row.cells own.0.same f)
      (tree_typed right own.1.1)))

  whole : (columns : List Column) (some : List TimedRow) → AreTyped columns some → AreWhole columns some
  whole columns some typed =
      all-map (λ (row : TimedRow). FitColumns columns row.cells)
      (λ (row : TimedRow). length row.cells ≡ length columns) some (λ row f. length_fit columns row.cells f) typed

  -- its groups and values have a cell for each column
  pub makes_whole : (tree : NodeTree) → AreRows held tree → MakesWhole grid rows tree
  makes_whole (node.Fetch info schema metric) own = tt
  makes_whole (node.Filter info by input) own = makes_whole input own.1
  makes_whole (node.Align info by input) own = tt
  makes_whole (node.GroupBy info by with input) own =
      (whole info.columns _ (tree_typed (node.GroupBy info by with input) own), makes_whole input own.1)
  makes_whole (node.Value info items input) own =
      (whole info.columns _ (tree_typed (node.Value info items input) own), makes_whole input own.1)
  makes_whole (node.Top info most column input) own = makes_whole input own.1
  makes_whole (node.Join info left right) own = (makes_whole left own.1.0, makes_whole right own.1.1)
  makes_whole (node.Union info left right) own = (makes_whole left own.1.0, makes_whole right own.1.1)
