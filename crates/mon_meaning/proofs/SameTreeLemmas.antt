-- Trees that are the same, wherever they stand in the text, mean the same rows and are the same work.
use Rattle.std.proofs.Common.{◌≡◌, ◌∙◌, ◌&&◌, ◌||◌, ◌+◌, ◌++◌, ◌∷◌, [], not, cond, List, refl, ap, sym}
use Rattle.std.proofs.Common.{length}
use Rattle.std.proofs.Common.{filter, map, sum_by, Some, None, ℤ, true}
use Rattle.std.proofs.lemmas.Bool.Decides.{Decides-int_eq}
use Rattle.std.proofs.lemmas.Slice.Eq.{slice_eq-Decides}
use Rattle.std.specs.Cmp.Lexicographic.{pointwise}
use Rattle.std.specs.Ordering.{int_eq}
use Rattle.std.specs.List.{cons_option, filter_map, flat_map, list_any}
use Rattle.mon_value.specs.Grids.{aligned_values}
use Rattle.mon_value.specs.Groups.{group_rows, top_rows}
use Rattle.mon_value.specs.Order.{cells_of, row_of}
use Rattle.mon_value.specs.Tables.{pairs_of}
use Rattle.mon_value.specs.declared.aligners.Aligner.{Aligner}
use Rattle.mon_value.specs.declared.columns.Column.{Column}
use Rattle.mon_value.specs.declared.grids.Grid.{Grid}
use Rattle.mon_value.specs.declared.rows.SeriesKey.{SeriesKey}
use Rattle.mon_value.specs.declared.tables.TimedRow.{TimedRow}
use Rattle.mon_value.specs.declared.values.Value.{Value}
use Rattle.mql_ast.specs.Rows.{meets_no_values, sum_value}
use Rattle.mql_ast.specs.Trees as tree
use Rattle.mql_ast.specs.Trees.{ItemTree, PredicateTree}
use Rattle.typed_trees.specs.Meaning.{key_cells, lets_in, meets, names_keys, series_cells, value_row}
use Rattle.typed_trees.specs.Nodes as node
use Rattle.typed_trees.specs.Nodes.{NodeTree, columns_of}
use Rattle.mon_expr.proofs.SameTreeLemmas.{bare-none, bare-truth, bare-value}
use Rattle.mon_expr.specs.SameTrees.{bare_predicate}
use Rattle.mon_meaning.specs.within.Reach.{points_within_reach}
use Rattle.mon_meaning.specs.within.SameTrees.{bare_items, bare_tree}
use Rattle.mon_meaning.specs.within.SeriesMeaning.{SeriesGroup, align_load, flows, load_by_series}
use Rattle.mon_meaning.specs.within.SeriesMeaning.{rows_by_series, series_rows}

-- bounds that compare as the same are equal
pub bounds_same : (own others : List ℤ) → pointwise int_eq own others ≡ true → own ≡ others
bounds_same own others = (slice_eq-Decides Decides-int_eq own others (pointwise int_eq own others) refl).0

-- ---- which points flow

bare-keys : (columns : List Column) (by : PredicateTree)
    → names_keys columns (bare_predicate by) ≡ names_keys columns by
bare-keys columns (tree.Compare name how literal) = refl
bare-keys columns (tree.Like name pattern) = refl
bare-keys columns (tree.Not p) = bare-keys columns p
bare-keys columns (tree.And p q) = λ i. bare-keys columns p i && bare-keys columns q i
bare-keys columns (tree.Or p q) = λ i. bare-keys columns p i && bare-keys columns q i

bare-lets_in : (by : PredicateTree) (columns : List Column) (key : SeriesKey)
    → lets_in (bare_predicate by) columns key ≡ lets_in by columns key
bare-lets_in by columns key = λ i. not (bare-keys columns by i) || bare-truth columns (series_cells key) by i

bare-meets : (input : NodeTree) (key : SeriesKey) → meets (bare_tree input) key ≡ meets input key
bare-meets (node.Fetch info schema metric) key = refl
bare-meets (node.Filter info by input) key = λ i. bare-lets_in by info.columns key i && bare-meets input key i
bare-meets (node.Align info by input) key = refl
bare-meets (node.GroupBy info by with input) key = refl
bare-meets (node.Value info items input) key = refl
bare-meets (node.Top info most column input) key = refl
bare-meets (node.Join info left right) key = refl
bare-meets (node.Union info left right) key = refl

bare-flows : (input : NodeTree) (key : SeriesKey) (value : Value) → flows (bare_tree input) key value ≡ flows input key value
bare-flows (node.Fetch info schema metric) key value = refl
bare-flows (node.Filter info by input) key value =
    λ i. bare-truth info.columns (cells_of key value) by i && bare-flows input key value i
bare-flows (node.Align info by input) key value = refl
bare-flows (node.GroupBy info by with input) key value = refl
bare-flows (node.Value info items input) key value = refl
bare-flows (node.Top info most column input) key value = refl
bare-flows (node.Join info left right) key value = refl
bare-flows (node.Union info left right) key value = refl

bare-series : (grid : Grid) (by : Aligner) (input : NodeTree) (one : SeriesGroup)
    → series_rows grid by (bare_tree input) one ≡ series_rows grid by input one
bare-series grid by input one =
    λ i. map (row_of one.0) (aligned_values by grid (filter (λ point. bare-flows input one.0 point.value i) one.1))

bare-align : (grid : Grid) (by : Aligner) (input : NodeTree) (series : List SeriesGroup)
    → flat_map (series_rows grid by (bare_tree input)) series ≡ flat_map (series_rows grid by input) series
bare-align grid by input series = λ i. flat_map (λ one. bare-series grid by input one i) series

bare-align_load : (grid : Grid) (by : Aligner) (input : NodeTree) (series : List SeriesGroup)
    → align_load grid by (bare_tree input) series ≡ align_load grid by input series
bare-align_load grid by input series =
    λ i. sum_by (λ (one : SeriesGroup). cond (bare-meets input one.0 i) (length (points_within_reach grid by one.1)) 0) series
    + length (bare-align grid by input series i)

-- ---- rows

bare-columns : (input : NodeTree) → columns_of (bare_tree input) ≡ columns_of input
bare-columns (node.Fetch info schema metric) = refl
bare-columns (node.Filter info by input) = refl
bare-columns (node.Align info by input) = refl
bare-columns (node.GroupBy info by with input) = refl
bare-columns (node.Value info items input) = refl
bare-columns (node.Top info most column input) = refl
bare-columns (node.Join info left right) = refl
bare-columns (node.Union info left right) = refl

bare-any_none : (items : List ItemTree) (columns : List Column) (cells : List Value)
    → list_any (λ (item : ItemTree). meets_no_values item.sum columns cells) (bare_items items)
    ≡ list_any (λ (item : ItemTree). meets_no_values item.sum columns cells) items
bare-any_none [] columns cells = refl
bare-any_none (item ∷ items) columns cells =
    λ i. bare-none columns cells item.sum i || bare-any_none items columns cells i

bare-values : (items : List ItemTree) (columns : List Column) (cells : List Value)
    → filter_map (λ (item : ItemTree). sum_value item.sum columns cells) (bare_items items)
    ≡ filter_map (λ (item : ItemTree). sum_value item.sum columns cells) items
bare-values [] columns cells = refl
bare-values (item ∷ items) columns cells =
    λ i. cons_option (bare-value columns cells item.sum i) (bare-values items columns cells i)

bare-value_row : (columns : List Column) (items : List ItemTree) (row : TimedRow)
    → value_row columns (bare_items items) row ≡ value_row columns items row
bare-value_row columns items row =
    λ i. cond (bare-any_none items columns row.cells i) None
    (Some (record {
      time = row.time;
      cells = key_cells columns row.cells ++ bare-values items columns row.cells i;
    }))

module _ (grid : Grid) (series : List SeriesGroup) where
  bare-rows : (t : NodeTree) → rows_by_series grid (bare_tree t) series ≡ rows_by_series grid t series
  bare-rows (node.Fetch info schema metric) = refl
  bare-rows (node.Filter info by input) =
      λ i. filter (λ (row : TimedRow). bare-truth info.columns row.cells by i) (bare-rows input i)
  bare-rows (node.Align info by input) = bare-align grid by input series
  bare-rows (node.GroupBy info by with input) = ap (group_rows by with) (bare-rows input)
  bare-rows (node.Value info items input) =
      ap (λ columns. filter_map (value_row columns (bare_items items)) (rows_by_series grid (bare_tree input) series))
      (bare-columns input)
      ∙ (λ i. filter_map (λ row. bare-value_row (columns_of input) items row i) (bare-rows input i))
  bare-rows (node.Top info most column input) = ap (top_rows most column) (bare-rows input)
  bare-rows (node.Join info left right) =
      λ i. flat_map (pairs_of (bare-columns left i) (bare-columns right i) (bare-rows right i)) (bare-rows left i)
  bare-rows (node.Union info left right) = λ i. bare-rows left i ++ bare-rows right i

  -- the same trees mean the same rows
  pub same_rows : (one other : NodeTree) → bare_tree one ≡ bare_tree other
      → rows_by_series grid one series ≡ rows_by_series grid other series
  same_rows one other same =
      sym (bare-rows one) ∙ ap (λ t. rows_by_series grid t series) same ∙ bare-rows other

  bare-load : (t : NodeTree) → load_by_series grid (bare_tree t) series ≡ load_by_series grid t series
  bare-load (node.Fetch info schema metric) = refl
  bare-load (node.Filter info by input) = bare-load input
  bare-load (node.Align info by input) = bare-align_load grid by input series
  bare-load (node.GroupBy info by with input) = bare-load input
  bare-load (node.Value info items input) = bare-load input
  bare-load (node.Top info most column input) = bare-load input
  bare-load (node.Join info left right) =
      λ i. bare-load left i + bare-load right i + length (bare-rows (node.Join info left right) i)
  bare-load (node.Union info left right) = λ i. bare-load left i + bare-load right i

  -- and are the same work
  pub same_load : (one other : NodeTree) → bare_tree one ≡ bare_tree other
      → load_by_series grid one series ≡ load_by_series grid other series
  same_load one other same =
      sym (bare-load one) ∙ ap (λ t. load_by_series grid t series) same ∙ bare-load other
