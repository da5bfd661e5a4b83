-- The rows of a typed tree have the types of its columns, however many there are.
use Rattle.std.proofs.lemmas.Bool.{or_parts}
use Rattle.std.proofs.Common.{◌≡◌, ◌∙◌, ◌<◌, ℕ, Bool, false, Option, Some, None, List, [], ◌∷◌}
use Rattle.std.proofs.Common.{◌++◌, map, length, refl, sym, ap, subst}
use Rattle.std.specs.Prelude.{option_and_then, option_map, slice_get}
use Rattle.std.specs.List.{AllByRecursion, cons_option, filter_map, flat_map, list_any}
use Rattle.mon_value.specs.Tables.{FitColumns}
use Rattle.mon_value.specs.Groups.{TakesColumn, TakesType, aggregate_made, group_key, group_keys, group_row, group_rows}
use Rattle.mon_value.specs.Groups.{rows_in}
use Rattle.mon_value.specs.Same.{same_row}
use Rattle.mon_value.specs.declared.aggregates.Aggregate as folds
use Rattle.mon_value.specs.declared.aggregates.AggregateKind.{AggregateKind}
use Rattle.mon_value.specs.declared.aggregates.AggregateKind.TheVariants as kind
use Rattle.mon_value.specs.declared.columns.Column.{Column}
use Rattle.mon_value.specs.declared.tables.TimedRow.{TimedRow}
use Rattle.mon_value.specs.declared.values.Value.{Value}
use Rattle.mon_value.specs.declared.values.ValueType.{ValueType}
use Rattle.mon_value.specs.declared.values.ValueType.TheVariants as type
use Rattle.mon_value.proofs.SameLemmas.{same_row-Decides}
use Rattle.mql_ast.specs.Rows.{column_named, place_of, meets_no_values, sum_value}
use Rattle.mql_ast.specs.Trees as tree
use Rattle.mql_ast.specs.Trees.{ItemTree, SumTree}
use Rattle.mql_ast.specs.declared.names.Name.{Name}
use Rattle.mql_ast.specs.declared.operations.Aggregate.{Aggregate}
use Rattle.mql_ast.specs.declared.operations.FoldWord.{FoldWord}
use Rattle.mql_ast.specs.declared.operations.FoldWord.TheVariants as fold
use Rattle.typed_trees.specs.Groupings.{aggregate_at, aggregate_column, aggregate_columns, aggregate_faults}
use Rattle.typed_trees.specs.Groupings.{aggregate_name, aggregate_of, aggregates_over, aggregated_column, fold_kind}
use Rattle.typed_trees.specs.Groupings.{folded_column, folded_faults, key_columns_at, place_found}
use Rattle.typed_trees.specs.Groupings as grouping
use Rattle.typed_trees.specs.Items.{item_column, item_name, item_sum_faults, key_columns, plain_column}
use Rattle.typed_trees.specs.Meaning.{key_cells, value_row}
use Rattle.typed_trees.specs.Soundness.{CountsRows}
use Rattle.typed_trees.specs.Branches.{count_width}
use Rattle.typed_rows.proofs.FoldedColumns.{fold_made, over_is, no_count}
use Rattle.typed_rows.proofs.JoinedRows.{FitColumns-append, all-map}
use Rattle.typed_rows.proofs.KeptRows.{all-filter}
use Rattle.typed_rows.proofs.MadeCells.{kept_shaped}
use Rattle.typed_rows.proofs.SumBounds.{AreLawful}
use Rattle.typed_rows.proofs.GroupedRows.{each_has_rows}
use Rattle.mon_meaning.proofs.ApartKeys.{all_keys}
use Rattle.mixer.proofs.TypedCells.{AreTyped, TypedCell, alone_typed, aggregate_typed, cells_typed, cons_typed}
use Rattle.mixer.proofs.TypedCells.{count_typed, keys_typed, sum_typed}
use Rattle.mon_value.proofs.PlainLemmas.{nothing_is, same_item}
use Rattle.typed_trees.proofs.FetchColumnLemmas.{both_none}
use Rattle.typed_rows.proofs.ValueRows.{row_by}
use Rattle.typed_rows.proofs.TypedGridLemmas.{no_test}

-- ---- aggregates

kind_other : (how : FoldWord) (of : ValueType) → (how ≡ fold.Count → ⊥) → fold_kind how of ≡ kind.Count → ⊥
kind_other fold.Count of other e = other refl
kind_other fold.Sum of other e = cc
kind_other fold.Min of other e = cc
kind_other fold.Max of other e = cc
kind_other fold.Mean of other e = cc
kind_other fold.Merge of other e = cc
kind_other fold.Aggregate type.Int other e = cc
kind_other fold.Aggregate type.Bool other e = cc
kind_other fold.Aggregate type.Text other e = cc
kind_other fold.Aggregate (type.Dist bounds) other e = cc

takes_type : (what : AggregateKind) (c : Column) → TakesColumn what (Some c) → TakesType what c.of
takes_type kind.Count c takes = tt
takes_type kind.Sum c takes = takes
takes_type kind.Min c takes = takes
takes_type kind.Max c takes = takes
takes_type kind.Mean c takes = takes
takes_type kind.Merge c takes = takes

-- an aggregate's column and what it makes of rows that are there
record AggregateCell (columns : List Column) (rows : List TimedRow) (o : Option Column) (m : Option folds.Aggregate)
    : Type 0 where
  column : Column
  made : folds.Aggregate
  is : o ≡ Some column
  is_made : m ≡ Some made
  typed : TypedCell (Some column) (aggregate_made made.what made.column rows)

named_cell : (columns : List Column) → AreLawful columns → (n : List ℕ) (how : FoldWord) (name : Name)
    → CountsRows how (Some name) → folded_faults columns how (Some name) ≡ []
    → (o : Option Column) → column_named name.text columns ≡ o
    → (rows : List TimedRow) → 0 < length rows → AreTyped columns rows
    → AggregateCell columns rows (option_map (folded_column n how) (column_named name.text columns))
    (option_and_then (aggregate_at columns how) (place_found name.text columns))
named_cell columns lawful n how name counts none None e rows some fit =
    let fm = fold_made columns lawful n how (Some name) counts none in
    absurd (nothing_is fm.column (ap (λ o. option_map (folded_column n how) o) (sym e) ∙ fm.is))
named_cell columns lawful n how name counts none (Some c) e rows some fit =
    let fm = fold_made columns lawful n how (Some name) counts none in
    let place = place_of name.text columns in
    let what = fold_kind how c.of in
    let made = grouping.typed_aggregate how c.of place in
    let over = over_is columns how name.text c e in
    let same : fm.made ≡ made = same_item fm.made made (sym fm.is_made ∙ over) in
    let takes : TakesColumn what (slice_get columns place) =
    subst (λ (m : folds.Aggregate). TakesColumn m.what (slice_get columns m.column)) same fm.takes in
    record {
      column = folded_column n how c;
      made = made;
      is = ap (λ o. option_map (folded_column n how) o) e;
      is_made = over;
      typed = aggregate_typed columns what place c (folded_column n how c) e refl
          (kind_other how c.of (no_count how name counts))
          (takes_type what c (subst (λ o. TakesColumn what o) e takes)) rows some fit;
    }

aggregate_cell : (columns : List Column) → AreLawful columns → (n : List ℕ) (how : FoldWord) (source : Option Name)
    → CountsRows how source → folded_faults columns how source ≡ []
    → (rows : List TimedRow) → 0 < length rows → AreTyped columns rows
    → AggregateCell columns rows (aggregate_column columns n how source) (grouping.aggregate_over columns how source)
aggregate_cell columns lawful n how None counts none rows some fit = record {
  column = plain_column n type.Int count_width;
  made = record { what = kind.Count; column = 0 };
  is = refl;
  is_made = refl;
  typed = count_typed (plain_column n type.Int count_width) refl rows some;
}
aggregate_cell columns lawful n how (Some name) counts none rows some fit =
    named_cell columns lawful n how name counts none (column_named name.text columns) refl rows some fit

abbrev of_rows : List TimedRow → folds.Aggregate → Option Value
of_rows rows m = aggregate_made m.what m.column rows

cell_more : (columns : List Column) (rows : List TimedRow) (o : Option Column) (m : Option folds.Aggregate)
    → AggregateCell columns rows o m → (cs : List Column) (ms : List folds.Aggregate)
    → FitColumns cs (filter_map (of_rows rows) ms)
    → FitColumns (cons_option o cs) (filter_map (of_rows rows) (cons_option m ms))
cell_more columns rows None m cell cs ms fit = absurd (nothing_is cell.column cell.is)
cell_more columns rows (Some c) None cell cs ms fit = absurd (nothing_is cell.made cell.is_made)
cell_more columns rows (Some c) (Some m) cell cs ms fit =
    let column : cell.column ≡ c = sym (same_item c cell.column cell.is) in
    let made : cell.made ≡ m = sym (same_item m cell.made cell.is_made) in
    cons_typed (Some c) (of_rows rows m) cs (filter_map (of_rows rows) ms)
    (subst (λ d. TypedCell (Some d) (of_rows rows m)) column
    (subst (λ (a : folds.Aggregate). TypedCell (Some cell.column) (of_rows rows a)) made cell.typed)) fit

aggregates_typed : (columns : List Column) → AreLawful columns → (aggregates : List Aggregate)
    → AllByRecursion (λ (a : Aggregate). CountsRows a.fold a.column) aggregates
    → flat_map (aggregate_faults columns) aggregates ≡ []
    → (rows : List TimedRow) → 0 < length rows → AreTyped columns rows
    → FitColumns (aggregate_columns columns aggregates) (filter_map (of_rows rows) (aggregates_over columns aggregates))
aggregates_typed columns lawful [] counts none rows some fit = tt
aggregates_typed columns lawful (a ∷ aggregates) counts none rows some fit =
    let parts = both_none (aggregate_faults columns a) (flat_map (aggregate_faults columns) aggregates) none in
    cell_more columns rows (aggregated_column columns a) (aggregate_of columns a)
    (aggregate_cell columns lawful (aggregate_name a).text a.fold a.column counts.0 parts.0 rows some fit)
    (aggregate_columns columns aggregates) (aggregates_over columns aggregates)
    (aggregates_typed columns lawful aggregates counts.1 parts.1 rows some fit)

-- ---- groups

module _ (columns : List Column) (by : List ℕ) (aggregates : List Aggregate) (lawful : AreLawful columns)
    (counts : AllByRecursion (λ (a : Aggregate). CountsRows a.fold a.column) aggregates)
    (none : flat_map (aggregate_faults columns) aggregates ≡ []) (rows : List TimedRow) (fit : AreTyped columns rows)
  where
    abbrev made : List folds.Aggregate
    made = aggregates_over columns aggregates

    groups_typed : (keys : List TimedRow)
        → AllByRecursion (λ (key : TimedRow). FitColumns (key_columns_at columns by) key.cells) keys
        → AllByRecursion (λ key. 0 < length (rows_in by key rows)) keys
        → AreTyped (key_columns_at columns by ++ aggregate_columns columns aggregates)
        (map (group_row made) (map (λ key. (key, rows_in by key rows)) keys))
    groups_typed [] own some = tt
    groups_typed (key ∷ keys) own some = (
      FitColumns-append (key_columns_at columns by) (aggregate_columns columns aggregates) key.cells
          (filter_map (of_rows (rows_in by key rows)) made) own.0
          (aggregates_typed columns lawful aggregates counts none (rows_in by key rows) some.0
          (all-filter (λ (row : TimedRow). FitColumns columns row.cells) (λ row. same_row key (group_key by row)) rows
          fit)),
      groups_typed keys own.1 some.1,
    )

    pub group_typed : AreTyped (key_columns_at columns by ++ aggregate_columns columns aggregates)
        (group_rows by made rows)
    group_typed =
        groups_typed (group_keys by rows)
        (all_keys same_row same_row-Decides (group_key by)
        (λ (key : TimedRow). FitColumns (key_columns_at columns by) key.cells) rows
        (all-map (λ (row : TimedRow). FitColumns columns row.cells)
        (λ row. FitColumns (key_columns_at columns by) (group_key by row).cells) rows
        (λ row own. keys_typed columns row.cells own by) fit))
        (all_keys same_row same_row-Decides (group_key by) (λ key. 0 < length (rows_in by key rows)) rows
        (each_has_rows by rows))

-- ---- values

item_typed : (columns : List Column) (label : Option Name) (e : SumTree)
    → item_sum_faults columns (record { name = label; sum = e }) ≡ [] → (cells : List Value) → FitColumns columns cells
    → meets_no_values e columns cells ≡ false
    → TypedCell (item_column columns (record { name = label; sum = e })) (sum_value e columns cells)
item_typed columns label (tree.Column name) none cells fit some =
    alone_typed columns (item_name (record { name = label; sum = tree.Column name })).text (place_of name.text columns)
    (column_named name.text columns) refl (no_test _ _ _ none) cells fit
item_typed columns label (tree.Number at z) none cells fit some =
    sum_typed columns (item_name (record { name = label; sum = tree.Number at z })).text (tree.Number at z) none cells
    fit some
item_typed columns label (tree.Plus left right) none cells fit some =
    sum_typed columns (item_name (record { name = label; sum = tree.Plus left right })).text (tree.Plus left right) none
    cells fit some
item_typed columns label (tree.Minus left right) none cells fit some =
    sum_typed columns (item_name (record { name = label; sum = tree.Minus left right })).text (tree.Minus left right)
    none cells fit some
item_typed columns label (tree.Percentile at name p) none cells fit some =
    sum_typed columns (item_name (record { name = label; sum = tree.Percentile at name p })).text
    (tree.Percentile at name p) none cells fit some

items_typed : (columns : List Column) (items : List ItemTree) → flat_map (item_sum_faults columns) items ≡ []
    → (cells : List Value) → FitColumns columns cells
    → list_any (λ (item : ItemTree). meets_no_values item.sum columns cells) items ≡ false
    → AllByRecursion (λ (item : ItemTree). TypedCell (item_column columns item) (sum_value item.sum columns cells))
    items
items_typed columns [] none cells fit some = tt
items_typed columns (item ∷ items) none cells fit some =
    let parts = both_none (item_sum_faults columns item) (flat_map (item_sum_faults columns) items) none in
    let both = or_parts (meets_no_values item.sum columns cells)
    (list_any (λ (i : ItemTree). meets_no_values i.sum columns cells) items) some in (
      item_typed columns item.name item.sum parts.0 cells fit both.0,
      items_typed columns items parts.1 cells fit both.1,
    )

pub value_made : (columns : List Column) (items : List ItemTree) → flat_map (item_sum_faults columns) items ≡ []
    → (row made : TimedRow) → FitColumns columns row.cells → value_row columns items row ≡ Some made
    → FitColumns (key_columns columns ++ filter_map (item_column columns) items) made.cells
value_made columns items none row made fit e =
    let rest = filter_map (λ (item : ItemTree). sum_value item.sum columns row.cells) items in
    let whole : TimedRow = record { time = row.time; cells = key_cells columns row.cells ++ rest } in
    let parts = row_by (list_any (λ (item : ItemTree). meets_no_values item.sum columns row.cells) items) whole made
    e in
    subst (λ (r : TimedRow). FitColumns (key_columns columns ++ filter_map (item_column columns) items) r.cells) parts.1
    (FitColumns-append (key_columns columns) (filter_map (item_column columns) items) (key_cells columns row.cells) rest
    (kept_shaped (λ (column : Column). column.key) columns row.cells fit)
    (cells_typed (item_column columns) (λ (item : ItemTree). sum_value item.sum columns row.cells) items
    (items_typed columns items none row.cells fit parts.0)))
