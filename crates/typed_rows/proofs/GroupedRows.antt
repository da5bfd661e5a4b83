-- The rows of `group_by`: types, and widths.
use Rattle.std.proofs.Common.{◌≡◌, ◌∙◌, ◌≤◌, ◌<◌, ℕ, ℤ, ◌+◌, ◌^◌, Bool, true, false, not, cond, nat_lt, zero, suc}
use Rattle.std.proofs.Common.{Option, Some, None, List, [], ◌∷◌, ◌++◌, map, length, subst, refl, ap, sym, arith}
use Rattle.std.specs.Prelude.{option_and_then, option_map, option_to_list, slice_get}
use Rattle.std.specs.List.{AllByRecursion, cons_option, filter_map, flat_map, sum_by}
use Rattle.std.specs.Ordering.{int_eq}
use Rattle.std.proofs.Math.Nat.{pow-le-pow_right}
use Rattle.std.proofs.lemmas.Bool.{ltb-true}
use Rattle.std.proofs.lemmas.Bool.Decides.{Decides-int_eq}
use Rattle.std.proofs.lemmas.List.Sums.{sum_by-cons}
use Rattle.mon_value.specs.Tables.{FitColumns}
use Rattle.mon_value.specs.Groups.{CanGroup, SumsFit, TakesColumn, UnlessCount, rows_at, aggregate_made, group_key}
use Rattle.mon_value.specs.Groups.{group_keys, group_row, group_rows, rows_by_group, rows_in}
use Rattle.mon_value.specs.Same.{same_row}
use Rattle.mon_value.specs.declared.aggregates.Aggregate as folds
use Rattle.mon_value.specs.declared.aggregates.AggregateKind.{AggregateKind}
use Rattle.mon_value.specs.declared.aggregates.AggregateKind.TheVariants as kind
use Rattle.mon_value.specs.declared.columns.Column.{Column}
use Rattle.mon_value.specs.declared.tables.TimedRow.{TimedRow}
use Rattle.mon_value.specs.declared.values.Value.{Value}
use Rattle.mon_value.proofs.SameLemmas.{same_row-Decides}
use Rattle.mql_ast.specs.Rows.{FitWidths}
use Rattle.mql_ast.specs.declared.names.Name.{Name}
use Rattle.mql_ast.specs.declared.operations.Aggregate.{Aggregate}
use Rattle.typed_trees.specs.Groupings.{aggregate_columns, aggregate_faults, aggregate_name, aggregate_of}
use Rattle.typed_trees.specs.Groupings.{aggregates_over, as_key, aggregated_column, grouped_columns, key_at}
use Rattle.typed_trees.specs.Groupings.{key_columns_at}
use Rattle.typed_trees.specs.Groupings.{listed_places, new_place, place_found}
use Rattle.typed_trees.specs.Items.{is_taken, reserved_names, with_name}
use Rattle.typed_trees.specs.Soundness.{CountsRows, FitTable, TotalsFit}
use Rattle.typed_rows.proofs.FoldedColumns.{FoldMade, IsGroup, fold_made, value_fits}
use Rattle.typed_rows.proofs.GroupSums.{group_sums_within}
use Rattle.typed_rows.proofs.JoinedRows.{FitColumns-append, FitWidths-append, all-made, all-map, column_of_all}
use Rattle.typed_rows.proofs.KeptRows.{all-filter}
use Rattle.typed_rows.proofs.KnownSums.{cell_of}
use Rattle.typed_rows.proofs.MadeCells.{IsThere, MadeCell, Side, all-filter_map, back, cell_there, from_item, front}
use Rattle.typed_rows.proofs.MadeCells.{get_made, is_there, length_fit, made_shaped, made_within}
use Rattle.typed_rows.proofs.MadeCells.{side_of, sums_less}
use Rattle.typed_rows.proofs.SumBounds.{AreLawful, IsSound, amount}
use Rattle.typed_rows.proofs.Totals.{TotalsFit-fewer, counted, sum_by-filter-le, total-counted, totals_from}
use Rattle.typed_rows.proofs.ValueRows.{FitsBoth, alone_total}
use Rattle.mon_value.proofs.PlainLemmas.{get_back, get_front, nothing_is, all_both, sum_by-map, all_append, filter-few}
use Rattle.typed_trees.proofs.FetchColumnLemmas.{both_none}
use Rattle.mon_value.proofs.PlainLemmas.{same_item, map_same}

-- ---- lists made twice

fused_by : {B C : Type 0} (g : B → Option C) (o : Option B) (ys : List B)
    → filter_map g (cons_option o ys) ≡ cons_option (option_and_then g o) (filter_map g ys)
fused_by g None ys = refl
fused_by g (Some y) ys = refl

fused : {A B C : Type 0} (g : B → Option C) (h : A → Option B) (xs : List A)
    → filter_map g (filter_map h xs) ≡ filter_map (λ x. option_and_then g (h x)) xs
fused g h [] = refl
fused g h (x ∷ xs) =
    fused_by g (h x) (filter_map h xs) ∙ ap (λ zs. cons_option (option_and_then g (h x)) zs) (fused g h xs)

-- ---- the listed places

slice_there : {A : Type 0} (xs : List A) (n : ℕ) → n < length xs → IsThere (slice_get xs n)
slice_there [] n h = absurd (omega (arith, h))
slice_there (x ∷ xs) zero h = tt
slice_there (x ∷ xs) (suc n) h = slice_there xs n (omega (arith, h))

found_within : (b : Bool) (n place : ℕ) → cond b (Some n) None ≡ Some place → (b ≡ true) × (n ≡ place)
found_within true n place e = (refl, same_item n place e)
found_within false n place e = absurd (nothing_is place e)

-- a place that is found is one of a column
place_within : (columns : List Column) (n l place : ℕ) → cond (nat_lt n l) (Some n) None ≡ Some place → place < l
place_within columns n l place e =
    let parts = found_within (nat_lt n l) n place e in
    let P : ℕ → Type 0 = λ m. m < l in
    subst P parts.1 (ltb-true n l parts.0)

all_listed : {A : Type 0} (P : A → Type 0) (o : Option A) → ((x : A) → o ≡ Some x → P x)
    → AllByRecursion P (option_to_list o)
all_listed P None step = tt
all_listed P (Some x) step = (step x refl, tt)

unless_taken : (b : Bool) (o : Option ℕ) (place : ℕ) → cond b None o ≡ Some place → o ≡ Some place
unless_taken true o place e = absurd (nothing_is place e)
unless_taken false o place e = e

pub listed_within : (columns : List Column) (taken : List (List ℕ)) (names : List Name)
    → AllByRecursion (λ place. place < length columns) (listed_places columns taken names)
listed_within columns taken [] = tt
listed_within columns taken (name ∷ names) =
    all_append (λ place. place < length columns) (option_to_list (new_place columns taken name.text))
    (listed_places columns (with_name taken name.text) names)
    (all_listed (λ place. place < length columns) (new_place columns taken name.text)
    (λ place e. place_within columns _ (length columns) place
    (unless_taken (is_taken name.text taken) (place_found name.text columns) place e)))
    (listed_within columns (with_name taken name.text) names)

-- ---- the cells of groups

key_cell : (columns : List Column) (row : TimedRow) → FitsBoth columns row → (place : ℕ) → (o : Option Column)
    → slice_get columns place ≡ o → IsThere o
    → MadeCell (option_map as_key o) (slice_get row.cells place)
key_cell columns row fit place None e there = absurd there
key_cell columns row fit place (Some c) e there =
    let cell = cell_of columns row.cells fit.0 place c e in
    let P : Option Value → Type 0 = λ o. MadeCell (Some (as_key c)) o in
    subst P (sym cell.is) (value_fits columns place c e row cell.value fit cell.is)

key_cells_made : (columns : List Column) (row : TimedRow) → FitsBoth columns row → (by : List ℕ)
    → AllByRecursion (λ place. place < length columns) by
    → AllByRecursion (λ place. MadeCell (key_at columns place) (slice_get row.cells place)) by
key_cells_made columns row fit by within =
    all-map (λ place. place < length columns) (λ place. MadeCell (key_at columns place) (slice_get row.cells place))
    by
    (λ place h. key_cell columns row fit place (slice_get columns place) refl (slice_there columns place h))
    within

keys_there : (columns : List Column) (by : List ℕ) → AllByRecursion (λ place. place < length columns) by
    → AllByRecursion (λ place. IsThere (key_at columns place)) by
keys_there columns by within =
    all-map (λ place. place < length columns) (λ place. IsThere (key_at columns place)) by
    (λ place h. by_column (slice_get columns place) (slice_there columns place h)) within
  where
    by_column : (o : Option Column) → IsThere o → IsThere (option_map as_key o)
    by_column None there = absurd there
    by_column (Some c) there = tt

-- an aggregate of a query, without a fault
abbrev pub AggregateMade : List Column → Aggregate → Type 0
AggregateMade columns a = FoldMade columns (aggregated_column columns a) (aggregate_of columns a)

pub aggregates_made : (columns : List Column) → AreLawful columns → (aggregates : List Aggregate)
    → AllByRecursion (λ (a : Aggregate). CountsRows a.fold a.column) aggregates
    → flat_map (aggregate_faults columns) aggregates ≡ []
    → AllByRecursion (AggregateMade columns) aggregates
aggregates_made columns lawful [] counts none = tt
aggregates_made columns lawful (a ∷ aggregates) counts none =
    let parts = both_none (aggregate_faults columns a) (flat_map (aggregate_faults columns) aggregates) none in (
      fold_made columns lawful (aggregate_name a).text a.fold a.column counts.0 parts.0,
      aggregates_made columns lawful aggregates counts.1 parts.1,
    )

abbrev of_rows : List TimedRow → folds.Aggregate → Option Value
of_rows rows a = aggregate_made a.what a.column rows

abbrev value_in : List Column → List TimedRow → Aggregate → Option Value
value_in columns rows a = option_and_then (of_rows rows) (aggregate_of columns a)

value_is : (columns : List Column) (rows : List TimedRow) (o : Option folds.Aggregate) (m : folds.Aggregate)
    → o ≡ Some m
    → option_and_then (of_rows rows) o ≡ of_rows rows m
value_is columns rows o m e = ap (λ (p : Option folds.Aggregate). option_and_then (of_rows rows) p) e

aggregate_cell : (columns : List Column) (time : ℤ) (rows : List TimedRow) → IsGroup columns time rows
    → (a : Aggregate) → AggregateMade columns a
    → MadeCell (aggregated_column columns a) (value_in columns rows a)
aggregate_cell columns time rows group a fold =
    let P : Option Column → Type 0 = λ o. MadeCell o (value_in columns rows a) in
    let Q : Option Value → Type 0 = λ o. MadeCell (Some fold.column) o in
    subst P (sym fold.is) (subst Q (sym (value_is columns rows (aggregate_of columns a) fold.made fold.is_made))
    (fold.cell time rows group))

aggregate_cells : (columns : List Column) (time : ℤ) (rows : List TimedRow) → IsGroup columns time rows
    → (aggregates : List Aggregate)
    → AllByRecursion (AggregateMade columns) aggregates
    → AllByRecursion (λ (a : Aggregate). MadeCell (aggregated_column columns a) (value_in columns rows a)) aggregates
aggregate_cells columns time rows group aggregates all =
    all-map (AggregateMade columns) (λ (a : Aggregate). MadeCell (aggregated_column columns a) (value_in columns rows a))
    aggregates
    (λ a fold. aggregate_cell columns time rows group a fold) all

-- ---- groups

-- a group with its key
record Keyed (columns : List Column) (by : List ℕ) (group : TimedRow × List TimedRow) : Type 0 where
  keys : AllByRecursion (λ row. group.0 ≡ group_key by row) group.1
  rows : IsGroup columns group.0.time group.1

-- what stands in the columns of a row of groups
abbrev made_in : List Column → List Aggregate → List TimedRow → List Value
made_in columns aggregates rows = filter_map (λ a. value_in columns rows a) aggregates

abbrev row_of_group : List Column → List Aggregate → TimedRow × List TimedRow → TimedRow
row_of_group columns aggregates group =
    record { time = group.0.time; cells = group.0.cells ++ made_in columns aggregates group.1 }

group_row_is : (columns : List Column) (aggregates : List Aggregate) (group : TimedRow × List TimedRow)
    → row_of_group columns aggregates group ≡ group_row (aggregates_over columns aggregates) group
group_row_is columns aggregates group =
    let with_cells : List Value → TimedRow =
    λ cells. record { time = group.0.time; cells = group.0.cells ++ cells } in
    ap with_cells (sym (fused (of_rows group.1) (aggregate_of columns) aggregates))

group_fits : (columns : List Column) (by : List ℕ) → AllByRecursion (λ place. place < length columns) by
    → (aggregates : List Aggregate)
    → AllByRecursion (AggregateMade columns) aggregates → (key : TimedRow) (rows : List TimedRow)
    → Keyed columns by (key, rows)
    → FitsBoth (key_columns_at columns by ++ aggregate_columns columns aggregates)
    (row_of_group columns aggregates (key, rows))
group_fits columns by within aggregates all key [] keyed = absurd (omega (arith, keyed.rows.some))
group_fits columns by within aggregates all key (row ∷ rows) keyed =
    let same : group_key by row ≡ key = sym keyed.keys.0 in
    let keys = key_cells_made columns row keyed.rows.fit.0 by within in
    let cells = aggregate_cells columns key.time (row ∷ rows) keyed.rows aggregates all in
    let P : TimedRow → Type 0 = λ k. FitColumns (key_columns_at columns by) k.cells in
    let Q : TimedRow → Type 0 = λ k. FitWidths (key_columns_at columns by) k.cells in
    let shaped : FitColumns (key_columns_at columns by) key.cells =
    subst P same (made_shaped (key_at columns) (λ place. slice_get row.cells place) by keys) in
    let widths : FitWidths (key_columns_at columns by) key.cells =
    subst Q same (made_within (key_at columns) (λ place. slice_get row.cells place) by keys) in (
      FitColumns-append (key_columns_at columns by) (aggregate_columns columns aggregates) key.cells
          (made_in columns aggregates (row ∷ rows))
          shaped (made_shaped (aggregated_column columns) (value_in columns (row ∷ rows)) aggregates cells),
      FitWidths-append (key_columns_at columns by) (aggregate_columns columns aggregates) key.cells
          (made_in columns aggregates (row ∷ rows))
          shaped widths (made_within (aggregated_column columns) (value_in columns (row ∷ rows)) aggregates cells),
    )

-- ---- which groups there are

more_by : {A : Type 0} (b : Bool) (x : A) (xs : List A) → 0 < length xs → 0 < length (cond b (x ∷ xs) xs)
more_by true x xs h = omega arith
more_by false x xs h = h

first_by : {A : Type 0} (b : Bool) (x : A) (xs : List A) → b ≡ true → 0 < length (cond b (x ∷ xs) xs)
first_by true x xs e = omega arith
first_by false x xs e = absurd cc

pub each_has_rows : (by : List ℕ) (rows : List TimedRow)
    → AllByRecursion (λ row. 0 < length (rows_in by (group_key by row) rows)) rows
each_has_rows by [] = tt
each_has_rows by (row ∷ rows) = (
  first_by (same_row (group_key by row) (group_key by row)) row (rows_in by (group_key by row) rows)
      ((same_row-Decides (group_key by row) (group_key by row)).1 refl),
  all-map (λ other. 0 < length (rows_in by (group_key by other) rows))
      (λ other. 0 < length (rows_in by (group_key by other) (row ∷ rows))) rows
      (λ other h. more_by (same_row (group_key by other) (group_key by row)) row
      (rows_in by (group_key by other) rows) h)
      (each_has_rows by rows),
)

all_keys : (P : TimedRow → Type 0) (by : List ℕ) (rows : List TimedRow)
    → AllByRecursion (λ row. P (group_key by row)) rows
    → AllByRecursion P (group_keys by rows)
all_keys P by [] all = tt
all_keys P by (row ∷ rows) all = (
  all.0,
  all-filter P (λ key. not (same_row (group_key by row) key)) (group_keys by rows)
      (all_keys P by rows all.1),
)

kept_if : (P : TimedRow → Type 0) (b : Bool) (x : TimedRow) (xs : List TimedRow) → (b ≡ true → P x)
    → AllByRecursion P xs
    → AllByRecursion P (cond b (x ∷ xs) xs)
kept_if P true x xs own all = (own refl, all)
kept_if P false x xs own all = all

own_keys : (by : List ℕ) (key : TimedRow) (rows : List TimedRow)
    → AllByRecursion (λ row. key ≡ group_key by row) (rows_in by key rows)
own_keys by key [] = tt
own_keys by key (row ∷ rows) =
    kept_if (λ other. key ≡ group_key by other) (same_row key (group_key by row)) row (rows_in by key rows)
    (λ e. (same_row-Decides key (group_key by row)).0 e) (own_keys by key rows)

own_times : (by : List ℕ) (key : TimedRow) (rows : List TimedRow)
    → AllByRecursion (λ row. key ≡ group_key by row) rows
    → AllByRecursion (λ row. row.time ≡ key.time) rows
own_times by key rows all =
    all-map (λ row. key ≡ group_key by row) (λ row. row.time ≡ key.time) rows
    (λ row e. ap (λ (r : TimedRow). r.time) (sym e)) all

keyed_group : (columns : List Column) (by : List ℕ) (rows : List TimedRow) → AllByRecursion (FitsBoth columns) rows
    → ((time : ℤ) → TotalsFit 0 columns (rows_at time rows)) → length rows ≤ 2 ^ 24 → (key : TimedRow)
    → 0 < length (rows_in by key rows)
    → Keyed columns by (key, rows_in by key rows)
keyed_group columns by rows fit totals few key some =
    let own : TimedRow → Bool = λ row. same_row key (group_key by row) in
    record {
      keys = own_keys by key rows;
      rows = record {
        fit = all-filter (FitsBoth columns) own rows fit;
        times = own_times by key (rows_in by key rows) (own_keys by key rows);
        some = some;
        totals = TotalsFit-fewer key.time rows (rows_in by key rows)
            (λ place. sum_by-filter-le (counted key.time place) own rows) 0 columns (totals key.time);
        few = omega (arith, few, filter-few own rows);
      };
    }

keyed_groups : (columns : List Column) (by : List ℕ) (rows : List TimedRow) → AllByRecursion (FitsBoth columns) rows
    → ((time : ℤ) → TotalsFit 0 columns (rows_at time rows)) → length rows ≤ 2 ^ 24
    → AllByRecursion (Keyed columns by) (rows_by_group by rows)
keyed_groups columns by rows fit totals few =
    all-made (λ key. 0 < length (rows_in by key rows)) (Keyed columns by) (λ key. (key, rows_in by key rows))
    (group_keys by rows)
    (λ key some. keyed_group columns by rows fit totals few key some)
    (all_keys (λ key. 0 < length (rows_in by key rows)) by rows (each_has_rows by rows))

-- ---- totals

-- what counts at its own time is within a measure of that time
within_measure : (own time : ℤ) (n : ℕ) (most : ℤ → ℕ) → n ≤ most own → cond (int_eq own time) n 0 ≤ most time
within_measure own time n most h = by_test (int_eq own time) (λ e. (Decides-int_eq own time).0 e)
  where
    by_test : (b : Bool) → (b ≡ true → own ≡ time) → cond b n 0 ≤ most time
    by_test true same =
        let P : ℤ → Type 0 = λ t. n ≤ most t in
        subst P (same refl) h
    by_test false same = omega arith

amount_same : (a b : Option Value) (n : ℕ) → a ≡ b → amount b ≤ n → amount a ≤ n
amount_same a b n e h =
    let P : Option Value → Type 0 = λ o. amount o ≤ n in
    subst P (sym e) h

time_counts : (own time : ℤ) (n : ℕ) → own ≡ time → n ≤ cond (int_eq own time) n 0
time_counts own time n e =
    let yes : int_eq own time ≡ true = (Decides-int_eq own time).1 e in
    let P : Bool → Type 0 = λ b. n ≤ cond b n 0 in
    subst P (sym yes) (omega arith)

-- a key of a group counts no more than the group's rows
key_amount : (columns : List Column) (by : List ℕ) → AllByRecursion (λ place. place < length columns) by
    → (key : TimedRow) (rows : List TimedRow)
    → Keyed columns by (key, rows) → (place at : ℕ) → slice_get by place ≡ Some at
    → amount (slice_get key.cells place) ≤ sum_by (counted key.time at) rows
key_amount columns by within key [] keyed place at e = absurd (omega (arith, keyed.rows.some))
key_amount columns by within key (row ∷ rows) keyed place at e =
    let same : key ≡ group_key by row = keyed.keys.0 in
    let keys = key_cells_made columns row keyed.rows.fit.0 by within in
    let there : AllByRecursion (λ p. IsThere (slice_get row.cells p)) by =
    all-map (λ p. MadeCell (key_at columns p) (slice_get row.cells p)) (λ p. IsThere (slice_get row.cells p)) by
    (λ p made. cell_there (key_at columns p) (slice_get row.cells p) made) keys in
    let cell : slice_get key.cells place ≡ slice_get row.cells at =
    ap (λ (k : TimedRow). slice_get k.cells place) same
    ∙ get_made (λ p. slice_get row.cells p) by there place at e in
    let own = amount (slice_get row.cells at) in
    amount_same (slice_get key.cells place) (slice_get row.cells at) (sum_by (counted key.time at) (row ∷ rows)) cell
    (omega (
      arith,
      time_counts row.time key.time own keyed.rows.times.0,
      sum_by-cons (counted key.time at) row
          rows,
    ))

-- what a row of groups counts
key_counts : (columns : List Column) (by : List ℕ) → AllByRecursion (λ place. place < length columns) by
    → (aggregates : List Aggregate)
    → (time : ℤ) (place at : ℕ) (column : Column) → slice_get by place ≡ Some at
    → slice_get (key_columns_at columns by) place ≡ Some column
    → (key : TimedRow) (rows : List TimedRow) → AllByRecursion (AggregateMade columns) aggregates
    → Keyed columns by (key, rows)
    → counted time place (row_of_group columns aggregates (key, rows)) ≤ sum_by (counted time at) rows
key_counts columns by within aggregates time place at column e is key rows all keyed =
    let fits = key_fits columns by within key rows keyed in
    let cell = cell_of (key_columns_at columns by) key.cells fits place column is in
    let kept : slice_get (key.cells ++ made_in columns aggregates rows) place ≡ slice_get key.cells place =
    get_front key.cells (made_in columns aggregates rows) place cell.value cell.is ∙ sym cell.is in
    within_measure key.time time (amount (slice_get (key.cells ++ made_in columns aggregates rows) place))
    (λ t. sum_by (counted t at) rows)
    (amount_same (slice_get (key.cells ++ made_in columns aggregates rows) place) (slice_get key.cells place)
    (sum_by (counted key.time at) rows) kept
    (key_amount columns by within key rows keyed place at e))
  where
    key_fits : (columns : List Column) (by : List ℕ) → AllByRecursion (λ place. place < length columns) by
        → (key : TimedRow) (rows : List TimedRow)
        → Keyed columns by (key, rows) → FitColumns (key_columns_at columns by) key.cells
    key_fits columns by within key [] keyed = absurd (omega (arith, keyed.rows.some))
    key_fits columns by within key (row ∷ rows) keyed =
        let P : TimedRow → Type 0 = λ k. FitColumns (key_columns_at columns by) k.cells in
        subst P (sym keyed.keys.0)
        (made_shaped (key_at columns) (λ place. slice_get row.cells place) by
        (key_cells_made columns row keyed.rows.fit.0 by within))

aggregate_counts : (columns : List Column) (by : List ℕ) → AllByRecursion (λ place. place < length columns) by
    → (aggregates : List Aggregate)
    → AllByRecursion (AggregateMade columns) aggregates → (time : ℤ) (k : ℕ) (a : Aggregate)
    → slice_get aggregates k ≡ Some a
    → (fold : AggregateMade columns a) (key : TimedRow) (rows : List TimedRow) → Keyed columns by (key, rows)
    → counted time (length (key_columns_at columns by) + k) (row_of_group columns aggregates (key, rows)) ≤ sum_by
    (fold.measure time) rows
aggregate_counts columns by within aggregates all time k a e fold key [] keyed =
    absurd (omega (arith, keyed.rows.some))
aggregate_counts columns by within aggregates all time k a e fold key (row ∷ rows) keyed =
    let g = row ∷ rows in
    let P : TimedRow → Type 0 = λ r. FitColumns (key_columns_at columns by) r.cells in
    let shaped : FitColumns (key_columns_at columns by) key.cells =
    subst P (sym keyed.keys.0)
    (made_shaped (key_at columns) (λ place. slice_get row.cells place) by
    (key_cells_made columns row keyed.rows.fit.0 by within)) in
    let cells = aggregate_cells columns key.time g keyed.rows aggregates all in
    let there : AllByRecursion (λ (b : Aggregate). IsThere (value_in columns g b)) aggregates =
    all-map (λ (b : Aggregate). MadeCell (aggregated_column columns b) (value_in columns g b))
    (λ (b : Aggregate). IsThere (value_in columns g b)) aggregates
    (λ b made. cell_there (aggregated_column columns b) (value_in columns g b) made) cells in
    let long : length key.cells ≡ length (key_columns_at columns by) =
    length_fit (key_columns_at columns by) key.cells shaped in
    let rest = made_in columns aggregates g in
    let place : slice_get (key.cells ++ rest) (length (key_columns_at columns by) + k) ≡ of_rows g fold.made =
    ap (λ n. slice_get (key.cells ++ rest) (n + k)) (sym long) ∙ get_back key.cells rest k
    ∙ get_made (value_in columns g) aggregates there k a e
    ∙ value_is columns g (aggregate_of columns a) fold.made fold.is_made in
    within_measure key.time time (amount (slice_get (key.cells ++ rest) (length (key_columns_at columns by) + k)))
    (λ t. sum_by (fold.measure t) g)
    (amount_same (slice_get (key.cells ++ rest) (length (key_columns_at columns by) + k)) (of_rows g fold.made)
    (sum_by (fold.measure key.time) g) place
    (fold.less key.time g keyed.rows))

-- rows of groups as they are made
abbrev groups_made : List Column → List ℕ → List Aggregate → List TimedRow → List TimedRow
groups_made columns by aggregates rows = map (row_of_group columns aggregates) (rows_by_group by rows)

-- a measure of groups is within that of all rows
measured : (f : TimedRow → ℕ) (measure : TimedRow → ℕ) (made : TimedRow × List TimedRow → TimedRow)
    (Q : TimedRow × List TimedRow → Type 0)
    (by : List ℕ) (rows : List TimedRow)
    → ((group : TimedRow × List TimedRow) → Q group → f (made group) ≤ sum_by measure group.1)
    → AllByRecursion Q (rows_by_group by rows) → sum_by f (map made (rows_by_group by rows)) ≤ sum_by measure rows
measured f measure made Q by rows step all =
    let each : sum_by (λ group. f (made group)) (rows_by_group by rows) ≤ sum_by
    (λ (group : TimedRow × List TimedRow). sum_by measure group.1) (rows_by_group by rows) =
    sums_less (λ group. f (made group)) (λ (group : TimedRow × List TimedRow). sum_by measure group.1)
    (rows_by_group by rows)
    (all-map Q (λ group. f (made group) ≤ sum_by measure group.1) (rows_by_group by rows) step all) in
    let within : sum_by (λ (group : TimedRow × List TimedRow). sum_by measure group.1) (rows_by_group by rows) ≤
    sum_by measure rows =
    group_sums_within same_row same_row-Decides (group_key by) measure rows in
    omega (arith, sum_by-map f made (rows_by_group by rows), each, within)

key_is : (columns : List Column) (by : List ℕ) (place : ℕ) (column : Column) (at : ℕ) (o : Option Column)
    → slice_get columns at ≡ o
    → option_map as_key o ≡ Some column → (rows : List TimedRow) (time : ℤ) → TotalsFit 0 columns (rows_at time rows)
    → sum_by (counted time at) rows ≤ 2 ^ column.total_bits
key_is columns by place column at None e is rows time fit = absurd (nothing_is column is)
key_is columns by place column at (Some c) e is rows time fit =
    let same : as_key c ≡ column = same_item (as_key c) column is in
    let P : Column → Type 0 = λ d. sum_by (counted time at) rows ≤ 2 ^ d.total_bits in
    subst P same (alone_total columns at c e time rows fit)

group_total : (columns : List Column) (by : List ℕ) → AllByRecursion (λ place. place < length columns) by
    → (aggregates : List Aggregate)
    → AllByRecursion (AggregateMade columns) aggregates → (rows : List TimedRow) → length rows ≤ 2 ^ 24 → (time : ℤ)
    → TotalsFit 0 columns (rows_at time rows) → AllByRecursion (Keyed columns by) (rows_by_group by rows)
    → (place : ℕ) (column : Column)
    → slice_get (key_columns_at columns by ++ aggregate_columns columns aggregates) place ≡ Some column
    → Side (key_columns_at columns by) (aggregate_columns columns aggregates) place column
    → sum_by (counted time place) (groups_made columns by aggregates rows) ≤ 2 ^ column.total_bits
group_total columns by within aggregates all rows few time totals keyed place column is (front e) =
    let from = from_item (key_at columns) by (keys_there columns by within) place column e in
    let less : sum_by (counted time place) (groups_made columns by aggregates rows) ≤ sum_by
    (counted time from.item) rows =
    measured (counted time place) (counted time from.item) (row_of_group columns aggregates) (Keyed columns by)
    by rows
    (λ group k. key_counts columns by within aggregates time place from.item column from.is e group.0
    group.1 all k) keyed in
    omega (
      arith,
      less,
      key_is columns by place column from.item (slice_get columns from.item) refl from.made rows
          time totals,
    )
group_total columns by within aggregates all rows few time totals keyed place column is (back k at e) =
    let there : AllByRecursion (λ (a : Aggregate). IsThere (aggregated_column columns a)) aggregates =
    all-map (AggregateMade columns) (λ (a : Aggregate). IsThere (aggregated_column columns a)) aggregates
    (λ a fold. is_there (aggregated_column columns a) fold.column fold.is) all in
    let from = from_item (aggregated_column columns) aggregates there k column e in
    let fold = column_of_all (AggregateMade columns) aggregates k from.item all from.is in
    let here = length (key_columns_at columns by) + k in
    let less : sum_by (counted time here) (groups_made columns by aggregates rows) ≤ sum_by (fold.measure time) rows =
    measured (counted time here) (fold.measure time) (row_of_group columns aggregates) (Keyed columns by) by rows
    (λ group g. aggregate_counts columns by within aggregates all time k from.item from.is fold group.0
    group.1 g) keyed in
    let same : fold.column ≡ column = same_item fold.column column (sym fold.is ∙ from.made) in
    let whole = fold.whole time rows totals few in
    let P : ℕ → Type 0 = λ n. sum_by (counted time n) (groups_made columns by aggregates rows) ≤ 2 ^
    column.total_bits in
    let Q : Column → Type 0 = λ c. sum_by (fold.measure time) rows ≤ 2 ^ c.total_bits in
    subst P (sym at) (omega (arith, less, subst Q same whole))

-- ---- the rows of `group_by`

fits_made : (columns : List Column) (names : List Name) (aggregates : List Aggregate) (rows : List TimedRow)
    → FitTable columns rows
    → AllByRecursion (AggregateMade columns) aggregates → length rows ≤ 2 ^ 24
    → FitTable (grouped_columns columns names aggregates)
    (groups_made columns (listed_places columns reserved_names names) aggregates rows)
fits_made columns names aggregates rows fit all few =
    let by = listed_places columns reserved_names names in
    let within = listed_within columns reserved_names names in
    let made = groups_made columns by aggregates rows in
    let to = grouped_columns columns names aggregates in
    let both : AllByRecursion (FitsBoth columns) rows =
    all_both (λ row. FitColumns columns row.cells) (λ row. FitWidths columns row.cells) rows fit.shaped
    fit.widths in
    let keyed = keyed_groups columns by rows both fit.totals few in
    let fits : AllByRecursion (FitsBoth to) made =
    all-made (Keyed columns by) (FitsBoth to) (row_of_group columns aggregates) (rows_by_group by rows)
    (λ group k. group_fits columns by within aggregates all group.0 group.1 k) keyed in
    record {
      shaped = all-map (FitsBoth to) (λ row. FitColumns to row.cells) made (λ row p. p.0) fits;
      widths = all-map (FitsBoth to) (λ row. FitWidths to row.cells) made (λ row p. p.1) fits;
      totals = λ time. totals_from time made 0 to
          (λ place column e.
          let here : place ≡ 0 + place = omega arith in
          let P : ℕ → Type 0 = λ n. sum_by (counted time n) made ≤ 2 ^ column.total_bits in
          subst P here
          (group_total columns by within aggregates all rows few time (fit.totals time) keyed place column e
          (side_of (key_columns_at columns by) (aggregate_columns columns aggregates) place column e)));
    }

pub FitTable-group_by : (columns : List Column) (names : List Name) (aggregates : List Aggregate)
    (rows : List TimedRow) → FitTable columns rows
    → AreLawful columns → AllByRecursion (λ (a : Aggregate). CountsRows a.fold a.column) aggregates
    → flat_map (aggregate_faults columns) aggregates ≡ [] → length rows ≤ 2 ^ 24
    → FitTable (grouped_columns columns names aggregates)
    (group_rows (listed_places columns reserved_names names) (aggregates_over columns aggregates) rows)
FitTable-group_by columns names aggregates rows fit lawful counts none few =
    let by = listed_places columns reserved_names names in
    let P : List TimedRow → Type 0 = λ made. FitTable (grouped_columns columns names aggregates) made in
    subst P (map_same (row_of_group columns aggregates) (group_row (aggregates_over columns aggregates))
    (group_row_is columns aggregates) (rows_by_group by rows))
    (fits_made columns names aggregates rows fit (aggregates_made columns lawful aggregates counts none) few)

-- ---- columns of groups

key_sound : (columns : List Column) → AreLawful columns → (place : ℕ) (c : Column) (o : Option Column)
    → slice_get columns place ≡ o
    → option_map as_key o ≡ Some c → IsSound c
key_sound columns lawful place c None e is = absurd (nothing_is c is)
key_sound columns lawful place c (Some d) e is =
    let own = column_of_all IsSound columns place d lawful e in
    subst IsSound (same_item (as_key d) c is) (record {
      width = record { ordered = own.width.ordered; narrow = own.width.narrow };
      numbers = own.numbers;
      bounded = own.bounded;
    })

pub group_lawful : (columns : List Column) (names : List Name) (aggregates : List Aggregate) → AreLawful columns
    → AllByRecursion (λ (a : Aggregate). CountsRows a.fold a.column) aggregates
    → flat_map (aggregate_faults columns) aggregates ≡ []
    → AreLawful (grouped_columns columns names aggregates)
group_lawful columns names aggregates lawful counts none =
    let by = listed_places columns reserved_names names in
    all_append IsSound (key_columns_at columns by) (aggregate_columns columns aggregates)
    (all-filter_map (λ place. place < length columns) IsSound (key_at columns) by
    (λ place c h e. key_sound columns lawful place c (slice_get columns place) refl e)
    (listed_within columns reserved_names names))
    (all-filter_map (AggregateMade columns) IsSound (aggregated_column columns) aggregates
    (λ a c fold e. subst IsSound (same_item fold.column c (sym fold.is ∙ e)) fold.sound)
    (aggregates_made columns lawful aggregates counts none))

-- ---- what grouping asks

sum_at : (columns : List Column) → AreLawful columns → (rows : List TimedRow)
    → ((time : ℤ) → TotalsFit 0 columns (rows_at time rows))
    → (place : ℕ) (c : Column) → slice_get columns place ≡ Some c → SumsFit rows place
sum_at columns lawful rows totals place c e time =
    let sound = column_of_all IsSound columns place c lawful e in
    let wide : 2 ^ c.total_bits ≤ 2 ^ 126 = pow-le-pow_right {n = 2} (omega arith) sound.width.narrow in
    omega (arith, total-counted time place rows, alone_total columns place c e time rows (totals time), wide)

taken_sum : (columns : List Column) → AreLawful columns → (rows : List TimedRow)
    → ((time : ℤ) → TotalsFit 0 columns (rows_at time rows))
    → (what : AggregateKind) (place : ℕ) (o : Option Column) → slice_get columns place ≡ o → TakesColumn what o
    → UnlessCount what (SumsFit rows place)
taken_sum columns lawful rows totals kind.Count place o e takes = tt
taken_sum columns lawful rows totals kind.Sum place None e takes = absurd takes
taken_sum columns lawful rows totals kind.Sum place (Some c) e takes = sum_at columns lawful rows totals place c e
taken_sum columns lawful rows totals kind.Min place None e takes = absurd takes
taken_sum columns lawful rows totals kind.Min place (Some c) e takes = sum_at columns lawful rows totals place c e
taken_sum columns lawful rows totals kind.Max place None e takes = absurd takes
taken_sum columns lawful rows totals kind.Max place (Some c) e takes = sum_at columns lawful rows totals place c e
taken_sum columns lawful rows totals kind.Mean place None e takes = absurd takes
taken_sum columns lawful rows totals kind.Mean place (Some c) e takes = sum_at columns lawful rows totals place c e
taken_sum columns lawful rows totals kind.Merge place None e takes = absurd takes
taken_sum columns lawful rows totals kind.Merge place (Some c) e takes = sum_at columns lawful rows totals place c e

all_takes : (columns : List Column) (aggregates : List Aggregate) → AllByRecursion (AggregateMade columns) aggregates
    → AllByRecursion (λ (a : folds.Aggregate). TakesColumn a.what (slice_get columns a.column))
    (aggregates_over columns aggregates)
all_takes columns aggregates all =
    all-filter_map (AggregateMade columns)
    (λ (a : folds.Aggregate). TakesColumn a.what (slice_get columns a.column)) (aggregate_of columns) aggregates
    (λ a m fold e.
    let P : folds.Aggregate → Type 0 = λ b. TakesColumn b.what (slice_get columns b.column) in
    subst P (same_item fold.made m (sym fold.is_made ∙ e)) fold.takes) all

-- rows that fit can be grouped, where the aggregates have no fault
pub can_group : (columns : List Column) (names : List Name) (aggregates : List Aggregate) (rows : List TimedRow)
    → FitTable columns rows
    → AreLawful columns → AllByRecursion (λ (a : Aggregate). CountsRows a.fold a.column) aggregates
    → flat_map (aggregate_faults columns) aggregates ≡ []
    → CanGroup columns (listed_places columns reserved_names names) (aggregates_over columns aggregates) rows
can_group columns names aggregates rows fit lawful counts none =
    let takes = all_takes columns aggregates (aggregates_made columns lawful aggregates counts none) in
    record {
      shaped = fit.shaped;
      listed = listed_within columns reserved_names names;
      taken = takes;
      sums = all-map (λ (a : folds.Aggregate). TakesColumn a.what (slice_get columns a.column))
          (λ (a : folds.Aggregate). UnlessCount a.what (SumsFit rows a.column))
          (aggregates_over columns aggregates)
          (λ a t. taken_sum columns lawful rows fit.totals a.what a.column (slice_get columns a.column) refl t) takes;
    }
