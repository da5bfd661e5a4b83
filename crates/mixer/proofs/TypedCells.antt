-- What operations make has the types of its columns, however much of it there is.
use Rattle.std.proofs.Common.{◌≡◌, ◌∙◌, ◌≤◌, ◌<◌, ℕ, zero, suc, ◌+◌, false, Option, Some, None, List, [], ◌∷◌, length}
use Rattle.std.proofs.Common.{refl, sym, subst, arith}
use Rattle.std.specs.Prelude.{is_none, option_map, slice_get}
use Rattle.std.specs.List.{AllByRecursion, cons_option, filter_map, sum_by}
use Rattle.std.proofs.lemmas.List.Sums.{sum_by-cons}
use Rattle.mon_value.specs.Groups.{item_count, TakesType, aggregate_made, cells_at, column_of}
use Rattle.mon_value.specs.Tables.{FitColumns, HasType}
use Rattle.mon_value.specs.Values.{magnitude}
use Rattle.mon_value.specs.declared.aggregates.AggregateKind.{AggregateKind}
use Rattle.mon_value.specs.declared.aggregates.AggregateKind.TheVariants as kind
use Rattle.mon_value.specs.declared.columns.Column.{Column}
use Rattle.mon_value.specs.declared.tables.TimedRow.{TimedRow}
use Rattle.mon_value.specs.declared.values.Value.{Value}
use Rattle.mon_value.specs.declared.values.Value.TheVariants as value
use Rattle.mon_value.specs.declared.values.ValueType.{ValueType}
use Rattle.mon_value.specs.declared.values.ValueType.TheVariants as type
use Rattle.mql_ast.specs.Rows.{meets_no_values, sum_value}
use Rattle.mql_ast.specs.Trees.{SumTree}
use Rattle.typed_trees.specs.Groupings.{as_key, key_at, key_columns_at}
use Rattle.typed_trees.specs.Items.{operand_faults, plain_column, renamed_column, sum_width}
use Rattle.typed_rows.proofs.FoldedValues.{Folded, greatest_folded, least_folded, mean_folded, merge_folded, sum_folded}
use Rattle.typed_rows.proofs.JoinedRows.{all-map}
use Rattle.typed_rows.proofs.KnownSums.{KnownNumber, cell_of, number_known, width_known}
use Rattle.typed_rows.proofs.MadeCells.{all-filter_map, is_there}
use Rattle.mon_value.proofs.PlainLemmas.{same_item}
use Rattle.typed_rows.proofs.FoldedColumns.{cons_some}

-- a column and a cell of its type, both of which are there
abbrev pub TypedCell : Option Column → Option Value → Type 0
TypedCell None cell = ⊥
TypedCell (Some column) None = ⊥
TypedCell (Some column) (Some value) = HasType column.of value

pub cons_typed : (o : Option Column) (p : Option Value) (columns : List Column) (cells : List Value) → TypedCell o p
    → FitColumns columns cells → FitColumns (cons_option o columns) (cons_option p cells)
cons_typed None p columns cells made fit = absurd made
cons_typed (Some c) None columns cells made fit = absurd made
cons_typed (Some c) (Some x) columns cells made fit = (made, fit)

pub cells_typed : {A : Type 0} (f : A → Option Column) (g : A → Option Value) (xs : List A)
    → AllByRecursion (λ x. TypedCell (f x) (g x)) xs → FitColumns (filter_map f xs) (filter_map g xs)
cells_typed f g [] all = tt
cells_typed f g (x ∷ xs) all =
    cons_typed (f x) (g x) (filter_map f xs) (filter_map g xs) all.0 (cells_typed f g xs all.1)

-- ---- grouping cells

-- a column and a cell of its type, or neither
abbrev TypedAt : Option Column → Option Value → Type 0
TypedAt None None = Unit {0}
TypedAt None (Some x) = ⊥
TypedAt (Some c) None = ⊥
TypedAt (Some c) (Some x) = HasType c.of x

typed_at : (columns : List Column) (cells : List Value) → FitColumns columns cells → (place : ℕ)
    → TypedAt (slice_get columns place) (slice_get cells place)
typed_at [] [] fit place = tt
typed_at [] (x ∷ xs) fit place = absurd fit
typed_at (c ∷ cs) [] fit place = absurd fit
typed_at (c ∷ cs) (x ∷ xs) fit zero = fit.0
typed_at (c ∷ cs) (x ∷ xs) fit (suc place) = typed_at cs xs fit.1 place

as_key_typed : (o : Option Column) (p : Option Value) → TypedAt o p → TypedAt (option_map as_key o) p
as_key_typed None None at = tt
as_key_typed None (Some x) at = absurd at
as_key_typed (Some c) None at = absurd at
as_key_typed (Some c) (Some x) at = at

cons_typed_at : (o : Option Column) (p : Option Value) (columns : List Column) (cells : List Value) → TypedAt o p
    → FitColumns columns cells → FitColumns (cons_option o columns) (cons_option p cells)
cons_typed_at None None columns cells at fit = fit
cons_typed_at None (Some x) columns cells at fit = absurd at
cons_typed_at (Some c) None columns cells at fit = absurd at
cons_typed_at (Some c) (Some x) columns cells at fit = (at, fit)

pub keys_typed : (columns : List Column) (cells : List Value) → FitColumns columns cells → (places : List ℕ)
    → FitColumns (key_columns_at columns places) (cells_at places cells)
keys_typed columns cells fit [] = tt
keys_typed columns cells fit (place ∷ places) =
    cons_typed_at (key_at columns place) (slice_get cells place) (key_columns_at columns places) (cells_at places cells)
    (as_key_typed (slice_get columns place) (slice_get cells place) (typed_at columns cells fit place))
    (keys_typed columns cells fit places)

-- ---- aggregates

abbrev pub AreTyped : List Column → List TimedRow → Type 0
AreTyped columns rows = AllByRecursion (λ (row : TimedRow). FitColumns columns row.cells) rows

values_typed : (columns : List Column) (place : ℕ) (c : Column) → slice_get columns place ≡ Some c
    → (rows : List TimedRow) → AreTyped columns rows → AllByRecursion (HasType c.of) (column_of place rows)
values_typed columns place c e rows fit =
    all-filter_map (λ (row : TimedRow). FitColumns columns row.cells) (HasType c.of)
    (λ (row : TimedRow). slice_get row.cells place) rows
    (λ row v own is.
    let cell = cell_of columns row.cells own place c e in
    let same : cell.value ≡ v = same_item cell.value v (sym cell.is ∙ is) in
    subst (HasType c.of) same cell.of) fit

values_some : (columns : List Column) (place : ℕ) (c : Column) → slice_get columns place ≡ Some c
    → (rows : List TimedRow) → AreTyped columns rows → 0 < length rows → 0 < length (column_of place rows)
values_some columns place c e [] fit some = absurd (omega (arith, some))
values_some columns place c e (row ∷ rows) fit some =
    let cell = cell_of columns row.cells fit.0 place c e in
    cons_some (slice_get row.cells place) (column_of place rows)
    (is_there (slice_get row.cells place) cell.value cell.is)

-- each value is within the sum of all
each_within : (more : ℕ) (values : List Value)
    → AllByRecursion (λ v. magnitude v ≤ more + sum_by magnitude values) values
each_within more [] = tt
each_within more (v ∷ values) = (
  omega (arith, sum_by-cons magnitude v values),
  all-map (λ w. magnitude w ≤ (more + magnitude v) + sum_by magnitude values)
      (λ w. magnitude w ≤ more + sum_by magnitude (v ∷ values)) values
      (λ w h. omega (arith, h, sum_by-cons magnitude v values)) (each_within (more + magnitude v) values),
)

folded_cell : (of : ValueType) (most whole : ℕ) (o : Option Value) (c : Column) → c.of ≡ of → Folded of most whole o
    → TypedCell (Some c) o
folded_cell of most whole o c same made =
    let typed : HasType c.of made.value = subst (λ t. HasType t made.value) (sym same) made.typed in
    subst (λ p. TypedCell (Some c) p) (sym made.is) typed

taken_cell : (what : AggregateKind) (of : ValueType) (place : ℕ) (rows : List TimedRow) (c : Column) → c.of ≡ of
    → (what ≡ kind.Count → ⊥) → TakesType what of → 0 < length (column_of place rows)
    → AllByRecursion (HasType of) (column_of place rows) → TypedCell (Some c) (aggregate_made what place rows)
taken_cell kind.Count of place rows c same other takes some all = absurd (other refl)
taken_cell kind.Sum type.Int place rows c same other takes some all =
    folded_cell type.Int _ _ (aggregate_made kind.Sum place rows) c same (sum_folded (column_of place rows) some all)
taken_cell kind.Min type.Int place rows c same other takes some all =
    folded_cell type.Int _ _ (aggregate_made kind.Min place rows) c same
    (least_folded (0 + sum_by magnitude (column_of place rows)) (column_of place rows) some all
    (each_within 0 (column_of place rows)))
taken_cell kind.Max type.Int place rows c same other takes some all =
    folded_cell type.Int _ _ (aggregate_made kind.Max place rows) c same
    (greatest_folded (0 + sum_by magnitude (column_of place rows)) (column_of place rows) some all
    (each_within 0 (column_of place rows)))
taken_cell kind.Mean type.Int place rows c same other takes some all =
    folded_cell type.Int _ _ (aggregate_made kind.Mean place rows) c same
    (mean_folded (0 + sum_by magnitude (column_of place rows)) (column_of place rows) some all
    (each_within 0 (column_of place rows)))
taken_cell kind.Merge (type.Dist bounds) place rows c same other takes some all =
    folded_cell (type.Dist bounds) _ _ (aggregate_made kind.Merge place rows) c same
    (merge_folded bounds (column_of place rows) some all)
taken_cell kind.Sum type.Bool place rows c same other takes some all = absurd takes
taken_cell kind.Sum type.Text place rows c same other takes some all = absurd takes
taken_cell kind.Sum (type.Dist bounds) place rows c same other takes some all = absurd takes
taken_cell kind.Min type.Bool place rows c same other takes some all = absurd takes
taken_cell kind.Min type.Text place rows c same other takes some all = absurd takes
taken_cell kind.Min (type.Dist bounds) place rows c same other takes some all = absurd takes
taken_cell kind.Max type.Bool place rows c same other takes some all = absurd takes
taken_cell kind.Max type.Text place rows c same other takes some all = absurd takes
taken_cell kind.Max (type.Dist bounds) place rows c same other takes some all = absurd takes
taken_cell kind.Mean type.Bool place rows c same other takes some all = absurd takes
taken_cell kind.Mean type.Text place rows c same other takes some all = absurd takes
taken_cell kind.Mean (type.Dist bounds) place rows c same other takes some all = absurd takes
taken_cell kind.Merge type.Int place rows c same other takes some all = absurd takes
taken_cell kind.Merge type.Bool place rows c same other takes some all = absurd takes
taken_cell kind.Merge type.Text place rows c same other takes some all = absurd takes

-- what an aggregate that takes a column makes of rows is of the column's type
pub aggregate_typed : (columns : List Column) (what : AggregateKind) (place : ℕ) (source c : Column)
    → slice_get columns place ≡ Some source → c.of ≡ source.of → (what ≡ kind.Count → ⊥) → TakesType what source.of
    → (rows : List TimedRow) → 0 < length rows → AreTyped columns rows
    → TypedCell (Some c) (aggregate_made what place rows)
aggregate_typed columns what place source c e same other takes rows some fit =
    taken_cell what source.of place rows c same other takes (values_some columns place source e rows fit some)
    (values_typed columns place source e rows fit)

-- what counts rows is a number
pub count_typed : (c : Column) → c.of ≡ type.Int → (rows : List TimedRow) → 0 < length rows
    → TypedCell (Some c) (aggregate_made kind.Count 0 rows)
count_typed c same [] some = absurd (omega (arith, some))
count_typed c same (row ∷ rows) some =
    subst (λ t. HasType t (value.Int (item_count (row ∷ rows)))) (sym same) tt

-- ---- items

number_typed : (c : Column) → c.of ≡ type.Int → (o : Option Value) → KnownNumber o → TypedCell (Some c) o
number_typed c same o known =
    let number : HasType c.of (value.Int known.number) =
    subst (λ t. HasType t (value.Int known.number)) (sym same) tt in
    subst (λ p. TypedCell (Some c) p) (sym known.is) number

pub alone_typed : (columns : List Column) (name : List ℕ) (place : ℕ) (o : Option Column) → slice_get columns place ≡ o
    → is_none o ≡ false → (cells : List Value) → FitColumns columns cells
    → TypedCell (option_map (renamed_column name) o) (slice_get cells place)
alone_typed columns name place None e there cells fit = absurd cc
alone_typed columns name place (Some c) e there cells fit =
    let cell = cell_of columns cells fit place c e in
    subst (λ p. TypedCell (Some (renamed_column name c)) p) (sym cell.is) cell.of

pub sum_typed : (columns : List Column) (name : List ℕ) (sum : SumTree) → operand_faults columns sum ≡ []
    → (cells : List Value) → FitColumns columns cells → meets_no_values sum columns cells ≡ false
    → TypedCell (option_map (plain_column name type.Int) (sum_width columns sum)) (sum_value sum columns cells)
sum_typed columns name sum none cells fit some =
    let known = width_known columns sum none in
    subst (λ o. TypedCell (option_map (plain_column name type.Int) o) (sum_value sum columns cells)) (sym known.is)
    (number_typed (plain_column name type.Int known.width) refl (sum_value sum columns cells)
    (number_known columns cells fit sum none some))
