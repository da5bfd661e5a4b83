-- The columns of aggregates, and what stands in them.
use Rattle.std.proofs.Common.{◌≡◌, ◌∙◌, ◌≤◌, ◌<◌, ℕ, ℤ, ◌+◌, ◌^◌, Bool, true, false, cond, nat_lt, Option, Some}
use Rattle.std.proofs.Common.{None, List, [], ◌∷◌, length, subst, refl, ap, sym, arith}
use Rattle.std.specs.Prelude.{option_and_then, option_map, slice_get}
use Rattle.std.specs.List.{AllByRecursion, cons_option, sum_by}
use Rattle.std.specs.Option.{option_map_or}
use Rattle.std.specs.Ordering.{int_eq}
use Rattle.std.proofs.lemmas.Bool.{lt-ltb, not-false}
use Rattle.std.proofs.lemmas.Bool.Decides.{Decides-int_eq}
use Rattle.std.proofs.lemmas.List.Sums.{sum_by-cons}
use Rattle.std.proofs.lemmas.Option.{slice_get_within}
use Rattle.mon_value.specs.Tables.{HasType}
use Rattle.mon_value.specs.Groups.{TakesColumn, TakesType, rows_at, aggregate_made, column_of}
use Rattle.mon_value.specs.Values.{magnitude}
use Rattle.mon_value.specs.declared.aggregates.Aggregate.{Aggregate}
use Rattle.mon_value.specs.declared.aggregates.AggregateKind.{AggregateKind}
use Rattle.mon_value.specs.declared.aggregates.AggregateKind.TheVariants as kind
use Rattle.mon_value.specs.declared.columns.Column.{Column}
use Rattle.mon_value.specs.declared.tables.TimedRow.{TimedRow}
use Rattle.mon_value.specs.declared.values.Value.{Value}
use Rattle.mon_value.specs.declared.values.ValueType.{ValueType}
use Rattle.mon_value.specs.declared.values.ValueType.TheVariants as type
use Rattle.mql_ast.specs.Rows.{column_named, place_of}
use Rattle.mql_ast.specs.declared.names.Name.{Name}
use Rattle.mql_ast.specs.declared.operations.FoldWord.{FoldWord}
use Rattle.mql_ast.specs.declared.operations.FoldWord.TheVariants as fold
use Rattle.typed_trees.specs.Fetches.{column_faults}
use Rattle.typed_trees.specs.Groupings.{aggregate_at, aggregate_column, aggregate_over, fold_kind, fold_takes}
use Rattle.typed_trees.specs.Groupings.{fold_width, folded_column, folded_faults, place_found, wanted_word}
use Rattle.typed_trees.specs.Groupings as grouping
use Rattle.typed_trees.specs.Items.{plain_column}
use Rattle.typed_trees.specs.Soundness.{CountsRows, TotalsFit}
use Rattle.typed_trees.specs.Branches.{count_width, width_of}
use Rattle.typed_rows.proofs.FoldedValues.{Folded, folded_more, greatest_folded, least_folded, mean_folded}
use Rattle.typed_rows.proofs.FoldedValues.{merge_folded, sum_folded}
use Rattle.typed_rows.proofs.JoinedRows.{all-map, column_of_all}
use Rattle.typed_rows.proofs.KnownSums.{cell_of}
use Rattle.typed_rows.proofs.MadeCells.{IsThere, MadeCell, all-filter_map, is_there}
use Rattle.typed_rows.proofs.SumBounds.{AreLawful, IsLawful, IsSound, amount}
use Rattle.typed_rows.proofs.Totals.{by_cell, cell_within, counted}
use Rattle.typed_rows.proofs.ValueRows.{FitsBoth, alone_total}
use Rattle.mon_value.proofs.PlainLemmas.{same_item}
use Rattle.typed_rows.proofs.TypedGridLemmas.{no_test}

-- ---- the rows of a group

-- rows of one time that fit columns
pub record IsGroup (columns : List Column) (time : ℤ) (rows : List TimedRow) : Type 0 where
  pub fit : AllByRecursion (FitsBoth columns) rows
  pub times : AllByRecursion (λ row. row.time ≡ time) rows
  pub some : 0 < length rows
  pub totals : TotalsFit 0 columns (rows_at time rows)
  pub few : length rows ≤ 2 ^ 24

-- the values of a column fit it
pub value_fits : (columns : List Column) (place : ℕ) (c : Column) → slice_get columns place ≡ Some c
    → (row : TimedRow) (v : Value)
    → FitsBoth columns row → slice_get row.cells place ≡ Some v → HasType c.of v × (magnitude v ≤ 2 ^ c.cell_bits)
value_fits columns place c e row v fit is =
    let cell = cell_of columns row.cells fit.0 place c e in
    let same : cell.value ≡ v = same_item cell.value v (sym cell.is ∙ is) in
    let P : Option Value → Type 0 = λ o. option_map_or magnitude o 0 ≤ 2 ^ c.cell_bits in
    (subst (HasType c.of) same cell.of, subst P is (cell_within columns row.cells fit.1 place c e))

values_fit : (columns : List Column) (place : ℕ) (c : Column) → slice_get columns place ≡ Some c
    → (rows : List TimedRow)
    → AllByRecursion (FitsBoth columns) rows
    → AllByRecursion (λ v. HasType c.of v × (magnitude v ≤ 2 ^ c.cell_bits)) (column_of place rows)
values_fit columns place c e rows fit =
    all-filter_map (FitsBoth columns) (λ v. HasType c.of v × (magnitude v ≤ 2 ^ c.cell_bits))
    (λ (row : TimedRow). slice_get row.cells place) rows
    (λ row v p is. value_fits columns place c e row v p is) fit

pub cons_some : (o : Option Value) (values : List Value) → IsThere o → 0 < length (cons_option o values)
cons_some None values there = absurd there
cons_some (Some v) values there = omega arith

values_some : (columns : List Column) (place : ℕ) (c : Column) → slice_get columns place ≡ Some c
    → (rows : List TimedRow)
    → AllByRecursion (FitsBoth columns) rows → 0 < length rows → 0 < length (column_of place rows)
values_some columns place c e [] fit some = absurd (omega (arith, some))
values_some columns place c e (row ∷ rows) fit some =
    let cell = cell_of columns row.cells fit.0.0 place c e in
    cons_some (slice_get row.cells place) (column_of place rows)
    (is_there (slice_get row.cells place) cell.value cell.is)

time_test : (own time : ℤ) (n : ℕ) → own ≡ time → n ≡ cond (int_eq own time) n 0
time_test own time n e =
    let yes : int_eq own time ≡ true = (Decides-int_eq own time).1 e in
    ap (λ b. cond b n 0) (sym yes)

-- all rows of a group count at its time
pub values_counted : (time : ℤ) (place : ℕ) (rows : List TimedRow) → AllByRecursion (λ row. row.time ≡ time) rows
    → sum_by magnitude (column_of place rows) ≡ sum_by (counted time place) rows
values_counted time place [] times = refl
values_counted time place (row ∷ rows) times =
    let own = option_map_or magnitude (slice_get row.cells place) 0 in
    by_cell (slice_get row.cells place) (column_of place rows)
    ∙ ap (λ n. own + n) (values_counted time place rows times.1)
    ∙ ap (λ n. n + sum_by (counted time place) rows) (time_test row.time time own times.0)
    ∙ sym (sum_by-cons (counted time place) row rows)

pub one_at : ℤ → TimedRow → ℕ
one_at time row = cond (int_eq row.time time) 1 0

pub ones_counted : (time : ℤ) (rows : List TimedRow) → AllByRecursion (λ row. row.time ≡ time) rows
    → length rows ≡ sum_by (one_at time) rows
unfolding one_at
ones_counted time [] times = refl
ones_counted time (row ∷ rows) times =
    let rest = ones_counted time rows times.1 in
    let first = time_test row.time time 1 times.0 in
    let all = sum_by-cons (one_at time) row rows in
    omega (arith, rest, first, all)

one_by : (b : Bool) → cond b 1 0 ≤ 1
one_by true = omega arith
one_by false = omega arith

pub ones_within : (time : ℤ) (rows : List TimedRow) → sum_by (one_at time) rows ≤ length rows
unfolding one_at
ones_within time [] = omega arith
ones_within time (row ∷ rows) =
    omega (arith, one_by (int_eq row.time time), ones_within time rows, sum_by-cons (one_at time) row rows)

-- ---- one aggregate of a column

-- what an aggregate makes of a column of a type
abbrev FoldsTo : List Column → FoldWord → ℕ → Column → ValueType → Type 0
FoldsTo columns how place c of =
    (time : ℤ) (rows : List TimedRow) → IsGroup columns time rows
    → Folded of (2 ^ (fold_width how (width_of c)).cell) (sum_by (counted time place) rows)
    (aggregate_made (fold_kind how of) place rows)

both_of : (columns : List Column) (place : ℕ) (c : Column) (of : ValueType) → slice_get columns place ≡ Some c
    → c.of ≡ of → (rows : List TimedRow)
    → AllByRecursion (FitsBoth columns) rows → AllByRecursion (HasType of) (column_of place rows)
both_of columns place c of e same rows fit =
    all-map (λ v. HasType c.of v × (magnitude v ≤ 2 ^ c.cell_bits)) (HasType of) (column_of place rows)
    (λ v p. let P : ValueType → Type 0 = λ t. HasType t v in subst P same p.0)
    (values_fit columns place c e rows fit)

all_within : (columns : List Column) (place : ℕ) (c : Column) → slice_get columns place ≡ Some c
    → (rows : List TimedRow)
    → AllByRecursion (FitsBoth columns) rows
    → AllByRecursion (λ v. magnitude v ≤ 2 ^ c.cell_bits) (column_of place rows)
all_within columns place c e rows fit =
    all-map (λ v. HasType c.of v × (magnitude v ≤ 2 ^ c.cell_bits)) (λ v. magnitude v ≤ 2 ^ c.cell_bits)
    (column_of place rows)
    (λ v p. p.1) (values_fit columns place c e rows fit)

sum_to : (columns : List Column) (place : ℕ) (c : Column) → slice_get columns place ≡ Some c
    → (of : ValueType) (o : List TimedRow → Option Value)
    → ((rows : List TimedRow) → AllByRecursion (FitsBoth columns) rows → 0 < length rows
    → Folded of (sum_by magnitude (column_of place rows)) (sum_by magnitude (column_of place rows)) (o rows))
    → (time : ℤ) (rows : List TimedRow) → IsGroup columns time rows
    → Folded of (2 ^ c.total_bits) (sum_by (counted time place) rows) (o rows)
sum_to columns place c e of o make time rows group =
    let same = values_counted time place rows group.times in
    let whole = alone_total columns place c e time rows group.totals in
    folded_more of _ _ (2 ^ c.total_bits) (sum_by (counted time place) rows) (o rows) (make rows group.fit group.some)
    (omega (arith, same, whole)) (omega (arith, same))

best_to : (columns : List Column) (place : ℕ) (c : Column) → slice_get columns place ≡ Some c
    → (o : List TimedRow → Option Value)
    → ((rows : List TimedRow) → AllByRecursion (FitsBoth columns) rows → 0 < length rows
    → Folded type.Int (2 ^ c.cell_bits) (sum_by magnitude (column_of place rows)) (o rows))
    → (time : ℤ) (rows : List TimedRow) → IsGroup columns time rows
    → Folded type.Int (2 ^ c.cell_bits) (sum_by (counted time place) rows) (o rows)
best_to columns place c e o make time rows group =
    let same = values_counted time place rows group.times in
    folded_more type.Int _ _ (2 ^ c.cell_bits) (sum_by (counted time place) rows) (o rows)
    (make rows group.fit group.some)
    (omega arith) (omega (arith, same))

sums_to : (columns : List Column) (place : ℕ) (c : Column) → slice_get columns place ≡ Some c → c.of ≡ type.Int
    → FoldsTo columns fold.Sum place c type.Int
sums_to columns place c e same =
    sum_to columns place c e type.Int (λ rows. aggregate_made kind.Sum place rows)
    (λ rows fit some. sum_folded (column_of place rows) (values_some columns place c e rows fit some)
    (both_of columns place c type.Int e same rows fit))

merges_to : (columns : List Column) (place : ℕ) (c : Column) (bounds : List ℤ) → slice_get columns place ≡ Some c
    → c.of ≡ type.Dist bounds
    → FoldsTo columns fold.Merge place c (type.Dist bounds)
merges_to columns place c bounds e same =
    sum_to columns place c e (type.Dist bounds) (λ rows. aggregate_made kind.Merge place rows)
    (λ rows fit some. merge_folded bounds (column_of place rows) (values_some columns place c e rows fit some)
    (both_of columns place c (type.Dist bounds) e same rows fit))

folds_to : (columns : List Column) (place : ℕ) (c : Column) → slice_get columns place ≡ Some c
    → (how : FoldWord) (of : ValueType) → c.of ≡ of
    → fold_takes how of ≡ true → (how ≡ fold.Count → ⊥) → FoldsTo columns how place c of
folds_to columns place c e fold.Count of same takes other = absurd (other refl)
folds_to columns place c e fold.Sum type.Int same takes other = sums_to columns place c e same
folds_to columns place c e fold.Aggregate type.Int same takes other = sums_to columns place c e same
folds_to columns place c e fold.Merge (type.Dist bounds) same takes other = merges_to columns place c bounds e same
folds_to columns place c e fold.Aggregate (type.Dist bounds) same takes other =
    merges_to columns place c bounds e same
folds_to columns place c e fold.Min type.Int same takes other =
    best_to columns place c e (λ rows. aggregate_made kind.Min place rows)
    (λ rows fit some. least_folded (2 ^ c.cell_bits) (column_of place rows)
    (values_some columns place c e rows fit some)
    (both_of columns place c type.Int e same rows fit) (all_within columns place c e rows fit))
folds_to columns place c e fold.Max type.Int same takes other =
    best_to columns place c e (λ rows. aggregate_made kind.Max place rows)
    (λ rows fit some. greatest_folded (2 ^ c.cell_bits) (column_of place rows)
    (values_some columns place c e rows fit some)
    (both_of columns place c type.Int e same rows fit) (all_within columns place c e rows fit))
folds_to columns place c e fold.Mean type.Int same takes other =
    best_to columns place c e (λ rows. aggregate_made kind.Mean place rows)
    (λ rows fit some. mean_folded (2 ^ c.cell_bits) (column_of place rows)
    (values_some columns place c e rows fit some)
    (both_of columns place c type.Int e same rows fit) (all_within columns place c e rows fit))
folds_to columns place c e fold.Sum type.Bool same takes other = absurd cc
folds_to columns place c e fold.Sum type.Text same takes other = absurd cc
folds_to columns place c e fold.Sum (type.Dist bounds) same takes other = absurd cc
folds_to columns place c e fold.Min type.Bool same takes other = absurd cc
folds_to columns place c e fold.Min type.Text same takes other = absurd cc
folds_to columns place c e fold.Min (type.Dist bounds) same takes other = absurd cc
folds_to columns place c e fold.Max type.Bool same takes other = absurd cc
folds_to columns place c e fold.Max type.Text same takes other = absurd cc
folds_to columns place c e fold.Max (type.Dist bounds) same takes other = absurd cc
folds_to columns place c e fold.Mean type.Bool same takes other = absurd cc
folds_to columns place c e fold.Mean type.Text same takes other = absurd cc
folds_to columns place c e fold.Mean (type.Dist bounds) same takes other = absurd cc
folds_to columns place c e fold.Merge type.Int same takes other = absurd cc
folds_to columns place c e fold.Merge type.Bool same takes other = absurd cc
folds_to columns place c e fold.Merge type.Text same takes other = absurd cc
folds_to columns place c e fold.Aggregate type.Bool same takes other = absurd cc
folds_to columns place c e fold.Aggregate type.Text same takes other = absurd cc

kind_takes : (how : FoldWord) (of : ValueType) → fold_takes how of ≡ true → TakesType (fold_kind how of) of
kind_takes fold.Count of takes = tt
kind_takes fold.Sum type.Int takes = tt
kind_takes fold.Min type.Int takes = tt
kind_takes fold.Max type.Int takes = tt
kind_takes fold.Mean type.Int takes = tt
kind_takes fold.Merge (type.Dist bounds) takes = tt
kind_takes fold.Aggregate type.Int takes = tt
kind_takes fold.Aggregate (type.Dist bounds) takes = tt
kind_takes fold.Sum type.Bool takes = absurd cc
kind_takes fold.Sum type.Text takes = absurd cc
kind_takes fold.Sum (type.Dist bounds) takes = absurd cc
kind_takes fold.Min type.Bool takes = absurd cc
kind_takes fold.Min type.Text takes = absurd cc
kind_takes fold.Min (type.Dist bounds) takes = absurd cc
kind_takes fold.Max type.Bool takes = absurd cc
kind_takes fold.Max type.Text takes = absurd cc
kind_takes fold.Max (type.Dist bounds) takes = absurd cc
kind_takes fold.Mean type.Bool takes = absurd cc
kind_takes fold.Mean type.Text takes = absurd cc
kind_takes fold.Mean (type.Dist bounds) takes = absurd cc
kind_takes fold.Merge type.Int takes = absurd cc
kind_takes fold.Merge type.Bool takes = absurd cc
kind_takes fold.Merge type.Text takes = absurd cc
kind_takes fold.Aggregate type.Bool takes = absurd cc
kind_takes fold.Aggregate type.Text takes = absurd cc

-- ---- any aggregate

-- the column of an aggregate, and what stands in it
pub record FoldMade (columns : List Column) (o : Option Column) (m : Option Aggregate) : Type 0 where
  pub column : Column
  pub made : Aggregate
  pub is : o ≡ Some column
  pub is_made : m ≡ Some made
  pub measure : ℤ → TimedRow → ℕ
  pub cell : (time : ℤ) (rows : List TimedRow) → IsGroup columns time rows
      → MadeCell (Some column) (aggregate_made made.what made.column rows)
  pub less : (time : ℤ) (rows : List TimedRow) → IsGroup columns time rows
      → amount (aggregate_made made.what made.column rows) ≤ sum_by (measure time) rows
  pub whole : (time : ℤ) (rows : List TimedRow) → TotalsFit 0 columns (rows_at time rows) → length rows ≤ 2 ^ 24
      → sum_by (measure time) rows ≤ 2 ^ column.total_bits
  pub sound : IsSound column
  pub takes : TakesColumn made.what (slice_get columns made.column)

count_cell : (n : List ℕ) (rows : List TimedRow) → 0 < length rows → length rows ≤ 2 ^ 24
    → MadeCell (Some (plain_column n type.Int count_width)) (aggregate_made kind.Count 0 rows)
count_cell n [] some few = absurd (omega (arith, some))
count_cell n (row ∷ rows) some few = (tt, few)

count_amount : (rows : List TimedRow) → amount (aggregate_made kind.Count 0 rows) ≤ length rows
count_amount [] = omega arith
count_amount (row ∷ rows) = omega arith

count_made : (columns : List Column) (n : List ℕ)
    → FoldMade columns (Some (plain_column n type.Int count_width)) (Some (record { what = kind.Count; column = 0 }))
count_made columns n = record {
  column = plain_column n type.Int count_width;
  made = record { what = kind.Count; column = 0 };
  is = refl;
  is_made = refl;
  measure = one_at;
  cell = λ time rows group. count_cell n rows group.some group.few;
  less = λ time rows group. omega (arith, count_amount rows, ones_counted time rows group.times);
  whole = λ time rows fit few. omega (arith, ones_within time rows, few);
  sound = record {
    width = record { ordered = omega arith; narrow = omega arith };
    numbers = tt;
    bounded = tt;
  };
  takes = tt;
}

made_of : (n : List ℕ) (how : FoldWord) (c : Column) (whole : ℕ) (o : Option Value)
    → Folded c.of (2 ^ (fold_width how (width_of c)).cell) whole o → MadeCell (Some (folded_column n how c)) o
made_of n how c whole o folded =
    let P : Option Value → Type 0 = λ p. MadeCell (Some (folded_column n how c)) p in
    subst P (sym folded.is) (folded.typed, folded.within)

amount_of : (of : ValueType) (most whole : ℕ) (o : Option Value) → Folded of most whole o → amount o ≤ whole
amount_of of most whole o folded =
    let P : Option Value → Type 0 = λ p. amount p ≤ whole in
    subst P (sym folded.is) folded.less

-- the sums of folds are as wide as those of their columns
total_kept : (how : FoldWord) (c : Column) → (how ≡ fold.Count → ⊥)
    → (fold_width how (width_of c)).total ≡ c.total_bits
total_kept fold.Count c other = absurd (other refl)
total_kept fold.Sum c other = refl
total_kept fold.Min c other = refl
total_kept fold.Max c other = refl
total_kept fold.Mean c other = refl
total_kept fold.Merge c other = refl
total_kept fold.Aggregate c other = refl

width_lawful : (how : FoldWord) (c : Column) → IsLawful (width_of c) → (how ≡ fold.Count → ⊥)
    → IsLawful (fold_width how (width_of c))
width_lawful fold.Count c lawful other = absurd (other refl)
width_lawful fold.Sum c lawful other = record { ordered = omega arith; narrow = lawful.narrow }
width_lawful fold.Min c lawful other = lawful
width_lawful fold.Max c lawful other = lawful
width_lawful fold.Mean c lawful other = lawful
width_lawful fold.Merge c lawful other = record { ordered = omega arith; narrow = lawful.narrow }
width_lawful fold.Aggregate c lawful other = record { ordered = omega arith; narrow = lawful.narrow }

found_by : (n l : ℕ) → n < l → cond (nat_lt n l) (Some n) None ≡ Some n
found_by n l h = ap (λ b. cond b (Some n) None) (lt-ltb n l h)

-- a column that is found by its name is found by its place
pub place_is : (columns : List Column) (name : List ℕ) (c : Column) → column_named name columns ≡ Some c
    → place_found name columns ≡ Some (place_of name columns)
place_is columns name c e =
    found_by (place_of name columns) (length columns) (slice_get_within columns (place_of name columns) c e)

pub over_is : (columns : List Column) (how : FoldWord) (name : List ℕ) (c : Column) → column_named name columns ≡ Some c
    → option_and_then (aggregate_at columns how) (place_found name columns)
    ≡ Some (grouping.typed_aggregate how c.of (place_of name columns))
over_is columns how name c e =
    ap (λ (o : Option ℕ). option_and_then (aggregate_at columns how) o) (place_is columns name c e)
    ∙ ap (λ (o : Option Column). option_map
    (λ (column : Column). grouping.typed_aggregate how column.of (place_of name columns)) o) e

type_takes : (what : AggregateKind) (c : Column) (o : Option Column) → o ≡ Some c → TakesType what c.of
    → TakesColumn what o
type_takes kind.Count c o e takes = tt
type_takes kind.Sum c o e takes = let P : Option Column → Type 0 =
    λ p. TakesColumn kind.Sum p in subst P (sym e) takes
type_takes kind.Min c o e takes = let P : Option Column → Type 0 =
    λ p. TakesColumn kind.Min p in subst P (sym e) takes
type_takes kind.Max c o e takes = let P : Option Column → Type 0 =
    λ p. TakesColumn kind.Max p in subst P (sym e) takes
type_takes kind.Mean c o e takes = let P : Option Column → Type 0 =
    λ p. TakesColumn kind.Mean p in subst P (sym e) takes
type_takes kind.Merge c o e takes = let P : Option Column → Type 0 =
    λ p. TakesColumn kind.Merge p in subst P (sym e) takes

folded_total : (how : FoldWord) (c : Column) (n : ℕ) → (how ≡ fold.Count → ⊥) → n ≤ 2 ^ c.total_bits
    → n ≤ 2 ^ (fold_width how (width_of c)).total
folded_total how c n other h =
    let P : ℕ → Type 0 = λ bits. n ≤ 2 ^ bits in
    subst P (sym (total_kept how c other)) h

named_made : (columns : List Column) → AreLawful columns → (n : List ℕ) (how : FoldWord) (name : List ℕ) (c : Column)
    → column_named name columns ≡ Some c → fold_takes how c.of ≡ true → (how ≡ fold.Count → ⊥)
    → FoldMade columns (option_map (folded_column n how) (column_named name columns))
    (option_and_then (aggregate_at columns how) (place_found name columns))
named_made columns lawful n how name c e takes other =
    let place = place_of name columns in
    let folds = folds_to columns place c e how c.of refl takes other in
    let sound = column_of_all IsSound columns place c lawful e in
    let width = width_lawful how c sound.width other in
    record {
      column = folded_column n how c;
      made = grouping.typed_aggregate how c.of place;
      is = ap (λ (o : Option Column). option_map (folded_column n how) o) e;
      is_made = over_is columns how name c e;
      measure = λ time. counted time place;
      cell = λ time rows group. made_of n how c _ (aggregate_made (fold_kind how c.of) place rows)
          (folds time rows group);
      less = λ time rows group. amount_of c.of _ _ (aggregate_made (fold_kind how c.of) place rows)
          (folds time rows group);
      whole = λ time rows fit few. folded_total how c _ other (alone_total columns place c e time rows fit);
      sound = record {
        width = record { ordered = width.ordered; narrow = width.narrow };
        numbers = sound.numbers;
        bounded = sound.bounded;
      };
      takes = type_takes (fold_kind how c.of) c (slice_get columns place) e (kind_takes how c.of takes);
    }

pub no_count : (how : FoldWord) (name : Name) → CountsRows how (Some name) → how ≡ fold.Count → ⊥
no_count how name counts e =
    let P : FoldWord → Type 0 = λ h. CountsRows h (Some name) in
    subst P e counts

found_made : (columns : List Column) → AreLawful columns → (n : List ℕ) (how : FoldWord) (name : Name)
    → CountsRows how (Some name)
    → (o : Option Column) → column_named name.text columns ≡ o
    → column_faults o name.at (fold_takes how) (wanted_word how) ≡ []
    → FoldMade columns (option_map (folded_column n how) (column_named name.text columns))
    (option_and_then (aggregate_at columns how) (place_found name.text columns))
found_made columns lawful n how name counts None e none = absurd cc
found_made columns lawful n how name counts (Some c) e none =
    named_made columns lawful n how name.text c e (not-false (fold_takes how c.of) (no_test _ _ _ none))
    (no_count how name counts)

-- an aggregate without a fault
pub fold_made : (columns : List Column) → AreLawful columns → (n : List ℕ) (how : FoldWord) (source : Option Name)
    → CountsRows how source
    → folded_faults columns how source ≡ []
    → FoldMade columns (aggregate_column columns n how source) (aggregate_over columns how source)
fold_made columns lawful n how None counts none = count_made columns n
fold_made columns lawful n how (Some name) counts none =
    found_made columns lawful n how name counts (column_named name.text columns) refl none
