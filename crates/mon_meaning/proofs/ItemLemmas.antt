-- Items whose columns were found, and the cells of keys.
use Rattle.std.proofs.Common.{◌≡◌, ◌<◌, ℕ, zero, suc, Bool, true, false, ◌||◌, cond, Option, Some, None, List, [], ◌∷◌}
use Rattle.std.proofs.Common.{◌++◌, map, length, get_or, option_map, option_to_list, IsNone, refl, sym, ap, subst, ◌∙◌}
use Rattle.std.proofs.Common.{arith}
use Rattle.std.specs.List.{AllByRecursion, cons_option, filter, filter_map, list_any, zip}
use Rattle.std.specs.Prelude.{if◌then◌else◌}
use Rattle.mon_expr.proofs.NoValueLemmas.{none_exactly}
use Rattle.mon_expr.specs.BoundSums.{CanEvaluate, IsBoundExpr}
use Rattle.mon_expr.specs.declared.bound_sums.BoundExpr.{BoundExpr}
use Rattle.mon_value.specs.Tables.{Named}
use Rattle.mon_value.specs.declared.columns.Column.{Column}
use Rattle.mon_value.specs.declared.tables.TimedRow.{TimedRow}
use Rattle.mon_value.specs.declared.values.Value.{Value}
use Rattle.mql_ast.specs.Rows.{meets_no_values, sum_value, CanCompute, HasShares, IsTypedSum}
use Rattle.mql_ast.specs.Trees.{ItemTree}
use Rattle.typed_trees.specs.Meaning.{key_cells, value_row}
use Rattle.mon_meaning.specs.within.Items.{AreBound, CanMake, all_values, row_made, with_value}

-- ---- lists

-- what holds of all that is made of items holds of what is made of each
pub at_map : {A B : Type 0} (P : B → Type 0) (f : A → B) (xs : List A) (i : ℕ) (x : A) → AllByRecursion P (map f xs)
    → x ≡ get_or xs i x → i < length xs → P (f x)
at_map P f [] i x all is below = absurd (omega arith)
at_map P f (y ∷ ys) zero x all is below = subst (λ z. P (f z)) (sym is) all.0
at_map P f (y ∷ ys) (suc i) x all is below = at_map P f ys i x all.1 is (omega arith)

pub cons_list : {A : Type 0} (o : Option A) (xs : List A) → cons_option o xs ≡ option_to_list o ++ xs
cons_list None xs = refl
cons_list (Some x) xs = refl

-- ---- keys

key_by : (b : Bool) (column : Column) (cell : Value) (rest : List Named)
    → map (λ (n : Named). n.1) (cond b ((column, cell) ∷ rest) rest) ≡ cond b (cell ∷ []) []
    ++ map (λ (n : Named). n.1) rest
key_by true column cell rest = refl
key_by false column cell rest = refl

pub key_cells-cons : (column : Column) (columns : List Column) (cell : Value) (cells : List Value)
    → key_cells (column ∷ columns) (cell ∷ cells) ≡ cond column.key (cell ∷ []) [] ++ key_cells columns cells
key_cells-cons column columns cell cells =
    key_by column.key column cell (filter (λ (n : Named). n.0.key) (zip columns cells))

pub key_cells-none : (columns : List Column) → key_cells columns [] ≡ []
key_cells-none [] = refl
key_cells-none (column ∷ columns) = refl

pub no_columns : (columns : List Column) (cells : List Value) → columns ≡ [] → key_cells columns cells ≡ []
no_columns columns cells none = ap (λ cs. key_cells cs cells) none ∙ left cells
  where
    left : (cs : List Value) → key_cells [] cs ≡ []
    left [] = refl
    left (c ∷ cs) = refl

-- ---- items

-- one bound more
pub AreBound-push : (bound : List BoundExpr) (items : List ItemTree) (columns : List Column) (one : BoundExpr)
    (item : ItemTree)
    → AreBound bound items columns → IsBoundExpr one item.sum columns → AreBound (bound ++ one ∷ [])
    (items ++ item ∷ []) columns
AreBound-push [] [] columns one item are is = (is, tt)
AreBound-push [] (i ∷ items) columns one item are is = absurd are
AreBound-push (b ∷ bound) [] columns one item are is = absurd are
AreBound-push (b ∷ bound) (i ∷ items) columns one item are is =
    (are.0, AreBound-push bound items columns one item are.1 is)

-- bound items can be computed where the items can
pub bound_can : (bound : List BoundExpr) (items : List ItemTree) (columns : List Column) (cells : List Value)
    → AreBound bound items columns → CanCompute columns cells → AllByRecursion (λ one. CanEvaluate one cells) bound
bound_can [] [] columns cells are can = tt
bound_can [] (i ∷ items) columns cells are can = tt
bound_can (b ∷ bound) [] columns cells are can = absurd are
bound_can (b ∷ bound) (i ∷ items) columns cells are can =
    (are.0.computes cells can, bound_can bound items columns cells are.1 can)

pub all_can : (bound : List BoundExpr) (items : List ItemTree) (columns : List Column) (rows : List TimedRow)
    → AreBound bound items columns → AllByRecursion (λ (row : TimedRow). CanCompute columns row.cells) rows
    → AllByRecursion (CanMake bound) rows
all_can bound items columns [] are can = tt
all_can bound items columns (row ∷ rows) are can =
    (bound_can bound items columns row.cells are can.0, all_can bound items columns rows are can.1)

step : (m : Bool) (o : Option Value) (any : Bool) (values : List Value) → (o ≡ None → m ≡ true) → (m ≡ true → IsNone o)
    → with_value o (if any then None else Some values) ≡ (if m || any then None else Some (cons_option o values))
step true None any values none some = refl
step false None any values none some = absurd (let e = none refl in cc)
step true (Some v) any values none some = absurd (let e = some refl in cc)
step false (Some v) true values none some = refl
step false (Some v) false values none some = refl

is_none_of : (o : Option Value) → o ≡ None → IsNone o
is_none_of None e = refl
is_none_of (Some v) e = absurd cc

-- what bound items come to in a row
values_of : (bound : List BoundExpr) (items : List ItemTree) (columns : List Column) (cells : List Value)
    → AreBound bound items columns
    → AllByRecursion (λ (item : ItemTree). IsTypedSum item.sum columns × HasShares item.sum) items → CanCompute columns
    cells
    → all_values bound cells
    ≡ (if list_any (λ (item : ItemTree). meets_no_values item.sum columns cells) items then None
    else Some (filter_map (λ (item : ItemTree). sum_value item.sum columns cells) items))
values_of [] [] columns cells are typed can = refl
values_of [] (i ∷ items) columns cells are typed can = absurd are
values_of (b ∷ bound) [] columns cells are typed can = absurd are
values_of (b ∷ bound) (i ∷ items) columns cells are typed can =
    let value = sum_value i.sum columns cells in
    let exactly = none_exactly i.sum columns cells value typed.0.0 can refl in
    ap (λ o. with_value o (all_values bound cells)) (are.0.value cells)
    ∙ ap (with_value value) (values_of bound items columns cells are.1 typed.1 can)
    ∙ step (meets_no_values i.sum columns cells) value (list_any (λ (item : ItemTree). meets_no_values item.sum columns
    cells) items)
    (filter_map (λ (item : ItemTree). sum_value item.sum columns cells) items)
    (λ e. exactly.0 (is_none_of value e)) (λ e. exactly.1 e)

if_made : (b : Bool) (f : List Value → TimedRow) (values : List Value)
    → option_map f (if b then None else Some values) ≡ (if b then None else Some (f values))
if_made true f values = refl
if_made false f values = refl

row_same : (bound : List BoundExpr) (items : List ItemTree) (columns : List Column) (row : TimedRow)
    → AreBound bound items columns
    → AllByRecursion (λ (item : ItemTree). IsTypedSum item.sum columns × HasShares item.sum) items → CanCompute columns
    row.cells
    → row_made columns bound row ≡ value_row columns items row
row_same bound items columns row are typed can =
    let f : List Value → TimedRow = λ values. record {
      time = row.time;
      cells = key_cells columns row.cells
          ++ values;
    } in
    ap (option_map f) (values_of bound items columns row.cells are typed can)
    ∙ if_made (list_any (λ (item : ItemTree). meets_no_values item.sum columns row.cells) items) f
    (filter_map (λ (item : ItemTree). sum_value item.sum columns row.cells) items)

-- the rows that bound items make are those of the items
pub rows_same : (bound : List BoundExpr) (items : List ItemTree) (columns : List Column) (rows : List TimedRow)
    → AreBound bound items columns
    → AllByRecursion (λ (item : ItemTree). IsTypedSum item.sum columns × HasShares item.sum) items
    → AllByRecursion (λ (row : TimedRow). CanCompute columns row.cells) rows
    → filter_map (row_made columns bound) rows ≡ filter_map (value_row columns items) rows
rows_same bound items columns [] are typed can = refl
rows_same bound items columns (row ∷ rows) are typed can =
    let here = row_same bound items columns row are typed can.0 in
    let rest = rows_same bound items columns rows are typed can.1 in
    λ i. cons_option (here i) (rest i)
