-- Columns that are computed have no anchor.
use Rattle.std.proofs.Common.{◌≡◌, ◌∙◌, Option, Some, None, List, [], ◌∷◌, refl, sym, ap}
use Rattle.std.specs.Prelude.{ℕ, option_map}
use Rattle.std.specs.List.{AllByRecursion, filter_map}
use Rattle.mon_value.specs.declared.columns.Column.{Column}
use Rattle.mon_value.specs.declared.values.ValueType.TheVariants as type
use Rattle.mql_ast.specs.Rows.{column_named}
use Rattle.mql_ast.specs.Trees.{ItemTree, SumTree}
use Rattle.mql_ast.specs.declared.names.Name.{Name}
use Rattle.mql_ast.specs.declared.operations.Aggregate.{Aggregate}
use Rattle.mql_ast.specs.declared.operations.FoldWord.{FoldWord}
use Rattle.typed_trees.specs.Groupings.{aggregate_column, aggregate_columns, aggregate_name, aggregated_column}
use Rattle.typed_trees.specs.Groupings.{folded_column}
use Rattle.typed_trees.specs.Items.{column_alone, item_column, item_name, plain_column, renamed_column, sum_column}
use Rattle.typed_trees.specs.Items.{sum_width}
use Rattle.typed_rows.proofs.MadeCells.{all-filter_map}
use Rattle.mixer.proofs.HeldCells.{HasNoAnchor}
use Rattle.mon_value.proofs.PlainLemmas.{nothing_is, same_item}

pub units : {A : Type 0} (xs : List A) → AllByRecursion (λ x. Unit {0}) xs
units [] = tt
units (x ∷ xs) = (tt, units xs)

made_plain : {A : Type 0} (f : A → Column) → ((x : A) → HasNoAnchor (f x)) → (o : Option A) (c : Column)
    → option_map f o ≡ Some c → HasNoAnchor c
made_plain f plain None c e = absurd (nothing_is c e)
made_plain f plain (Some x) c e =
    let same : f x ≡ c = same_item (f x) c e in
    ap (λ (d : Column). d.anchor) (sym same) ∙ plain x

aggregate_plain : (columns : List Column) (name : List ℕ) (how : FoldWord) (source : Option Name) (c : Column)
    → aggregate_column columns name how source ≡ Some c → HasNoAnchor c
aggregate_plain columns name how None c e =
    made_plain (λ (x : List ℕ). plain_column x type.Int (record { cell = 24; total = 24 })) (λ x. refl) (Some name) c e
aggregate_plain columns name how (Some source) c e =
    made_plain (folded_column name how) (λ x. refl) (column_named source.text columns) c e

pub aggregates_plain : (columns : List Column) (aggregates : List Aggregate)
    → AllByRecursion HasNoAnchor (aggregate_columns columns aggregates)
aggregates_plain columns aggregates =
    all-filter_map (λ a. Unit {0}) HasNoAnchor (aggregated_column columns) aggregates
    (λ a c t e. aggregate_plain columns (aggregate_name a).text a.fold a.column c e) (units aggregates)

sum_plain : (columns : List Column) (name : List ℕ) (sum : SumTree) (alone : Option Name) (c : Column)
    → sum_column columns name sum alone ≡ Some c → HasNoAnchor c
sum_plain columns name sum None c e =
    made_plain (plain_column name type.Int) (λ x. refl) (sum_width columns sum) c e
sum_plain columns name sum (Some source) c e =
    made_plain (renamed_column name) (λ x. refl) (column_named source.text columns) c e

pub items_plain : (columns : List Column) (items : List ItemTree)
    → AllByRecursion HasNoAnchor (filter_map (item_column columns) items)
items_plain columns items =
    all-filter_map (λ i. Unit {0}) HasNoAnchor (item_column columns) items
    (λ item c t e. sum_plain columns (item_name item).text item.sum (column_alone item.sum) c e) (units items)
