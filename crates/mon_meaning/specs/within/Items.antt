-- Items whose columns were found.
use Rattle.std.specs.Prelude.{List, [], ◌∷◌, ◌++◌, Option, Some, None, option_map}
use Rattle.std.specs.List.{AllByRecursion}
use Rattle.mon_expr.specs.BoundSums.{CanEvaluate, IsBoundExpr, bound_value}
use Rattle.mon_expr.specs.declared.bound_sums.BoundExpr.{BoundExpr}
use Rattle.mon_value.specs.declared.columns.Column.{Column}
use Rattle.mon_value.specs.declared.tables.TimedRow.{TimedRow}
use Rattle.mon_value.specs.declared.values.Value.{Value}
use Rattle.mql_ast.specs.Trees.{ItemTree}
use Rattle.typed_trees.specs.Meaning.{key_cells}

-- each is bound to the sum of its item
abbrev pub AreBound : List BoundExpr → List ItemTree → List Column → Type 0
AreBound [] [] columns = Unit {0}
AreBound [] (item ∷ items) columns = ⊥
AreBound (one ∷ bound) [] columns = ⊥
AreBound (one ∷ bound) (item ∷ items) columns = IsBoundExpr one item.sum columns × AreBound bound items columns

-- a value in front of others, where there are both
abbrev pub with_value : Option Value → Option (List Value) → Option (List Value)
with_value None values = None
with_value (Some value) values = option_map (λ more. value ∷ more) values

-- what all come to in a row, and none where one comes to nothing
abbrev pub all_values : List BoundExpr → List Value → Option (List Value)
all_values [] cells = Some []
all_values (one ∷ bound) cells = with_value (bound_value one cells) (all_values bound cells)

-- the keys of a row and its values, where all come to one
abbrev pub row_made : List Column → List BoundExpr → TimedRow → Option TimedRow
row_made columns bound row = option_map
    (λ values. record { time = row.time; cells = key_cells columns row.cells ++ values }) (all_values bound row.cells)

-- all can be computed in a row
abbrev pub CanMake : List BoundExpr → TimedRow → Type 0
CanMake bound row = AllByRecursion (λ one. CanEvaluate one row.cells) bound
