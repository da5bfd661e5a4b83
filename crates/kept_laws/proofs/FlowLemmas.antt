-- Operations that work row by row, on the rows of two lists and on one row.
use Rattle.std.proofs.Common.{◌≡◌, ◌≤◌, Bool, true, false, cond, Option, Some, None, List, [], ◌∷◌, ◌++◌, length, arith}
use Rattle.std.specs.List.{cons_option, filter_map}
use Rattle.std.proofs.lemmas.List.Elements.{filter-append, filter_map-append}
use Rattle.mon_value.specs.declared.tables.TimedRow.{TimedRow}
use Rattle.mql_ast.specs.Rows.{predicate_truth}
use Rattle.typed_trees.specs.Meaning.{value_row}
use Rattle.typed_trees.specs.Nodes as node
use Rattle.typed_trees.specs.Nodes.{NodeTree, columns_of}
use Rattle.mon_meaning.specs.Operations.{operation_rows}
use Rattle.kept_laws.specs.Flowing.{WorksByRow}

pub rows_apart : (tree : NodeTree) (rows others : List TimedRow) → WorksByRow tree
    → operation_rows tree (rows ++ others) [] ≡ operation_rows tree rows [] ++ operation_rows tree others []
rows_apart (node.Fetch info schema metric) rows others works = absurd works
rows_apart (node.Filter info by input) rows others works =
    filter-append (λ (row : TimedRow). predicate_truth by info.columns row.cells) rows others
rows_apart (node.Align info by input) rows others works = absurd works
rows_apart (node.GroupBy info by with input) rows others works = absurd works
rows_apart (node.Value info items input) rows others works =
    filter_map-append (value_row (columns_of input) items) rows others
rows_apart (node.Top info most column input) rows others works = absurd works
rows_apart (node.Join info left right) rows others works = absurd works
rows_apart (node.Union info left right) rows others works = absurd works

kept_few : (b : Bool) (row : TimedRow) → length (cond b (row ∷ []) []) ≤ 1
kept_few true row = omega arith
kept_few false row = omega arith

given_few : (o : Option TimedRow) → length (cons_option o []) ≤ 1
given_few (Some row) = omega arith
given_few None = omega arith

pub rows_few : (tree : NodeTree) (row : TimedRow) → WorksByRow tree
    → length (operation_rows tree (row ∷ []) []) ≤ 1
rows_few (node.Fetch info schema metric) row works = absurd works
rows_few (node.Filter info by input) row works = kept_few (predicate_truth by info.columns row.cells) row
rows_few (node.Align info by input) row works = absurd works
rows_few (node.GroupBy info by with input) row works = absurd works
rows_few (node.Value info items input) row works = given_few (value_row (columns_of input) items row)
rows_few (node.Top info most column input) row works = absurd works
rows_few (node.Join info left right) row works = absurd works
rows_few (node.Union info left right) row works = absurd works
