-- What holds of every typed query, for proofs in the crates above.
use Rattle.std.proofs.Common.{◌≡◌, ◌≤ℤ◌, ℕ, ℤ, pos, true, List, Ok, ◌≤◌, arith}
use Rattle.std.specs.List.{AllByRecursion}
use Rattle.std.proofs.lemmas.Int.{ints}
use Rattle.mon_value.specs.declared.columns.Column.{Column}
use Rattle.mon_value.specs.declared.rows.Row.{Row}
use Rattle.mon_schema.specs.Fits.{fits, AreMetricsHeld}
use Rattle.mon_schema.specs.Names.{SchemaLists}
use Rattle.mql_ast.specs.Grammar.{Spells}
use Rattle.mql_ast.specs.Trees.{PipeTree}
use Rattle.typed_trees.specs.Meaning.{grid_of}
use Rattle.typed_trees.specs.Nodes.{TypedTree, columns_of}
use Rattle.typed_trees.specs.Soundness.{AreNarrow, IsEvaluable, IsTyped, WidthsHold}
use Rattle.typed_trees.specs.Typing.{typing}
use Rattle.typed_rows.proofs.DurationLemmas.{durations_spelled}
use Rattle.typed_rows.proofs.JoinedRows.{all-map}
use Rattle.typed_rows.proofs.SpelledQueries.{query_spelled}
use Rattle.typed_rows.proofs.SumBounds.{IsSound}
use Rattle.typed_rows.proofs.TypedGridLemmas.{typed_grid}
use Rattle.typed_rows.proofs.TypedQueries.{query_ruled}
use Rattle.typed_rows.proofs.TypedTrees.{AreRows, lawful_columns, tree_evaluable, tree_fits}

-- the nodes of a typed query have the columns of their rules
typed_ruled : (typed : TypedTree) (rows : List Row) (moment : ℤ) (of : IsTyped typed rows) → pos 0 ≤ℤ moment
    → AreRows of.held typed.tree
typed_ruled typed rows moment of from =
    let lawful = typed_grid of.held of.query typed moment of.durations of.is from in
    query_ruled of.held of.metrics of.query of.spelled of.durations typed of.is lawful.every

-- its columns are no wider than any sum may be
pub typed_narrow : (typed : TypedTree) (rows : List Row) → IsTyped typed rows → AreNarrow (columns_of typed.tree)
typed_narrow typed rows of =
    let lawful = lawful_columns of.held typed.tree (typed_ruled typed rows (pos 0) of (omega (arith, ints))) in
    all-map IsSound (λ (c : Column). (c.cell_bits ≤ c.total_bits) × (c.total_bits ≤ 126)) (columns_of typed.tree)
    (λ c sound. (sound.width.ordered, sound.width.narrow)) lawful

-- its rows fit its columns and their widths
pub typed_widths : (typed : TypedTree) (rows : List Row) (moment : ℤ) → WidthsHold typed rows moment
typed_widths typed rows moment of from few =
    let lawful = typed_grid of.held of.query typed moment of.durations of.is from in
    tree_fits of.held (grid_of typed moment) lawful rows of.fit typed.tree (typed_ruled typed rows moment of from) few

-- each operation's input meets what it asks
pub typed_evaluable : (typed : TypedTree) (rows : List Row) (moment : ℤ) → IsTyped typed rows → pos 0 ≤ℤ moment
    → IsEvaluable (grid_of typed moment) typed.tree rows
typed_evaluable typed rows moment of from =
    let lawful = typed_grid of.held of.query typed moment of.durations of.is from in
    tree_evaluable of.held (grid_of typed moment) lawful rows of.fit typed.tree (typed_ruled typed rows moment of from)

-- a text's query that has a type over schemas that the rows fit is typed
pub spelled_typed : (held : SchemaLists) (query : PipeTree) (text : List ℕ) (typed : TypedTree) (rows : List Row)
    → AreMetricsHeld held.metrics → Spells query text → typing held query ≡ Ok typed
    → AllByRecursion (λ row. fits held row ≡ true) rows → IsTyped typed rows
spelled_typed held query text typed rows metrics spelled is fit = record {
  held = held;
  query = query;
  metrics = metrics;
  spelled = query_spelled query text spelled;
  durations = durations_spelled query text spelled;
  is = is;
  fit = fit;
}
