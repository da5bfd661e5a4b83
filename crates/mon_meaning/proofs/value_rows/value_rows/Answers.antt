use Rattle.std.proofs.Common.{◌≡◌, ◌∙◌, List, IfOk, map, sym, ap, subst}
use Rattle.std.specs.List.{AllByRecursion, filter_map}
use Rattle.mon_expr.specs.declared.bound_sums.BoundExpr.{BoundExpr}
use Rattle.mon_value.specs.declared.columns.Column.{Column}
use Rattle.mon_value.specs.declared.tables.TimedRow.{TimedRow}
use Rattle.mql_ast.specs.Trees.{item_tree}
use Rattle.typed_trees.specs.Meaning.{value_row}
use Rattle.mon_meaning.specs.within.Items.{CanMake, row_made}
use Rattle.mon_meaning.proofs.ItemLemmas.{all_can, rows_same}
use Rattle.mon_meaning.proofs.value_rows.value_rows.Goals as goal

pub rows_made-requires : goal.rows_made-requires
rows_made-requires c =
    record {
      can = subst (λ (bound : List BoundExpr). AllByRecursion (CanMake bound) c.args.rows)
          (sym c.as_slice-2.ensures.value)
          (all_can c.in_ok-bound.bound.items (map item_tree c.args.items.now) c.args.columns.now c.args.rows
          c.in_ok-bound.ensures.bound
          c.requires.rows);
    }

pub returns : goal.returns
returns c =
    let columns = c.args.columns.now in
    let items = map item_tree c.args.items.now in
    let same : filter_map (row_made c.as_slice.result.now c.as_slice-2.result.now) c.args.rows
    ≡ filter_map (value_row columns items) c.args.rows =
    ap (λ (cs : List Column). filter_map (row_made cs c.as_slice-2.result.now) c.args.rows) c.as_slice.ensures.items
    ∙ ap (λ (bound : List BoundExpr). filter_map (row_made columns bound) c.args.rows) c.as_slice-2.ensures.value
    ∙ rows_same c.in_ok-bound.bound.items items columns c.args.rows c.in_ok-bound.ensures.bound c.requires.typed
    c.requires.rows in
    record {
      rows = subst (λ (all : List TimedRow). IfOk c.rows_made.result (λ made. made ≡ all)) same
          c.rows_made.ensures.rows;
    }
