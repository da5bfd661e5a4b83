use Rattle.std.proofs.Common.{◌≡◌, ◌∙◌, ◌+◌, ◌∷◌, ◌++◌, List, Option, drop, map, ap, sym, arith}
use Rattle.std.specs.Prelude.{option_to_list}
use Rattle.std.proofs.lemmas.List.{drop_more}
use Rattle.std.specs.List.{filter_map, flat_map}
use Rattle.mon_value.specs.declared.columns.Column.{Column}
use Rattle.mql_ast.specs.declared.operations.Item.{Item}
use Rattle.mql_ast.specs.Trees.{item_tree}
use Rattle.typed_trees.specs.Faults.{first_with}
use Rattle.typed_trees.specs.Items.{item_column, item_sum_faults}
use Rattle.typed_columns.proofs.FaultLemmas.{first_with-append}
use Rattle.typed_columns.proofs.ListedLemmas.{option_to_list-filter_map}
use Rattle.typed_columns.proofs.items.item_columns.Goals as goal

pub loop-item-preserved : goal.loop-item-preserved
loop-item-preserved c =
    let items = c.args.items.now in
    let columns = c.args.columns.now in
    let item : Item = c.item-item.result in
    let i = c.loop-item.item-index in
    let rest = map item_tree (drop (i + 1) items) in
    let made = c.loop-item.made in
    let next : drop i items ≡ item ∷ drop (i + 1) items =
    drop_more items i item (omega (arith, c.loop-item-test.true))
    ∙ ap (λ (x : Item). x ∷ drop (i + 1) items) (sym c.item-item.is) in
    record {
      columns = ap (λ (m : List Column). m ++ filter_map (item_column columns) rest) c.in_ok-push_some.ensures.added
          ∙ ap (λ (o : Option Column). (made ++ option_to_list o) ++ filter_map (item_column columns) rest)
          c.in_ok-column.ensures.column
          ∙ option_to_list-filter_map (item_column columns) (item_tree item) rest made
          ∙ sym (ap (λ (is : List Item). made ++ filter_map (item_column columns) (map item_tree is)) next)
          ∙ c.loop-item.invariant.columns;
      faults = ap (λ first. first_with first (flat_map (item_sum_faults columns) rest)) c.in_ok-column.ensures.faults
          ∙ sym (first_with-append c.loop-item.found.first (item_sum_faults columns (item_tree item))
          (flat_map (item_sum_faults columns) rest))
          ∙ sym (ap (λ (is : List Item). first_with c.loop-item.found.first
          (flat_map (item_sum_faults columns) (map item_tree is))) next)
          ∙ c.loop-item.invariant.faults;
    }
