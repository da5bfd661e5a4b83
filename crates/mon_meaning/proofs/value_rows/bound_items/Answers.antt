use Rattle.std.proofs.Common.{◌≡◌, ◌∙◌, ◌+◌, ◌++◌, ◌∷◌, [], List, map, take, sym, ap, subst}
use Rattle.std.proofs.lemmas.List.{map-append, take_more}
use Rattle.mon_expr.specs.declared.bound_sums.BoundExpr.{BoundExpr}
use Rattle.mql_ast.specs.Rows.{HasShares, IsTypedSum}
use Rattle.mql_ast.specs.Trees.{ItemTree, item_tree}
use Rattle.mql_ast.specs.declared.operations.Item.{Item}
use Rattle.mon_meaning.specs.within.Items.{AreBound}
use Rattle.mon_meaning.proofs.ItemLemmas.{AreBound-push, at_map}
use Rattle.mon_meaning.proofs.value_rows.bound_items.Goals as goal

pub new-requires-clause-typed : goal.new-requires-clause-typed
new-requires-clause-typed c =
    let item : Item = c.item-item.result in
    (at_map (λ (i : ItemTree). IsTypedSum i.sum c.args.columns.now × HasShares i.sum) item_tree c.args.items.now
    c.loop-item.item-index item
    c.requires.typed c.item-item.is c.loop-item-test.true).0

pub new-requires-clause-shares : goal.new-requires-clause-shares
new-requires-clause-shares c =
    let item : Item = c.item-item.result in
    (at_map (λ (i : ItemTree). IsTypedSum i.sum c.args.columns.now × HasShares i.sum) item_tree c.args.items.now
    c.loop-item.item-index item
    c.requires.typed c.item-item.is c.loop-item-test.true).1

pub loop-item-preserved : goal.loop-item-preserved
loop-item-preserved c =
    let item : Item = c.item-item.result in
    let items = c.args.items.now in
    let columns = c.args.columns.now in
    let i = c.loop-item.item-index in
    let so_far = map item_tree (take i items) in
    let more : map item_tree (take (i + 1) items) ≡ so_far ++ item_tree item ∷ [] =
    ap (map item_tree) (take_more items i item c.loop-item-test.true ∙ ap (λ (x : Item). take i items ++ x ∷ [])
    (sym c.item-item.is))
    ∙ map-append item_tree (take i items) (item ∷ []) in
    subst (λ (bound : List BoundExpr). AreBound bound (map item_tree (take (i + 1) items)) columns)
    (sym c.in_ok-push.ensures.items)
    (subst (λ (trees : List ItemTree). AreBound (c.loop-item.bound.items ++ c.in_ok-new.field-0 ∷ []) trees columns)
    (sym more)
    (AreBound-push c.loop-item.bound.items so_far columns c.in_ok-new.field-0 (item_tree item) c.loop-item.invariant
    c.in_ok-new.ensures.bound))
