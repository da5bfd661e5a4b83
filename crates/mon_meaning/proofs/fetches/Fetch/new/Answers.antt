use Rattle.std.proofs.Common.{◌≡◌, ◌∙◌, List, sym, ap, subst}
use Rattle.mon_expr.specs.BoundPredicates.{IsBoundPredicate}
use Rattle.mon_value.specs.declared.columns.Column.{Column}
use Rattle.mql_ast.specs.Trees.{predicate_tree}
use Rattle.typed_trees.specs.Meaning.{names_keys}
use Rattle.typed_trees.specs.Nodes as node
use Rattle.typed_trees.specs.Nodes.{NodeTree, node_tree}
use Rattle.mon_meaning.proofs.FilterSteps.{Remains, moved, with_points, with_series}
use Rattle.mon_meaning.proofs.fetches.Fetch.new.Goals as goal
use Rattle.mon_meaning.proofs.fetches.Fetch.new.Goals.{then-names_keys+in_ok-push-in-Filter}
use Rattle.mon_meaning.proofs.fetches.Fetch.new.Goals.{else-names_keys+in_ok-push-in-Filter-2}

pub loop-rest-preserved : goal.loop-rest-preserved
loop-rest-preserved c =
    let input = node_tree c.args.input.now in
    let info = c.in-Filter.info in
    let by = predicate_tree c.in-Filter.by in
    let rest = node_tree c.in-Filter.input.value in
    let ss = c.loop-rest.of_series.items in
    let ps = c.loop-rest.of_points.items in
    let bound = c.in_ok-bound-in-Filter.bound in
    let is : node_tree c.loop-rest.rest.now ≡ node.Filter info by rest = ap node_tree c.in-Filter.is in
    let remains : Remains input (node.Filter info by rest) ss ps =
    subst (λ (tree : NodeTree). Remains input tree ss ps) is c.loop-rest.invariant in
    let bound_is : IsBoundPredicate bound by info.columns =
    subst (λ (columns : List Column). IsBoundPredicate bound by columns) c.deref.ensures
    c.in_ok-bound-in-Filter.ensures.bound in
    let keys : c.names_keys.result ≡ names_keys info.columns by =
    c.names_keys.ensures.keys ∙ ap (λ (columns : List Column). names_keys columns by) c.deref-in-Filter.ensures in
    let below : node_tree c.deref-rest.result.now ≡ rest = ap node_tree c.deref-rest.ensures in
    elim c.if-names_keys.branch [
      | then-names_keys+in_ok-push-in-Filter w ↦
          moved input rest (node_tree c.deref-rest.result.now) _ c.if-names_keys.of_series.items ps
          c.if-names_keys.of_points.items below
          (ap (λ v. v.items) w.of_series-is ∙ w.in_ok-push-in-Filter.ensures.items) (ap (λ v. v.items) w.of_points-is)
          (with_series input rest info by ss ps bound bound_is remains (sym keys ∙ w.if-names_keys.true))
      | else-names_keys+in_ok-push-in-Filter-2 w ↦
          moved input rest (node_tree c.deref-rest.result.now) ss c.if-names_keys.of_series.items
          _ c.if-names_keys.of_points.items below
          (ap (λ v. v.items) w.of_series-is) (ap (λ v. v.items) w.of_points-is ∙ w.in_ok-push-in-Filter-2.ensures.items)
          (with_points input rest info by ss ps bound bound_is remains (sym keys ∙ w.if-names_keys.false))
    ]
