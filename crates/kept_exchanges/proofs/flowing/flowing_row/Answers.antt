use Rattle.std.proofs.Common.{◌≡◌, ◌∙◌, ◌+◌, ◌-◌, ◌<◌, ◌++◌, ◌∷◌, [], List, Bor, take, length, sym, ap, subst, arith}
use Rattle.mon_meaning.specs.within.Paths.{trees_of}
use Rattle.typed_trees.specs.Nodes.{NodeTree, node_tree}
use Rattle.typed_trees.specs.declared.nodes.Node.{Node}
use Rattle.kept_exchanges.specs.Flows.{CanFlow, row_flowing}
use Rattle.kept_exchanges.proofs.FlowLemmas.{can_last, flow_last, node_last}
use Rattle.kept_exchanges.proofs.flowing.flowing_row.Goals as goal

pub row_made-requires : goal.row_made-requires
row_made-requires c =
    let nodes = c.args.above.now in
    let n = c.loop-left.left - 1 in
    let rest = trees_of (take n nodes) in
    let one = c.index-above-left.result in
    let within = c.loop-left.invariant.within in
    let some = c.loop-left-test.true in
    let next : c.loop-left.left ≡ n + 1 = omega arith in
    let below : n < length nodes = omega arith in
    let last : trees_of (take c.loop-left.left nodes) ≡ rest ++ node_tree one.now ∷ [] =
    ap (λ k. trees_of (take k nodes)) next ∙ node_last nodes n one below
    ∙ ap (λ (b : Bor Node). rest ++ node_tree b.now ∷ []) (sym c.index-above-left.is) in
    record {
      can = (can_last rest (node_tree one.now) c.loop-left.made
          (subst (λ (trees : List NodeTree). CanFlow trees c.loop-left.made) last c.loop-left.invariant.can)).0;
    }

pub loop-left-preserved : goal.loop-left-preserved
loop-left-preserved c =
    let nodes = c.args.above.now in
    let n = c.loop-left.left - 1 in
    let rest = trees_of (take n nodes) in
    let one = c.index-above-left.result in
    let within = c.loop-left.invariant.within in
    let some = c.loop-left-test.true in
    let next : c.loop-left.left ≡ n + 1 = omega arith in
    let below : n < length nodes = omega arith in
    let last : trees_of (take c.loop-left.left nodes) ≡ rest ++ node_tree one.now ∷ [] =
    ap (λ k. trees_of (take k nodes)) next ∙ node_last nodes n one below
    ∙ ap (λ (b : Bor Node). rest ++ node_tree b.now ∷ []) (sym c.index-above-left.is) in
    let can = can_last rest (node_tree one.now) c.loop-left.made
    (subst (λ (trees : List NodeTree). CanFlow trees c.loop-left.made) last c.loop-left.invariant.can) in
    record {
      within = omega arith;
      can = subst (CanFlow rest) (sym c.in_ok-made.ensures.made) can.1;
      whole =
          ap (row_flowing rest) c.in_ok-made.ensures.made
          ∙ sym (flow_last rest (node_tree one.now) c.loop-left.made)
          ∙ ap (λ (trees : List NodeTree). row_flowing trees c.loop-left.made) (sym last)
          ∙ c.loop-left.invariant.whole;
    }
