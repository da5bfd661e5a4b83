use Rattle.std.proofs.Common.{◌≡◌, ◌∙◌, ◌<◌, ◌+◌, ◌*◌, ◌++◌, ◌∷◌, [], ℕ, List, Bor, ap, subst, rules, arith}
use Rattle.std.specs.Vec.Iter.{into_iter_items}
use Rattle.std.proofs.lemmas.List.{map-append}
use Rattle.typed_trees.specs.Nodes.{NodeTree, node_tree}
use Rattle.typed_trees.specs.Soundness.{IsWithinRows}
use Rattle.typed_trees.specs.declared.nodes.Node.{Node}
use Rattle.mon_meaning.specs.Counts.{TellsOver}
use Rattle.mon_meaning.specs.Operations.{CanOperate}
use Rattle.mon_meaning.specs.TopParts.{up_to}
use Rattle.mon_meaning.specs.within.Paths.{trees_of}
use Rattle.typed_trees.specs.ExplanationParts.{nodes}
use Rattle.mixer.specs.within.Mixtures.{OtherCanMix, joins_from, other_joins, other_piece_rows, own_joins}
use Rattle.mixer.proofs.MixedWalks.{Walk, next_step, step_over, walk_on}
use Rattle.mixer.proofs.mixtures.+mixtures.Goals as goal

pub mixed_rows-rows_above-requires : goal.mixed_rows-rows_above-requires
mixed_rows-rows_above-requires t c =
    let here = up_to c.args.setting.below in
    let top = node_tree c.args.tree.now in
    let all = into_iter_items c.args.pieces.now in
    let one = node_tree c.in-Some.node.now in
    let above = trees_of c.pop.new.self.items in
    let left = into_iter_items c.loop-node.pieces in
    let load = c.loop-node.meter.load in
    let items : trees_of c.loop-node.above.items ≡ above ++ one ∷ [] =
    ap trees_of c.in-Some.ensures.items ∙ map-append (λ (x : Bor Node). node_tree x.now) c.pop.new.self.items _ in
    let walk = subst (λ (nodes : List NodeTree). Walk here top all nodes c.loop-node.rows left c.args.meter.now.load
    load)
    items c.loop-node.invariant.walk in
    let step = next_step here top all above one c.loop-node.rows left c.args.meter.now.load load walk c.requires.can in
    let others : OtherCanMix load here one left = step.others in
    let operates : IsWithinRows (load + other_joins here one left)
    → CanOperate one c.loop-node.rows (other_piece_rows here one left) = step.operates in
    let falls : 3 * nodes one + 1 < 3 * nodes top + 2 = omega (arith, step.smaller) in
    search rules

pub mixed_rows-returns-in_err-rows-2-clause-over : goal.mixed_rows-returns-in_err-rows-2-clause-over
mixed_rows-returns-in_err-rows-2-clause-over t c =
    let here = up_to c.args.setting.below in
    let top = node_tree c.args.tree.now in
    let all = into_iter_items c.args.pieces.now in
    let one = node_tree c.in-Some.node.now in
    let above = trees_of c.pop.new.self.items in
    let left = into_iter_items c.loop-node.pieces in
    let load = c.loop-node.meter.load in
    let items : trees_of c.loop-node.above.items ≡ above ++ one ∷ [] =
    ap trees_of c.in-Some.ensures.items ∙ map-append (λ (x : Bor Node). node_tree x.now) c.pop.new.self.items _ in
    let walk = subst (λ (nodes : List NodeTree). Walk here top all nodes c.loop-node.rows left c.args.meter.now.load
    load)
    items c.loop-node.invariant.walk in
    let step = next_step here top all above one c.loop-node.rows left c.args.meter.now.load load walk c.requires.can in
    let told : TellsOver c.args.meter.now.limit (load + own_joins here one c.loop-node.rows left)
    c.in_err-rows-2.field-0.0 =
    subst (λ (l : ℕ). TellsOver l (load + own_joins here one c.loop-node.rows left) c.in_err-rows-2.field-0.0)
    c.loop-node.invariant.limit c.in_err-rows-2.ensures.over in
    let fact : TellsOver c.args.meter.now.limit (c.args.meter.now.load + joins_from here top all)
    c.in_err-rows-2.field-0.0 =
    step_over here top all above one c.loop-node.rows left c.args.meter.now.limit c.args.meter.now.load load
    c.in_err-rows-2.field-0.0 step told in
    search rules

pub mixed_rows-loop-node-preserved : goal.mixed_rows-loop-node-preserved
mixed_rows-loop-node-preserved t c =
    let here = up_to c.args.setting.below in
    let top = node_tree c.args.tree.now in
    let all = into_iter_items c.args.pieces.now in
    let one = node_tree c.in-Some.node.now in
    let above = trees_of c.pop.new.self.items in
    let left = into_iter_items c.loop-node.pieces in
    let load = c.loop-node.meter.load in
    let items : trees_of c.loop-node.above.items ≡ above ++ one ∷ [] =
    ap trees_of c.in-Some.ensures.items ∙ map-append (λ (x : Bor Node). node_tree x.now) c.pop.new.self.items _ in
    let walk = subst (λ (nodes : List NodeTree). Walk here top all nodes c.loop-node.rows left c.args.meter.now.load
    load)
    items c.loop-node.invariant.walk in
    let step = next_step here top all above one c.loop-node.rows left c.args.meter.now.load load walk c.requires.can in
    record {
      walk = walk_on here top all above one c.loop-node.rows c.in_ok-rows-2.rows left
          (into_iter_items c.rows_above.new.pieces) c.args.meter.now.load load c.rows_above.new.meter.load step
          c.in_ok-rows-2.ensures.rows c.in_ok-rows-2.ensures.left c.in_ok-rows-2.ensures.counted;
      items = c.in_ok-rows-2.ensures.items;
      limit = c.in_ok-rows-2.ensures.limit ∙ c.loop-node.invariant.limit;
    }
