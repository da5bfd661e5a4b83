use Rattle.std.proofs.Common.{◌≡◌, ◌∙◌, ◌++◌, ◌∷◌, [], List, Bor, sym, ap, subst}
use Rattle.std.proofs.lemmas.List.{map-append}
use Rattle.typed_trees.specs.Nodes.{NodeTree, node_tree}
use Rattle.typed_trees.specs.declared.nodes.Node.{Node}
use Rattle.mon_meaning.specs.TopParts.{up_to}
use Rattle.mon_meaning.specs.within.Paths.{trees_of}
use Rattle.mixer.proofs.MixedWalks.{Down, step_down}
use Rattle.mixer.proofs.paths.way_down.Goals as goal

pub loop-input-preserved : goal.loop-input-preserved
loop-input-preserved c =
    let here = up_to c.args.below in
    let top = node_tree c.args.tree.now in
    let last = node_tree c.loop-input.end.now in
    let input = node_tree c.in-Some.input.now in
    let above = trees_of c.loop-input.above.items in
    let items : trees_of c.push.new.self.items ≡ above ++ last ∷ [] =
    ap trees_of c.in_ok-push.ensures.items ∙ map-append (λ (one : Bor Node). node_tree one.now)
    c.loop-input.above.items _ in
    subst (λ (nodes : List NodeTree). Down here nodes top input) (sym items)
    (step_down here above top last input c.loop-input.invariant c.in-Some.ensures.input)
