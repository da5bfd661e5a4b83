use Rattle.std.proofs.Common.{◌≡◌, ◌∙◌, ◌++◌, ◌∷◌, [], List, Bor, sym, ap, subst}
use Rattle.std.proofs.lemmas.List.{map-append}
use Rattle.typed_trees.specs.Nodes.{NodeTree, node_tree}
use Rattle.typed_trees.specs.declared.nodes.Node.{Node}
use Rattle.mon_meaning.specs.within.Paths.{Leads, trees_of}
use Rattle.mon_meaning.proofs.PathLemmas.{Leads-push}
use Rattle.mon_meaning.proofs.paths.path_down.Goals as goal

pub loop-input-preserved : goal.loop-input-preserved
loop-input-preserved c =
    let top = node_tree c.args.tree.now in
    let last = node_tree c.loop-input.source.now in
    let above = trees_of c.loop-input.above.items in
    let pushed = Leads-push above top last c.loop-input.invariant in
    let items : trees_of c.push.new.self.items ≡ above ++ last ∷ [] =
    ap trees_of c.in_ok-push.ensures.items ∙ map-append (λ (one : Bor Node). node_tree one.now)
    c.loop-input.above.items _ in
    subst (λ (nodes : List NodeTree). Leads nodes top (node_tree c.in-Some.input.now)) (sym items)
    (subst (λ (end : NodeTree). Leads (above ++ last ∷ []) top end) (sym c.in-Some.ensures.input) pushed)
