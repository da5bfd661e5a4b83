use Rattle.std.proofs.Common.{◌≡◌, ◌∙◌, ◌++◌, ◌∷◌, [], List, Bor, sym, ap, subst}
use Rattle.std.proofs.lemmas.List.{map-append}
use Rattle.typed_trees.specs.Nodes.{NodeTree, node_tree}
use Rattle.typed_trees.specs.declared.nodes.Node.{Node}
use Rattle.mon_meaning.specs.within.Paths.{trees_of}
use Rattle.standing_incr.specs.Ways.{CanGoThrough, rows_through}
use Rattle.standing_incr.proofs.WayLemmas.{can_last, through_last}
use Rattle.standing_incr.proofs.ways.rows_through.Goals as goal

pub one_sided_rows-requires : goal.one_sided_rows-requires
one_sided_rows-requires c =
    let last = node_tree c.in-Some.node.now in
    let above = trees_of c.pop.new.self.items in
    let items : trees_of c.loop-node.rest.items ≡ above ++ last ∷ [] =
    ap trees_of c.in-Some.ensures.items ∙ map-append (λ (one : Bor Node). node_tree one.now) c.pop.new.self.items _ in
    let can = can_last above last c.loop-node.made (subst (λ (nodes : List NodeTree). CanGoThrough nodes
    c.loop-node.made) items c.loop-node.invariant.can) in
    record { one = can.0.0; can = can.0.1 }

pub loop-node-preserved : goal.loop-node-preserved
loop-node-preserved c =
    let last = node_tree c.in-Some.node.now in
    let above = trees_of c.pop.new.self.items in
    let items : trees_of c.loop-node.rest.items ≡ above ++ last ∷ [] =
    ap trees_of c.in-Some.ensures.items ∙ map-append (λ (one : Bor Node). node_tree one.now) c.pop.new.self.items _ in
    let can = can_last above last c.loop-node.made (subst (λ (nodes : List NodeTree). CanGoThrough nodes
    c.loop-node.made) items c.loop-node.invariant.can) in
    record {
      can = subst (CanGoThrough above) (sym c.in_ok-made.ensures.rows) can.1;
      whole =
          ap (rows_through above) c.in_ok-made.ensures.rows
          ∙ sym (through_last above last c.loop-node.made)
          ∙ ap (λ (nodes : List NodeTree). rows_through nodes c.loop-node.made) (sym items)
          ∙ c.loop-node.invariant.whole;
    }
