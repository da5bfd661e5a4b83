use Rattle.std.proofs.Common.{◌≡◌, ◌∙◌, ◌++◌, ◌∷◌, [], List, Bor, append-nil, append_assoc, refl, sym, ap}
use Rattle.std.proofs.lemmas.List.{map-append}
use Rattle.typed_trees.specs.Nodes.{NodeTree, node_tree}
use Rattle.typed_trees.specs.declared.nodes.Node.{Node}
use Rattle.mon_meaning.specs.within.Paths.{trees_of}
use Rattle.standing_incr.specs.Ways.{nodes_above}
use Rattle.standing_incr.proofs.ways.way_down.Goals as goal

pub loop-input-preserved : goal.loop-input-preserved
loop-input-preserved c =
    let to = c.args.stop in
    let last = node_tree c.loop-input.end.now in
    let above = trees_of c.loop-input.above.items in
    let left = nodes_above to (node_tree c.in-Some.input.now) in
    let items : trees_of c.push.new.self.items ≡ above ++ last ∷ [] =
    ap trees_of c.in_ok-push.ensures.items ∙ map-append (λ (one : Bor Node). node_tree one.now)
    c.loop-input.above.items _ in
    record {
      above =
          ap (λ (nodes : List NodeTree). nodes ++ left) items
          ∙ append_assoc above (last ∷ []) left
          ∙ ap (λ (rest : List NodeTree). above ++ rest) (sym c.in-Some.ensures.above)
          ∙ c.loop-input.invariant.above;
      part = sym c.in-Some.ensures.part ∙ c.loop-input.invariant.part;
    }

pub returns : goal.returns
returns c =
    let above = trees_of c.loop-input.above.items in
    record {
      above =
          sym (append-nil above)
          ∙ ap (λ (rest : List NodeTree). above ++ rest) (sym (c.in_default.ensures.none refl))
          ∙ c.loop-input.invariant.above;
      end = sym (c.in_default.ensures.end refl) ∙ c.loop-input.invariant.part;
    }
