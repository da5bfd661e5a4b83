use Rattle.std.proofs.Common.{◌≡◌, ◌∙◌, ◌++◌, ◌∷◌, [], List, ap, append_assoc, sym, arith}
use Rattle.typed_trees.specs.ExplanationParts.{nodes}
use Rattle.typed_trees.specs.Nodes.{node_tree}
use Rattle.typed_trees.specs.Levels as spec
use Rattle.typed_trees.specs.Levels.{top_parts}
use Rattle.mon_meaning.specs.within.PartsToCome.{nodes_left, part_nodes, parts_left}
use Rattle.mon_meaning.specs.declared.parts_up.TopPart.{TopPart}
use Rattle.mon_meaning.proofs.PartsToComeLemmas.{nodes_left-push, two_left}
use Rattle.mon_meaning.proofs.parts_up.put_sides.Goals as goal

pub returns-clause-left : goal.returns-clause-left
returns-clause-left c =
    let rest = c.args.rest.now.items in
    let l : TopPart = c.of_rows-2.result in
    let r : TopPart = c.of_rows.result in
    let left = node_tree c.args.left.now in
    let right = node_tree c.args.right.now in
    let pushed : c.push-2.new.self.items ≡ (rest ++ r ∷ []) ++ l ∷ [] =
    c.in_ok-push-2.ensures.items ∙ ap (λ (xs : List TopPart). xs ++ l ∷ []) c.in_ok-push.ensures.items in
    λ here. ap (parts_left here) pushed
    ∙ two_left here rest l r left right c.of_rows-2.ensures.part c.of_rows.ensures.part
    ∙ sym (append_assoc (top_parts here left) (top_parts here right) (parts_left here rest))

pub returns-clause-nodes : goal.returns-clause-nodes
returns-clause-nodes c =
    let rest = c.args.rest.now.items in
    let l : TopPart = c.of_rows-2.result in
    let r : TopPart = c.of_rows.result in
    let pushed : c.push-2.new.self.items ≡ (rest ++ r ∷ []) ++ l ∷ [] =
    c.in_ok-push-2.ensures.items ∙ ap (λ (xs : List TopPart). xs ++ l ∷ []) c.in_ok-push.ensures.items in
    let left : part_nodes l ≡ nodes (node_tree c.args.left.now) =
    ap (λ (p : spec.TopPart). nodes p.1) c.of_rows-2.ensures.part in
    let right : part_nodes r ≡ nodes (node_tree c.args.right.now) =
    ap (λ (p : spec.TopPart). nodes p.1) c.of_rows.ensures.part in
    omega (
      arith,
      ap nodes_left pushed,
      nodes_left-push (rest ++ r ∷ []) l,
      nodes_left-push rest r,
      left,
      right,
    )
