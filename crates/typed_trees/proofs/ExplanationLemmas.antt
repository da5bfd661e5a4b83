-- A part that is put at the end stands in front of the lines that were found.
use Rattle.std.proofs.Common.{◌≡◌, ◌∙◌, ◌+◌, List, [], ◌∷◌, ◌++◌, ap, append_assoc, append-nil, arith}
use Rattle.std.proofs.lemmas.List.Sums.{sum_by-append}
use Rattle.std.proofs.lemmas.Grind.{flat_map-append}
use Rattle.typed_trees.specs.declared.explanations.Below.{Below}
use Rattle.typed_trees.specs.ExplanationParts.{part_lines, nodes, remaining_lines, remaining_nodes}
use Rattle.typed_trees.specs.Nodes.{node_tree}

pub remaining_lines-push : (parts : List Below) (part : Below)
    → remaining_lines (parts ++ part ∷ []) ≡ remaining_lines parts ++ part_lines part
remaining_lines-push parts part =
    flat_map-append part_lines parts (part ∷ []) ∙ ap (λ t. remaining_lines parts ++ t) (append-nil (part_lines part))

pub remaining_nodes-push : (parts : List Below) (part : Below)
    → remaining_nodes (parts ++ part ∷ []) ≡ remaining_nodes parts + nodes (node_tree part.node.now)
remaining_nodes-push parts part =
    omega (arith, sum_by-append (λ (p : Below). nodes (node_tree p.node.now)) parts (part ∷ []))

pub ruleset parts_to_come = (remaining_lines-push, remaining_nodes-push, append_assoc)
