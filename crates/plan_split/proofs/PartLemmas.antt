-- A part that is put at the end comes first.
use Rattle.std.proofs.Common.{◌≡◌, ◌∙◌, ◌+◌, List, [], ◌∷◌, ◌++◌, ap, sym, append_assoc, append-nil, arith}
use Rattle.std.proofs.lemmas.List.{map-append}
use Rattle.typed_trees.specs.ExplanationParts.{nodes}
use Rattle.typed_trees.specs.Nodes.{node_tree}
use Rattle.typed_trees.specs.Plans.{fetches}
use Rattle.typed_trees.specs.declared.nodes.Node.{Node}
use Rattle.plan_split.specs.FetchParts.{remaining_fetches, remaining_nodes}
use denote.Ref.{Bor}

pub remaining_fetches-push : (parts : List (Bor Node)) (part : Bor Node)
    → remaining_fetches (parts ++ part ∷ []) ≡ fetches (node_tree part.now) ++ remaining_fetches parts
remaining_fetches-push [] part = sym (append-nil (fetches (node_tree part.now)))
remaining_fetches-push (next ∷ parts) part =
    ap (λ some. some ++ fetches (node_tree next.now)) (remaining_fetches-push parts part)
    ∙ append_assoc (fetches (node_tree part.now)) (remaining_fetches parts) (fetches (node_tree next.now))

pub remaining_nodes-push : (parts : List (Bor Node)) (part : Bor Node)
    → remaining_nodes (parts ++ part ∷ []) ≡ nodes (node_tree part.now) + remaining_nodes parts
remaining_nodes-push [] part = omega arith
remaining_nodes-push (next ∷ parts) part = omega (arith, remaining_nodes-push parts part)

pub ruleset parts_pushed = (remaining_fetches-push, remaining_nodes-push, append_assoc, map-append)
