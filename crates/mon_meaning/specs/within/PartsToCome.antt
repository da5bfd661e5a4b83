-- What is still to be gone through of a tree, for the parts of which pieces go up.
use Rattle.std.specs.Prelude.{ℕ, ◌+◌, Bool, List, [], ◌∷◌, ◌++◌}
use Rattle.typed_trees.specs.ExplanationParts.{nodes}
use Rattle.typed_trees.specs.Nodes.{NodeTree, level_of, node_tree}
use Rattle.typed_trees.specs.Levels as spec
use Rattle.typed_trees.specs.Levels.{part_or, top_parts}
use Rattle.typed_trees.specs.declared.levels.Level.{Level}
use Rattle.mon_meaning.specs.TopParts as seen
use Rattle.mon_meaning.specs.declared.parts_up.TopPart.{TopPart}

abbrev pub part_seen : TopPart → spec.TopPart
part_seen part = seen.part_seen part

abbrev pub as_rows : NodeTree → spec.TopPart
as_rows tree = (spec.AsRows, tree)

-- the topmost parts of a part: itself, where it is done here
abbrev pub parts_of_part : (Level → Bool) → spec.TopPart → List spec.TopPart
parts_of_part here part = part_or (here (level_of part.1)) part.0 part.1 (top_parts here part.1)

-- those of the parts to come, the last of them first
abbrev pub parts_left : (Level → Bool) → List TopPart → List spec.TopPart
parts_left here [] = []
parts_left here (part ∷ parts) = parts_left here parts ++ parts_of_part here (part_seen part)

abbrev pub part_nodes : TopPart → ℕ
part_nodes part = nodes (node_tree part.part.now)

abbrev pub nodes_left : List TopPart → ℕ
nodes_left [] = 0
nodes_left (part ∷ parts) = nodes_left parts + part_nodes part
