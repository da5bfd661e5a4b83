-- The parts of the code, as the definitions have them.
use Rattle.mql_types.specs.declared.parts.Part as code
use Rattle.typed_trees.specs.Nodes.{node_tree}
use Rattle.typed_trees.specs.Typing.{Part}

abbrev pub part_view : code.Part → Part
part_view part = record { tree = node_tree part.node; points = part.points }
