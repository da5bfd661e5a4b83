-- Operations that work row by row.
use Rattle.typed_trees.specs.Nodes as node
use Rattle.typed_trees.specs.Nodes.{NodeTree}

-- whether an operation makes of each row of its input none or one, whatever the others are
abbrev pub WorksByRow : NodeTree → Type 0
WorksByRow (node.Fetch info schema metric) = ⊥
WorksByRow (node.Filter info by input) = Unit {0}
WorksByRow (node.Align info by input) = ⊥
WorksByRow (node.GroupBy info by with input) = ⊥
WorksByRow (node.Value info items input) = Unit {0}
WorksByRow (node.Top info most column input) = ⊥
WorksByRow (node.Join info left right) = ⊥
WorksByRow (node.Union info left right) = ⊥
