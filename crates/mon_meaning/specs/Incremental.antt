-- Which queries have a result that can be kept up to date row by row.
use Rattle.std.specs.Prelude.{ℕ, ◌+◌, ◌&&◌, nat_le, Bool, true, false}
use Rattle.typed_trees.specs.Nodes as node
use Rattle.typed_trees.specs.Nodes.{NodeTree}

-- whether nothing is joined or united
abbrev pub is_one_path : NodeTree → Bool
is_one_path (node.Fetch info schema metric) = true
is_one_path (node.Filter info by input) = is_one_path input
is_one_path (node.Align info by input) = is_one_path input
is_one_path (node.GroupBy info by with input) = is_one_path input
is_one_path (node.Value info items input) = is_one_path input
is_one_path (node.Top info most column input) = is_one_path input
is_one_path (node.Join info left right) = false
is_one_path (node.Union info left right) = false

-- how often rows are grouped
abbrev pub group_count : NodeTree → ℕ
group_count (node.Fetch info schema metric) = 0
group_count (node.Filter info by input) = group_count input
group_count (node.Align info by input) = group_count input
group_count (node.GroupBy info by with input) = 1 + group_count input
group_count (node.Value info items input) = group_count input
group_count (node.Top info most column input) = group_count input
group_count (node.Join info left right) = group_count left + group_count right
group_count (node.Union info left right) = group_count left + group_count right

-- whether a result can be kept: nothing is joined or united, and rows are grouped once at most
abbrev pub is_incremental : NodeTree → Bool
is_incremental tree = is_one_path tree && nat_le (group_count tree) 1
