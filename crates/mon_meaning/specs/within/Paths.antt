-- The way down a tree.
use Rattle.std.specs.Prelude.{◌≡◌, ℕ, ◌+◌, List, [], ◌∷◌, length, map}
use Rattle.std.specs.Borrow.{Bor}
use Rattle.mon_value.specs.declared.grids.Grid.{Grid}
use Rattle.mon_value.specs.declared.tables.TimedRow.{TimedRow}
use Rattle.typed_trees.specs.Nodes as node
use Rattle.typed_trees.specs.Nodes.{NodeTree, node_tree}
use Rattle.typed_trees.specs.declared.nodes.Node.{Node}
use Rattle.mon_meaning.specs.within.SeriesMeaning.{SeriesGroup, load_by_series, rows_by_series}

-- what flows into an operation first; a source is where rows begin
abbrev pub first_input : NodeTree → NodeTree
first_input (node.Fetch info schema metric) = node.Fetch info schema metric
first_input (node.Filter info by input) = input
first_input (node.Align info by input) = node.Align info by input
first_input (node.GroupBy info by with input) = input
first_input (node.Value info items input) = input
first_input (node.Top info most column input) = input
first_input (node.Join info left right) = left
first_input (node.Union info left right) = left

-- whether no rows flow into a node
abbrev pub HasNoInput : NodeTree → Type 0
HasNoInput (node.Fetch info schema metric) = Unit {0}
HasNoInput (node.Filter info by input) = ⊥
HasNoInput (node.Align info by input) = Unit {0}
HasNoInput (node.GroupBy info by with input) = ⊥
HasNoInput (node.Value info items input) = ⊥
HasNoInput (node.Top info most column input) = ⊥
HasNoInput (node.Join info left right) = ⊥
HasNoInput (node.Union info left right) = ⊥

-- the trees that references point to
abbrev pub trees_of : List (Bor Node) → List NodeTree
trees_of nodes = map (λ one. node_tree one.now) nodes

-- nodes from the top of a tree, each the first input of the one before it, down to another
abbrev pub Leads : List NodeTree → NodeTree → NodeTree → Type 0
Leads [] top end = top ≡ end
Leads (node ∷ above) top end = (top ≡ node) × Leads above (first_input node) end

-- the rows of an operation's right side, and none where it has no such side
abbrev pub other_rows : Grid → NodeTree → List SeriesGroup → List TimedRow
other_rows grid (node.Fetch info schema metric) series = []
other_rows grid (node.Filter info by input) series = []
other_rows grid (node.Align info by input) series = []
other_rows grid (node.GroupBy info by with input) series = []
other_rows grid (node.Value info items input) series = []
other_rows grid (node.Top info most column input) series = []
other_rows grid (node.Join info left right) series = rows_by_series grid right series
other_rows grid (node.Union info left right) series = rows_by_series grid right series

-- their load
abbrev pub other_load : Grid → NodeTree → List SeriesGroup → ℕ
other_load grid (node.Fetch info schema metric) series = 0
other_load grid (node.Filter info by input) series = 0
other_load grid (node.Align info by input) series = 0
other_load grid (node.GroupBy info by with input) series = 0
other_load grid (node.Value info items input) series = 0
other_load grid (node.Top info most column input) series = 0
other_load grid (node.Join info left right) series = load_by_series grid right series
other_load grid (node.Union info left right) series = load_by_series grid right series

-- the load that an operation adds to that of what flows into it first
abbrev pub own_load : Grid → NodeTree → List SeriesGroup → ℕ
own_load grid (node.Fetch info schema metric) series = 0
own_load grid (node.Filter info by input) series = 0
own_load grid (node.Align info by input) series = 0
own_load grid (node.GroupBy info by with input) series = 0
own_load grid (node.Value info items input) series = 0
own_load grid (node.Top info most column input) series = 0
own_load grid (node.Join info left right) series =
    load_by_series grid right series + length (rows_by_series grid (node.Join info left right) series)
own_load grid (node.Union info left right) series = load_by_series grid right series
