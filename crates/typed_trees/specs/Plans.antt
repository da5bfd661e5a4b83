-- The fetches of a query, each of which has a formula in its plan, and what explains a query line by line.
use Rattle.std.specs.Prelude.{◌≡◌, List, [], ◌∷◌, ◌++◌, ℕ, ◌==◌, ◌&&◌, Bool, true, false, not, is_some, Option, Some}
use Rattle.std.specs.Prelude.{None, if◌then◌else◌}
use Rattle.mon_schema.specs.Names.{SchemaLists, metric_named, target_named}
use Rattle.typed_trees.specs.Fetches.{fetch_columns}
use Rattle.typed_trees.specs.Nodes as node
use Rattle.typed_trees.specs.Nodes.{NodeTree, columns_of, TypedTree}
use Rattle.typed_trees.specs.declared.explanations.OpLevel.{OpLevel}
use Rattle.typed_trees.specs.declared.explanations.OpWord.{OpWord}
use Rattle.typed_trees.specs.declared.explanations.OpWord.TheVariants as word
use Rattle.typed_trees.specs.declared.nodes.NodeInfo.{NodeInfo}

-- The fetches of a query, each of which has a formula in its plan.

-- what flows into the alignments of a tree, from the left: each fetch, with the filters on it
abbrev pub fetches : NodeTree → List NodeTree
fetches (node.Fetch info schema metric) = []
fetches (node.Filter info by input) = fetches input
fetches (node.Align info by input) = input ∷ []
fetches (node.GroupBy info by with input) = fetches input
fetches (node.Value info items input) = fetches input
fetches (node.Top info most column input) = fetches input
fetches (node.Join info left right) = fetches left ++ fetches right
fetches (node.Union info left right) = fetches left ++ fetches right

-- a fetch has the columns of its schemas, and so has each filter on it
abbrev pub HasFetchColumns : SchemaLists → NodeTree → Type 0
HasFetchColumns held (node.Fetch info schema metric) =
    info.columns ≡ fetch_columns (target_named schema held.targets) (metric_named metric held.metrics)
HasFetchColumns held (node.Filter info by input) = (info.columns ≡ columns_of input) × HasFetchColumns held input
HasFetchColumns held (node.Align info by input) = Unit {0}
HasFetchColumns held (node.GroupBy info by with input) = Unit {0}
HasFetchColumns held (node.Value info items input) = Unit {0}
HasFetchColumns held (node.Top info most column input) = Unit {0}
HasFetchColumns held (node.Join info left right) = Unit {0}
HasFetchColumns held (node.Union info left right) = Unit {0}

-- What explains a query: a line for each source and operation, in the order of its text.

abbrev pub word_of : NodeTree → OpWord
word_of (node.Fetch info schema metric) = word.Fetch
word_of (node.Filter info by input) = word.Filter
word_of (node.Align info by input) = word.Align
word_of (node.GroupBy info by with input) = word.GroupBy
word_of (node.Value info items input) = word.Value
word_of (node.Top info most column input) = word.Top
word_of (node.Join info left right) = word.Join
word_of (node.Union info left right) = word.Union

abbrev pub is_at_same_place : Option ℕ → Option ℕ → Bool
is_at_same_place None None = true
is_at_same_place (Some at) None = false
is_at_same_place None (Some at) = false
is_at_same_place (Some at) (Some other) = at == other

-- the line of a node that stands below one at a place: none for an alignment by default, which has no place, and
-- none where the node above has the same place. That is so of a join or a union of several branches, of which the
-- last node has the line.
abbrev pub own_line : Option ℕ → OpWord → NodeInfo → List OpLevel
own_line above word info =
    if is_some info.at && not (is_at_same_place info.at above) then record { word = word; level = info.level } ∷ []
    else []

-- the lines of a part below a node at a place: those of what flows into it, and then its own
abbrev pub lines_below : Option ℕ → NodeTree → List OpLevel
lines_below above (node.Fetch info schema metric) = own_line above word.Fetch info
lines_below above (node.Filter info by input) = lines_below info.at input ++ own_line above word.Filter info
lines_below above (node.Align info by input) = lines_below info.at input ++ own_line above word.Align info
lines_below above (node.GroupBy info by with input) = lines_below info.at input ++ own_line above word.GroupBy info
lines_below above (node.Value info items input) = lines_below info.at input ++ own_line above word.Value info
lines_below above (node.Top info most column input) = lines_below info.at input ++ own_line above word.Top info
lines_below above (node.Join info left right) =
    lines_below info.at left ++ (lines_below info.at right ++ own_line above word.Join info)
lines_below above (node.Union info left right) =
    lines_below info.at left ++ (lines_below info.at right ++ own_line above word.Union info)

-- the lines of a whole query
abbrev pub op_levels : TypedTree → List OpLevel
op_levels typed = lines_below None typed.tree
