-- The type of a query: its typed tree, or the first of its faults. Each form has its columns here as far as its names
-- are known, and its faults beside them; a query without a fault has the tree.
use Rattle.std.specs.Prelude.{ℕ, ℤ, false, List, [], ◌∷◌, ◌++◌, map, Option, Some, None, Result, Ok, Err, unwrap_or}
use Rattle.std.specs.Prelude.{if◌then◌else◌}
use Rattle.mon_value.specs.declared.aligners.Aligner.{Aligner}
use Rattle.mon_value.specs.declared.aligners.Aligner.TheVariants as aligner
use Rattle.mon_value.specs.declared.columns.Column.{Column}
use Rattle.mon_value.specs.declared.schemas.Kind.{Kind}
use Rattle.mon_value.specs.declared.schemas.Kind.TheVariants as kind
use Rattle.mon_schema.specs.Names.{SchemaLists, target_named, metric_named}
use Rattle.mql_ast.specs.Trees as tree
use Rattle.mql_ast.specs.Trees.{BranchTrees, DeedTree, ItemTree, OpTree, PipeTree, PredicateTree, SourceTree}
use Rattle.mql_ast.specs.declared.names.Name.{Name}
use Rattle.mql_ast.specs.declared.operations.Aggregate.{Aggregate}
use Rattle.mql_ast.specs.declared.pipes.How.{How}
use Rattle.mql_ast.specs.declared.pipes.How.TheVariants as how
use Rattle.typed_trees.specs.declared.faults.TypeFault.{TypeFault}
use Rattle.typed_trees.specs.declared.faults.TypeKind.TheVariants as fault
use Rattle.typed_trees.specs.declared.faults.TypeWord.TheVariants as word
use Rattle.typed_trees.specs.declared.fixed.Fixed.{Fixed}
use Rattle.typed_trees.specs.declared.levels.Level.{Level}
use Rattle.typed_trees.specs.declared.levels.Level.TheVariants as level
use Rattle.typed_trees.specs.declared.nodes.NodeInfo.{NodeInfo}
use Rattle.typed_trees.specs.Branches.{common_columns, join_columns, join_faults, union_columns, union_faults}
use Rattle.typed_trees.specs.Branches.{delta_width, increase_width, point_width, with_width}
use Rattle.typed_trees.specs.Faults.{fault_at, first_fault}
use Rattle.typed_trees.specs.Fetches.{fetch_columns, fetch_faults, kind_of, condition_faults, predicate_faults}
use Rattle.typed_trees.specs.FixedColumns.{fixed_by, fixed_in_both, joined_fixed, meeting_columns, named_in, with_fixed}
use Rattle.typed_trees.specs.Groupings.{aggregates_over, grouped_columns, group_faults, listed_columns, listed_places}
use Rattle.typed_trees.specs.Groupings.{place_found}
use Rattle.typed_trees.specs.Items.{is_number_type, key_columns, reserved_names, value_columns, value_faults}
use Rattle.typed_trees.specs.Levels.{higher_level, meeting_level}
use Rattle.typed_trees.specs.Nodes.{NodeTree, TypedTree, columns_of, fixed_of, level_of}
use Rattle.typed_trees.specs.Nodes as node
use Rattle.typed_trees.specs.Times.{every_said, pipe_order_faults, query_times, times_faults, within_said}
use Rattle.typed_trees.specs.declared.widths.Width.{Width}

-- a part of a query: its tree, and the kind of its metric while its points aren't aligned
pub record Part : Type 0 where
  pub tree : NodeTree
  pub points : Option Kind

abbrev pub info : Option ℕ → List Column → List Fixed → Level → NodeInfo
info at columns fixed level = record { at = at; columns = columns; fixed = fixed; level = level }

abbrev pub table : NodeTree → Part
table tree = record { tree = tree; points = None }

-- ---- fetches and alignments

-- a fetch is done by each leaf
abbrev pub fetch_part : SchemaLists → ℕ → Name → Name → Part
fetch_part held at schema metric =
    let found = metric_named metric.text held.metrics in
    record {
      tree = node.Fetch (info (Some at) (fetch_columns (target_named schema.text held.targets) found) [] level.Leaf)
          schema.text metric.text;
      points = Some (kind_of found);
    }

-- how wide values are once they are aligned
abbrev pub aligned_width : Aligner → Width
aligned_width (aligner.Delta seconds) = delta_width
aligned_width (aligner.Increase seconds) = increase_width
aligned_width (aligner.NextOlder seconds) = point_width

-- alignment leaves the keys, and widens the value
abbrev pub aligned_column : Aligner → Column → Column
aligned_column by column = if column.key then column else with_width (aligned_width by) column

abbrev pub align_node : Option ℕ → Aligner → NodeTree → NodeTree
align_node at by tree =
    node.Align (info at (map (aligned_column by) (columns_of tree)) (fixed_of tree) (level_of tree)) by tree

-- what a delta is: the sum of a metric's values, and of totals what they increase by
abbrev pub delta_of : Kind → ℤ → Aligner
delta_of kind.Gauge seconds = aligner.Delta seconds
delta_of kind.Delta seconds = aligner.Delta seconds
delta_of kind.Cumulative seconds = aligner.Increase seconds

-- a gauge has its newest value, and any other its delta
abbrev pub default_aligner : ℤ → Kind → Aligner
default_aligner every kind.Gauge = aligner.NextOlder every
default_aligner every kind.Delta = delta_of kind.Delta every
default_aligner every kind.Cumulative = delta_of kind.Cumulative every

-- what an alignment of points of a kind is, by what the query says
abbrev pub aligned_as : Option Kind → Aligner → Aligner
aligned_as None by = by
aligned_as (Some of) (aligner.Delta seconds) = delta_of of seconds
aligned_as (Some of) (aligner.Increase seconds) = delta_of of seconds
aligned_as (Some of) (aligner.NextOlder seconds) = aligner.NextOlder seconds

abbrev pub aligned_by_default : ℤ → Option Kind → NodeTree → NodeTree
aligned_by_default every None tree = tree
aligned_by_default every (Some of) tree = align_node None (default_aligner every of) tree

-- a table: what isn't aligned yet is aligned here, at no place of the text
abbrev pub aligned_tree : ℤ → Part → NodeTree
aligned_tree every part = aligned_by_default every part.points part.tree

-- a gauge has no delta
abbrev pub delta_faults : Kind → ℕ → List TypeFault
delta_faults kind.Gauge at = fault_at at fault.NotDelta ∷ []
delta_faults kind.Delta at = []
delta_faults kind.Cumulative at = []

-- a gauge alone has a newest value
abbrev pub newest_faults : Kind → ℕ → List TypeFault
newest_faults kind.Gauge at = []
newest_faults kind.Delta at = fault_at at fault.NotGauge ∷ []
newest_faults kind.Cumulative at = fault_at at fault.NotGauge ∷ []

-- a gauge is aligned as a gauge, any other as a delta, and a table not again
abbrev pub align_faults : Option Kind → ℕ → Aligner → List TypeFault
align_faults None at by = fault_at at fault.BadOrder ∷ []
align_faults (Some of) at (aligner.Delta seconds) = delta_faults of at
align_faults (Some of) at (aligner.Increase seconds) = delta_faults of at
align_faults (Some of) at (aligner.NextOlder seconds) = newest_faults of at

-- ---- operations on tables

-- groups are made where rows meet that agree in the listed columns, and in those that are fixed
abbrev pub group_node : SchemaLists → ℕ → List Name → List Aggregate → NodeTree → NodeTree
group_node held at names aggregates input =
    let columns = columns_of input in
    let places = listed_places columns reserved_names names in
    node.GroupBy
    (info (Some at) (grouped_columns columns names aggregates)
    (named_in (listed_columns columns names) (fixed_of input))
    (meeting_level held (level_of input) (meeting_columns places input)))
    places (aggregates_over columns aggregates) input

abbrev pub value_node : ℕ → List ItemTree → NodeTree → NodeTree
value_node at items input =
    node.Value
    (info (Some at) (value_columns (columns_of input) items) (named_in (key_columns (columns_of input)) (fixed_of input))
    (level_of input))
    items input

-- the rows that come first are known at the root alone
abbrev pub top_node : ℕ → ℕ → Name → NodeTree → NodeTree
top_node at most column input =
    node.Top (info (Some at) (columns_of input) (fixed_of input) level.Root) most
    (unwrap_or (place_found column.text (columns_of input)) 0) input

-- a filter leaves the columns and the level, and fixes what its equalities say
abbrev pub filter_node : ℕ → PredicateTree → NodeTree → NodeTree
filter_node at by input =
    node.Filter (info (Some at) (columns_of input) (with_fixed (fixed_of input) (fixed_by by)) (level_of input)) by input

abbrev pub filter_part : ℕ → PredicateTree → Part → Part
filter_part at by part = record part { tree = filter_node at by part.tree }

-- a pipe with an operation more
abbrev pub deed_part : SchemaLists → ℤ → Part → ℕ → DeedTree → Part
deed_part held every part at (tree.Filter predicate) = filter_part at predicate part
deed_part held every part at (tree.Align by) =
    table (align_node (Some at) (aligned_as part.points by) part.tree)
deed_part held every part at (tree.GroupBy names aggregates) =
    table (group_node held at names aggregates (aligned_tree every part))
deed_part held every part at (tree.Value items) = table (value_node at items (aligned_tree every part))
deed_part held every part at (tree.Top most column) = table (top_node at most column (aligned_tree every part))
deed_part held every part at (tree.Every seconds) = part
deed_part held every part at (tree.Within seconds) = part

-- the faults of an operation, by the columns that flow into it
abbrev pub deed_faults : ℤ → Part → ℕ → DeedTree → List TypeFault
deed_faults every part at (tree.Filter predicate) = predicate_faults (columns_of part.tree) predicate
deed_faults every part at (tree.Align by) = align_faults part.points at by
deed_faults every part at (tree.GroupBy names aggregates) =
    group_faults (columns_of (aligned_tree every part)) names aggregates
deed_faults every part at (tree.Value items) = value_faults (columns_of (aligned_tree every part)) items
deed_faults every part at (tree.Top most column) =
    condition_faults (columns_of (aligned_tree every part)) column is_number_type word.Int
deed_faults every part at (tree.Every seconds) = []
deed_faults every part at (tree.Within seconds) = []

-- ---- joins and unions

abbrev pub join_info : SchemaLists → ℕ → NodeTree → NodeTree → NodeInfo
join_info held at left right =
    info (Some at) (join_columns held (columns_of left) (columns_of right)) (joined_fixed left right)
    (meeting_level held (higher_level (level_of left) (level_of right))
    (common_columns held (columns_of left) (columns_of right)))

abbrev pub union_info : SchemaLists → ℕ → NodeTree → NodeTree → NodeInfo
union_info held at left right =
    info (Some at) (union_columns held (columns_of left) (columns_of right))
    (fixed_in_both (fixed_of left) (fixed_of right))
    (higher_level (level_of left) (level_of right))

-- the columns of two tables that are brought together, and the level at which they meet
abbrev pub branch_info : SchemaLists → How → ℕ → NodeTree → NodeTree → NodeInfo
branch_info held how.Join at left right = join_info held at left right
branch_info held how.Union at left right = union_info held at left right

-- two tables brought together, of which the columns and the level are known
abbrev pub joint_node : How → NodeInfo → NodeTree → NodeTree → NodeTree
joint_node how.Join info left right = node.Join info left right
joint_node how.Union info left right = node.Union info left right

-- two tables brought together; the pairs of a join are found where rows that agree in the common columns meet
abbrev pub branch_node : SchemaLists → How → ℕ → NodeTree → NodeTree → NodeTree
branch_node held how.Join at left right = node.Join (join_info held at left right) left right
branch_node held how.Union at left right = node.Union (union_info held at left right) left right

abbrev pub branch_faults : SchemaLists → How → ℕ → List Column → List Column → List TypeFault
branch_faults held how.Join at lefts rights = join_faults held at lefts rights
branch_faults held how.Union at lefts rights = union_faults held at lefts rights

-- ---- whole queries

-- a pipe with operations more
abbrev pub ops_part : SchemaLists → ℤ → Part → List OpTree → Part
ops_part held every part [] = part
ops_part held every part (op ∷ ops) = ops_part held every (deed_part held every part op.at op.what) ops

abbrev pub ops_faults : SchemaLists → ℤ → Part → List OpTree → List TypeFault
ops_faults held every part [] = []
ops_faults held every part (op ∷ ops) =
    deed_faults every part op.at op.what ++ ops_faults held every (deed_part held every part op.at op.what) ops

-- what stands for branches where there is none, as in no text
abbrev pub no_branch : ℕ → NodeTree
no_branch at = node.Fetch (info (Some at) [] [] level.Leaf) [] []

-- what each part of a query gives
abbrev mutual
  pub pipe_part : SchemaLists → ℤ → PipeTree → Part
  pipe_part held every (tree.Flow source ops) = ops_part held every (source_part held every source) ops

  pub source_part : SchemaLists → ℤ → SourceTree → Part
  source_part held every (tree.Fetch at schema metric) = fetch_part held at schema metric
  source_part held every (tree.Branches at pipes by by_at) = table (branches_node held every by by_at pipes)

  pub branches_node : SchemaLists → ℤ → How → ℕ → BranchTrees → NodeTree
  branches_node held every by at tree.NoBranch = no_branch at
  branches_node held every by at (tree.Branch first rest) =
      further_node held every by at (aligned_tree every (pipe_part held every first)) rest

  -- branches are taken from the left, two at a time
  pub further_node : SchemaLists → ℤ → How → ℕ → NodeTree → BranchTrees → NodeTree
  further_node held every by at left tree.NoBranch = left
  further_node held every by at left (tree.Branch next rest) =
      further_node held every by at
      (branch_node held by at left (aligned_tree every (pipe_part held every next))) rest

-- the faults of each part: those of what flows into it, and then its own
abbrev mutual
  pub pipe_faults : SchemaLists → ℤ → PipeTree → List TypeFault
  pipe_faults held every (tree.Flow source ops) =
      source_faults held every source ++ ops_faults held every (source_part held every source) ops

  pub source_faults : SchemaLists → ℤ → SourceTree → List TypeFault
  source_faults held every (tree.Fetch at schema metric) = fetch_faults held at schema metric
  source_faults held every (tree.Branches at pipes by by_at) = branches_faults held every by by_at pipes

  pub branches_faults : SchemaLists → ℤ → How → ℕ → BranchTrees → List TypeFault
  branches_faults held every by at tree.NoBranch = []
  branches_faults held every by at (tree.Branch first rest) =
      pipe_faults held every first
      ++ further_faults held every by at (aligned_tree every (pipe_part held every first)) rest

  pub further_faults : SchemaLists → ℤ → How → ℕ → NodeTree → BranchTrees → List TypeFault
  further_faults held every by at left tree.NoBranch = []
  further_faults held every by at left (tree.Branch next rest) =
      let right = aligned_tree every (pipe_part held every next) in
      pipe_faults held every next
      ++ (branch_faults held by at (columns_of left) (columns_of right)
      ++ further_faults held every by at (branch_node held by at left right) rest)

-- the typed tree, whose table is aligned
abbrev pub typed_query : SchemaLists → PipeTree → TypedTree
typed_query held query =
    let every = every_said (query_times query) in
    record {
      tree = aligned_tree every (pipe_part held every query);
      every = every;
      within = within_said (query_times query);
    }

-- all faults of a query
abbrev pub query_faults : SchemaLists → PipeTree → List TypeFault
query_faults held query =
    pipe_order_faults false query
    ++ (times_faults (query_times query) ++ pipe_faults held (every_said (query_times query)) query)

abbrev pub tree_or_fault : Option TypeFault → TypedTree → Result TypedTree TypeFault
tree_or_fault None typed = Ok typed
tree_or_fault (Some fault) typed = Err fault

-- the typed tree of a query, or its first fault
unfoldable pub typing : SchemaLists → PipeTree → Result TypedTree TypeFault
typing held query = tree_or_fault (first_fault (query_faults held query)) (typed_query held query)
