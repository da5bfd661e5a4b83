-- The level of the points that are fetched.
use Rattle.std.proofs.Common.{◌≡◌, ◌∙◌}
use Rattle.mon_value.specs.declared.schemas.MetricSchema.{MetricSchema}
use Rattle.mon_value.specs.declared.schemas.TargetSchema.{TargetSchema}
use Rattle.mon_schema.specs.Names.{SchemaLists}
use Rattle.typed_trees.specs.Nodes as node
use Rattle.typed_trees.specs.Nodes.{NodeTree, level_of}
use Rattle.typed_trees.specs.declared.levels.Level.TheVariants as level
use Rattle.typed_rows.proofs.FetchedTrees.{ArePoints}
use Rattle.mixer.proofs.LevelledTrees.{AreLevelled}

-- points are fetched, filtered and aligned at leaves
pub points_level : (held : SchemaLists) (target : TargetSchema) (found : MetricSchema) (tree : NodeTree)
    → ArePoints held target found tree
    → AreLevelled held tree → level_of tree ≡ level.Leaf
points_level held target found (node.Fetch info schema metric) points own = own
points_level held target found (node.Filter info by input) points own =
    own.0 ∙ points_level held target found input points.1 own.1
points_level held target found (node.Align info by input) points own = absurd points
points_level held target found (node.GroupBy info by with input) points own = absurd points
points_level held target found (node.Value info items input) points own = absurd points
points_level held target found (node.Top info most column input) points own = absurd points
points_level held target found (node.Join info left right) points own = absurd points
points_level held target found (node.Union info left right) points own = absurd points
