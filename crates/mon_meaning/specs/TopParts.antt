-- The parts of a tree of which pieces go up, as the code has them.
use Rattle.std.specs.Prelude.{Bool, true, List, map}
use Rattle.typed_trees.specs.Levels.{is_leaf, PartUse, in_zone}
use Rattle.typed_trees.specs.Nodes.{node_tree}
use Rattle.typed_trees.specs.Levels as spec
use Rattle.typed_trees.specs.declared.levels.Level.{Level}
use Rattle.typed_trees.specs.declared.levels.Level.TheVariants as level
use Rattle.mon_meaning.specs.declared.parts_up.GoesUp.{GoesUp}
use Rattle.mon_meaning.specs.declared.parts_up.GoesUp.TheVariants as goes
use Rattle.mon_meaning.specs.declared.parts_up.TopPart.{TopPart}

-- whether a level is some level or below it
abbrev pub up_to : Level → Level → Bool
up_to level.Leaf of = is_leaf of
up_to level.Zone of = in_zone of
up_to level.Root of = true

abbrev pub use_seen : GoesUp → PartUse
use_seen goes.AsRows = spec.AsRows
use_seen (goes.ToGroup by with) = spec.ToGroup by.now with.now
use_seen (goes.ToCut most column) = spec.ToCut most column

abbrev pub part_seen : TopPart → spec.TopPart
part_seen part = (use_seen part.goes_up, node_tree part.part.now)

abbrev pub parts_seen : List TopPart → List spec.TopPart
parts_seen parts = map part_seen parts
