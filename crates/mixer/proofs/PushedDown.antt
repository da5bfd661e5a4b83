-- Pushed down: what leaves, zones and the root do over divided rows is what the query means, and its load.
use Rattle.std.proofs.Common.{◌≡◌, ◌+◌, Bool, true, List, ◌++◌, refl}
use Rattle.std.specs.List.{AllByRecursion}
use Rattle.mon_value.specs.Grids.{IsLawfulGrid}
use Rattle.mon_value.specs.declared.grids.Grid.{Grid}
use Rattle.mon_value.specs.declared.rows.Row.{Row}
use Rattle.mon_schema.specs.Names.{SchemaLists}
use Rattle.typed_trees.specs.LevelLoads.{is_zone, load_at}
use Rattle.typed_trees.specs.Levels.{is_leaf, in_zone, pieces_meant}
use Rattle.typed_trees.specs.Nodes.{NodeTree}
use Rattle.typed_trees.specs.declared.levels.Level.{Level}
use Rattle.typed_trees.specs.declared.levels.Level.TheVariants as level
use Rattle.typed_rows.proofs.FetchedTrees.{AllFit}
use Rattle.typed_rows.proofs.TypedTrees.{AreRows}
use Rattle.mixer.specs.Divisions.{ShareNoLocation}
use Rattle.mon_meaning.specs.ReadableSlots.{ShareNoTarget}
use Rattle.mon_schema.specs.Fits.{TellsLocation}
use Rattle.mixer.specs.Mixing.{SamePieces, joined_pieces}
use Rattle.mixer.proofs.ApartLoads.{loads-apart}
use Rattle.mixer.proofs.ApartPieces.{pieces-apart}
use Rattle.mixer.proofs.LeafHomes.{IsItself, TargetSays, target_alike, target_field, target_located, target_one}
use Rattle.mixer.proofs.LevelledTrees.{AreLevelled, leaf_local, zone_local}
use Rattle.mixer.proofs.FixingTrees.{AreFixing}
use Rattle.mixer.proofs.Sides.{Within, WithinLocations, Without, WithoutLocations, locations_apart, locations_out}
use Rattle.mixer.proofs.Sides.{locations_within, targets_apart, targets_out, targets_within}
use Rattle.mixer.proofs.TypedTables.{makes_whole}
use Rattle.mixer.proofs.ZoneHomes.{IsLocated, LocationSays, location_alike, location_field, location_located}
use Rattle.mixer.proofs.ZoneHomes.{location_one}

pub leaf_in_zone : (l : Level) → is_leaf l ≡ true → in_zone l ≡ true
leaf_in_zone level.Leaf e = refl
leaf_in_zone level.Zone e = absurd cc
leaf_in_zone level.Root e = absurd cc

pub zone_in_zone : (l : Level) → is_zone l ≡ true → in_zone l ≡ true
zone_in_zone level.Leaf e = absurd cc
zone_in_zone level.Zone e = refl
zone_in_zone level.Root e = absurd cc

same_level : (l : Level) → is_leaf l ≡ true → is_leaf l ≡ true
same_level l e = e

-- a tree of a typed query, on a lawful grid
pub record IsPlanned (held : SchemaLists) (grid : Grid) (tree : NodeTree) : Type 0 where
  pub lawful : IsLawfulGrid grid
  pub ruled : AreRows held tree
  pub levelled : AreLevelled held tree
  pub fixing : AreFixing tree

-- ---- two sides

module _ (held : SchemaLists) (grid : Grid) (tree : NodeTree) (of : IsPlanned held grid tree) where
  -- leaves that share no target hand up what both have
  pub leaf_pieces-apart : (xs ys : List Row) → AllFit held xs → AllFit held ys → ShareNoTarget xs ys
      → SamePieces (pieces_meant is_leaf grid tree (xs ++ ys))
      (joined_pieces (pieces_meant is_leaf grid tree xs) (pieces_meant is_leaf grid tree ys))
  leaf_pieces-apart xs ys fit more apart =
      pieces-apart (TargetSays held) held IsItself (target_field held) target_one (target_located held)
      (target_alike held) is_leaf grid (Without ys) (Within ys) (targets_apart ys) xs ys fit more
      (targets_out held xs ys apart) (targets_within held ys) tree of.ruled (leaf_local held tree of.levelled)
      of.fixing
      (makes_whole held grid of.lawful xs fit tree of.ruled) (makes_whole held grid of.lawful ys more tree of.ruled)

  -- and do together what both do
  pub leaf_loads-apart : (xs ys : List Row) → AllFit held xs → AllFit held ys → ShareNoTarget xs ys
      → load_at is_leaf grid tree (xs ++ ys) ≡ load_at is_leaf grid tree xs + load_at is_leaf grid tree ys
  leaf_loads-apart xs ys fit more apart =
      loads-apart (TargetSays held) held IsItself (target_field held) target_one (target_located held)
      (target_alike held) is_leaf grid (Without ys) (Within ys) (targets_apart ys) xs ys fit more
      (targets_out held xs ys apart) (targets_within held ys) is_leaf same_level tree of.ruled
      (leaf_local held tree of.levelled) of.fixing
      (makes_whole held grid of.lawful xs fit tree of.ruled) (makes_whole held grid of.lawful ys more tree of.ruled)

  module _ (tell : AllByRecursion TellsLocation held.targets) where
    -- zones that share no location hand up what both have
    pub zone_pieces-apart : (xs ys : List Row) → AllFit held xs → AllFit held ys → ShareNoLocation held xs ys
        → SamePieces (pieces_meant in_zone grid tree (xs ++ ys))
        (joined_pieces (pieces_meant in_zone grid tree xs) (pieces_meant in_zone grid tree ys))
    zone_pieces-apart xs ys fit more apart =
        pieces-apart (LocationSays held) held (IsLocated held) (location_field held tell) (location_one held)
        (location_located held) (location_alike held) in_zone grid (WithoutLocations held ys) (WithinLocations held ys)
        (locations_apart held ys) xs ys fit more (locations_out held tell xs ys fit apart)
        (locations_within held tell ys more) tree of.ruled (zone_local held tell tree of.levelled)
        of.fixing
        (makes_whole held grid of.lawful xs fit tree of.ruled) (makes_whole held grid of.lawful ys more tree of.ruled)

    -- and do together what both do, they themselves and their leaves
    pub zone_loads-apart : (counts : Level → Bool) → ((l : Level) → counts l ≡ true → in_zone l ≡ true)
        → (xs ys : List Row) → AllFit held xs → AllFit held ys → ShareNoLocation held xs ys
        → load_at counts grid tree (xs ++ ys) ≡ load_at counts grid tree xs + load_at counts grid tree ys
    zone_loads-apart counts within xs ys fit more apart =
        loads-apart (LocationSays held) held (IsLocated held) (location_field held tell) (location_one held)
        (location_located held) (location_alike held) in_zone grid (WithoutLocations held ys) (WithinLocations held ys)
        (locations_apart held ys) xs ys fit more (locations_out held tell xs ys fit apart)
        (locations_within held tell ys more) counts within tree of.ruled (zone_local held tell tree of.levelled)
        of.fixing
        (makes_whole held grid of.lawful xs fit tree of.ruled) (makes_whole held grid of.lawful ys more tree of.ruled)
