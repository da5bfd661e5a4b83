-- Rows divided into zones and leaves: what is mixed of their pieces is what the query means over all rows.
use Rattle.std.proofs.Common.{◌≡◌, ◌∙◌, ◌≤ℤ◌, ◌+◌, true, false, ℤ, pos, List, [], ◌∷◌, map, refl, sym, ap, subst, arith}
use Rattle.std.specs.Prelude.{IsPermutation}
use Rattle.std.specs.List.{AllByRecursion, sum_by, zip}
use Rattle.std.proofs.lemmas.List.Sorted.{IsPermutation-sym}
use Rattle.std.proofs.lemmas.List.Sums.{sum_by-cons}
use Rattle.mon_value.specs.declared.grids.Grid.{Grid}
use Rattle.mon_value.specs.declared.rows.Row.{Row}
use Rattle.mon_value.specs.declared.tables.TimedRow.{TimedRow}
use Rattle.mon_schema.specs.Names.{SchemaLists}
use Rattle.typed_trees.specs.LevelLoads.{is_zone, leaf_load, load_at, root_load, zone_load}
use Rattle.typed_trees.specs.Levels.{is_leaf, is_root, PieceMeant, TopPart, in_zone, leaf_part, piece_meant}
use Rattle.typed_trees.specs.Levels.{pieces_meant}
use Rattle.typed_trees.specs.Levels.{top_parts, zone_part}
use Rattle.typed_trees.specs.Meaning.{load, load_of, grid_of, meaning, rows_meant}
use Rattle.typed_trees.specs.Nodes.{NodeTree, TypedTree}
use Rattle.typed_trees.specs.Soundness.{IsTyped}
use Rattle.typed_rows.proofs.FetchedTrees.{AllFit}
use Rattle.typed_rows.proofs.FixedTrees.{query_fixed}
use Rattle.typed_rows.proofs.JoinedRows.{all-front}
use Rattle.typed_rows.proofs.NamedTrees.{filters_name}
use Rattle.typed_rows.proofs.TypedGridLemmas.{typed_grid}
use Rattle.typed_rows.proofs.TypedQueries.{query_ruled}
use Rattle.mixer.specs.Divisions.{IsDivided, ShareNoLocation, all_rows, together}
use Rattle.mon_meaning.specs.ReadableSlots.{AreApart, ShareNoTarget}
use Rattle.mon_schema.specs.Fits.{TellsLocation}
use Rattle.mixer.specs.Mixing.{SamePieces, joined_pieces, joins_mixed, mixed_load, mixed_table, parts_mixed, piece_rows}
use Rattle.mixer.specs.Mixing.{pieces_together, root_joins, rows_mixed, zone_answer, zone_joins, zone_mixed}
use Rattle.mixer.specs.Mixing.{zone_pieces}
use Rattle.mixer.proofs.ApartPieces.{SamePieces-refl, SamePieces-trans, joined_pieces-same, pieces_none}
use Rattle.mixer.proofs.FixingTrees.{are_fixing}
use Rattle.mixer.proofs.JoinLoads.{joins_mixed-load, joins_mixed-same, local_closed}
use Rattle.mixer.proofs.LeafHomes.{TargetSays}
use Rattle.mixer.proofs.ZoneHomes.{LocationSays}
use Rattle.typed_trees.specs.declared.levels.Level.{Level}
use Rattle.typed_trees.specs.declared.levels.Level.TheVariants as level
use Rattle.mixer.proofs.LevelSums.{level_loads, no_load}
use Rattle.mixer.proofs.LevelledTrees.{leaf_local, query_levelled, zone_local}
use Rattle.mixer.proofs.MixedTrees.{parts_mixed-meant, rows_mixed-meant, tables_of}
use Rattle.mixer.proofs.PartLoads.{leaf_load_parts}
use Rattle.mixer.proofs.PushedDown as pushed
use Rattle.mixer.proofs.PushedDown.{IsPlanned, leaf_in_zone, zone_in_zone}
use Rattle.mixer.proofs.SameTables.{SameTables, parts_mixed-same, rows_mixed-same, same_rows}
use Rattle.mixer.proofs.Sides.{locations_together, targets_together}

leaf_no_zone : (l : Level) → is_leaf l ≡ true → is_zone l ≡ false
leaf_no_zone level.Leaf e = refl
leaf_no_zone level.Zone e = absurd cc
leaf_no_zone level.Root e = refl

zone_no_root : (l : Level) → in_zone l ≡ true → is_root l ≡ false
zone_no_root level.Leaf e = refl
zone_no_root level.Zone e = refl
zone_no_root level.Root e = absurd cc

-- the tables of pieces are those of their parts
rows_of_pieces : (grid : Grid) (rows : List Row) (parts : List TopPart)
    → piece_rows (map (piece_meant grid rows) parts) ≡ map (λ (part : TopPart). rows_meant grid part.1 rows) parts
rows_of_pieces grid rows [] = refl
rows_of_pieces grid rows (part ∷ parts) =
    ap (λ tables. rows_meant grid part.1 rows ∷ tables) (rows_of_pieces grid rows parts)

-- tables for parts, as pieces
as_pieces : (grid : Grid) (rows : List Row) (parts : List TopPart) (tables : List (List TimedRow))
    → SameTables (map (λ (part : TopPart). rows_meant grid part.1 rows) parts) tables
    → SamePieces (map (piece_meant grid rows) parts) (zip (map (λ (part : TopPart). part.0) parts) tables)
as_pieces grid rows [] [] same = tt
as_pieces grid rows [] (table ∷ tables) same = absurd same
as_pieces grid rows (part ∷ parts) [] same = absurd same
as_pieces grid rows (part ∷ parts) (table ∷ tables) same =
    (refl, (same.0, as_pieces grid rows parts tables same.1))

module _ (held : SchemaLists) (grid : Grid) (tree : NodeTree) (of : IsPlanned held grid tree) where
  abbrev leaf_pieces : List Row → List PieceMeant
  leaf_pieces rows = pieces_meant is_leaf grid tree rows

  abbrev zone_of : List (List PieceMeant) → List PieceMeant
  zone_of leaves =
      zone_pieces tree (parts_mixed is_leaf in_zone tree (piece_rows (pieces_together is_leaf tree leaves)))

  -- ---- the leaves of a zone

  pub leaves_together : (zone : List (List Row)) → AllFit held (together zone) → AreApart ShareNoTarget zone
      → SamePieces (leaf_pieces (together zone)) (pieces_together is_leaf tree (map leaf_pieces zone))
  leaves_together [] fit apart = pieces_none is_leaf grid tree
  leaves_together (leaf ∷ zone) fit apart =
      let parts = all-front _ leaf (together zone) fit in
      SamePieces-trans _ (joined_pieces (leaf_pieces leaf) (leaf_pieces (together zone))) _
      (pushed.leaf_pieces-apart held grid tree of leaf (together zone) parts.0 parts.1
      (targets_together leaf zone apart.0))
      (joined_pieces-same (leaf_pieces leaf) (leaf_pieces leaf) (leaf_pieces (together zone)) _
      (SamePieces-refl (leaf_pieces leaf)) (leaves_together zone parts.1 apart.1))

  pub leaf_loads : (zone : List (List Row)) → AllFit held (together zone) → AreApart ShareNoTarget zone
      → sum_by (λ rows. load_at is_leaf grid tree rows) zone ≡ load_at is_leaf grid tree (together zone)
  leaf_loads [] fit apart = sym (no_load is_leaf grid tree)
  leaf_loads (leaf ∷ zone) fit apart =
      let parts = all-front _ leaf (together zone) fit in
      omega (
        arith,
        sum_by-cons (λ rows. load_at is_leaf grid tree rows) leaf zone,
        leaf_loads zone parts.1 apart.1,
        pushed.leaf_loads-apart held grid tree of leaf (together zone) parts.0 parts.1
            (targets_together leaf zone apart.0),
      )

  -- what a zone makes of what its leaves hand up is what it is to hand up
  pub zone_same : (zone : List (List Row)) → AllFit held (together zone) → AreApart ShareNoTarget zone
      → SamePieces (pieces_meant in_zone grid tree (together zone)) (zone_of (map leaf_pieces zone))
  zone_same zone fit apart =
      let rows = together zone in
      let mixed = piece_rows (pieces_together is_leaf tree (map leaf_pieces zone)) in
      let same : SameTables (tables_of grid rows is_leaf tree) mixed =
      subst (λ tables. SameTables tables mixed) (rows_of_pieces grid rows (top_parts is_leaf tree))
      (same_rows (leaf_pieces rows) _ (leaves_together zone fit apart)) in
      let parts : SameTables (tables_of grid rows in_zone tree) (parts_mixed is_leaf in_zone tree mixed) =
      subst (λ tables. SameTables tables (parts_mixed is_leaf in_zone tree mixed))
      (parts_mixed-meant grid rows is_leaf in_zone leaf_in_zone tree)
      (parts_mixed-same is_leaf in_zone tree (tables_of grid rows is_leaf tree) mixed same) in
      as_pieces grid rows (top_parts in_zone tree) (parts_mixed is_leaf in_zone tree mixed) parts

  -- and the pairs that it makes are the load of its own
  pub zone_joins_same : (zone : List (List Row)) → AllFit held (together zone) → AreApart ShareNoTarget zone
      → joins_mixed is_leaf is_zone tree (piece_rows (pieces_together is_leaf tree (map leaf_pieces zone)))
      ≡ load_at is_zone grid tree (together zone)
  zone_joins_same zone fit apart =
      let rows = together zone in
      let mixed = piece_rows (pieces_together is_leaf tree (map leaf_pieces zone)) in
      let same : SameTables (tables_of grid rows is_leaf tree) mixed =
      subst (λ tables. SameTables tables mixed) (rows_of_pieces grid rows (top_parts is_leaf tree))
      (same_rows (leaf_pieces rows) _ (leaves_together zone fit apart)) in
      sym (joins_mixed-same is_leaf is_zone tree (tables_of grid rows is_leaf tree) mixed same)
      ∙ joins_mixed-load held grid rows is_leaf is_zone leaf_no_zone refl tree of.ruled of.levelled
      (local_closed (TargetSays held) held is_leaf tree (leaf_local held tree of.levelled))

  -- ---- the zones of the root

  module _ (tell : AllByRecursion TellsLocation held.targets) where
    pub zones_together : (zones : List (List (List Row))) → AllFit held (all_rows zones)
        → AllByRecursion (AreApart ShareNoTarget) zones → AreApart (ShareNoLocation held) (map together zones)
        → SamePieces (pieces_meant in_zone grid tree (all_rows zones))
        (pieces_together in_zone tree (map (λ zone. zone_of (map leaf_pieces zone)) zones))
    zones_together [] fit leaves apart = pieces_none in_zone grid tree
    zones_together (zone ∷ zones) fit leaves apart =
        let parts = all-front _ (together zone) (all_rows zones) fit in
        let own = pieces_meant in_zone grid tree (together zone) in
        let rest = pieces_meant in_zone grid tree (all_rows zones) in
        SamePieces-trans _ (joined_pieces own rest) _
        (pushed.zone_pieces-apart held grid tree of tell (together zone) (all_rows zones) parts.0 parts.1
        (locations_together held (together zone) (map together zones) apart.0))
        (joined_pieces-same own _ rest _ (zone_same zone parts.0 leaves.0)
        (zones_together zones parts.1 leaves.1 apart.1))

    -- what leaves and zones do is what they would do over all rows
    pub zone_loads : (zones : List (List (List Row))) → AllFit held (all_rows zones)
        → AllByRecursion (AreApart ShareNoTarget) zones → AreApart (ShareNoLocation held) (map together zones)
        → sum_by (λ zone. sum_by (λ rows. load_at is_leaf grid tree rows) zone + load_at is_zone grid tree
        (together zone))
        zones
        ≡ load_at is_leaf grid tree (all_rows zones) + load_at is_zone grid tree (all_rows zones)
    zone_loads [] fit leaves apart = omega (arith, no_load is_leaf grid tree, no_load is_zone grid tree)
    zone_loads (zone ∷ zones) fit leaves apart =
        let parts = all-front _ (together zone) (all_rows zones) fit in
        let share = locations_together held (together zone) (map together zones) apart.0 in
        omega (
          arith,
          sum_by-cons (λ z. sum_by (λ rows. load_at is_leaf grid tree rows) z + load_at is_zone grid tree (together z))
              zone zones,
          zone_loads zones parts.1 leaves.1 apart.1,
          leaf_loads zone parts.0 leaves.0,
          pushed.zone_loads-apart held grid tree of tell is_leaf leaf_in_zone (together zone) (all_rows zones) parts.0
              parts.1 share,
          pushed.zone_loads-apart held grid tree of tell is_zone zone_in_zone (together zone) (all_rows zones) parts.0
              parts.1 share,
        )

    -- the root's rows are those that are meant
    pub root_same : (zones : List (List (List Row))) → AllFit held (all_rows zones)
        → AllByRecursion (AreApart ShareNoTarget) zones → AreApart (ShareNoLocation held) (map together zones)
        → IsPermutation (rows_meant grid tree (all_rows zones))
        (rows_mixed in_zone tree
        (piece_rows (pieces_together in_zone tree (map (λ zone. zone_of (map leaf_pieces zone)) zones))))
    root_same zones fit leaves apart =
        let rows = all_rows zones in
        let mixed = piece_rows (pieces_together in_zone tree (map (λ zone. zone_of (map leaf_pieces zone)) zones)) in
        let same : SameTables (tables_of grid rows in_zone tree) mixed =
        subst (λ tables. SameTables tables mixed) (rows_of_pieces grid rows (top_parts in_zone tree))
        (same_rows (pieces_meant in_zone grid tree rows) _ (zones_together zones fit leaves apart)) in
        subst (λ whole. IsPermutation whole (rows_mixed in_zone tree mixed)) (rows_mixed-meant grid rows in_zone tree)
        (rows_mixed-same in_zone tree (tables_of grid rows in_zone tree) mixed same)

    -- and the pairs that it makes are the load of its own
    pub root_joins_same : (zones : List (List (List Row))) → AllFit held (all_rows zones)
        → AllByRecursion (AreApart ShareNoTarget) zones → AreApart (ShareNoLocation held) (map together zones)
        → joins_mixed in_zone is_root tree
        (piece_rows (pieces_together in_zone tree (map (λ zone. zone_of (map leaf_pieces zone)) zones)))
        ≡ load_at is_root grid tree (all_rows zones)
    root_joins_same zones fit leaves apart =
        let rows = all_rows zones in
        let mixed = piece_rows (pieces_together in_zone tree (map (λ zone. zone_of (map leaf_pieces zone)) zones)) in
        let same : SameTables (tables_of grid rows in_zone tree) mixed =
        subst (λ tables. SameTables tables mixed) (rows_of_pieces grid rows (top_parts in_zone tree))
        (same_rows (pieces_meant in_zone grid tree rows) _ (zones_together zones fit leaves apart)) in
        sym (joins_mixed-same in_zone is_root tree (tables_of grid rows in_zone tree) mixed same)
        ∙ joins_mixed-load held grid rows in_zone is_root zone_no_root refl tree of.ruled of.levelled
        (local_closed (LocationSays held) held in_zone tree (zone_local held tell tree of.levelled))

-- ---- typed queries

-- the tree of a typed query, on the grid of a moment
pub typed_planned : (typed : TypedTree) (rows : List Row) (moment : ℤ) → pos 0 ≤ℤ moment → (of : IsTyped typed rows)
    → IsPlanned of.held (grid_of typed moment) typed.tree
typed_planned typed rows moment from of =
    let lawful = typed_grid of.held of.query typed moment of.durations of.is from in
    record {
      lawful = lawful;
      ruled = query_ruled of.held of.metrics of.query of.spelled of.durations typed of.is lawful.every;
      levelled = query_levelled of.held of.query typed of.is;
      fixing = are_fixing typed.tree (query_fixed of.held of.query typed of.is)
          (filters_name of.held of.query typed of.is);
    }

-- the root's table is the meaning over all rows
pub table_mixed : (typed : TypedTree) (zones : List (List (List Row))) (moment : ℤ) → pos 0 ≤ℤ moment
    → IsDivided typed zones
    → IsPermutation (mixed_table typed zones moment) (meaning typed (all_rows zones) moment)
table_mixed typed zones moment from divided =
    let planned = typed_planned typed (all_rows zones) moment from divided.of in
    IsPermutation-sym (meaning typed (all_rows zones) moment) (mixed_table typed zones moment)
    (root_same divided.of.held (grid_of typed moment) typed.tree planned divided.located zones divided.of.fit
    divided.leaves_apart divided.zones_apart)

-- the loads of leaves, zones and the root add up to the whole load
pub loads_mixed : (typed : TypedTree) (zones : List (List (List Row))) (moment : ℤ) → pos 0 ≤ℤ moment
    → IsDivided typed zones → mixed_load typed zones moment ≡ load typed (all_rows zones) moment
loads_mixed typed zones moment from divided =
    let planned = typed_planned typed (all_rows zones) moment from divided.of in
    let below = zone_loads divided.of.held (grid_of typed moment) typed.tree planned divided.located zones
    divided.of.fit divided.leaves_apart divided.zones_apart in
    let all = level_loads (grid_of typed moment) typed.tree (all_rows zones) in
    omega (arith, below, all)

-- what a zone makes of its leaves' parts is its part
pub zone_part_mixed : (typed : TypedTree) (zone : List (List Row)) (moment : ℤ) → pos 0 ≤ℤ moment
    → IsTyped typed (together zone) → AreApart ShareNoTarget zone
    → SamePieces (zone_part typed (together zone) moment)
    (zone_mixed typed (map (λ rows. leaf_part typed rows moment) zone))
zone_part_mixed typed zone moment from of apart =
    zone_same of.held (grid_of typed moment) typed.tree (typed_planned typed (together zone) moment from of) zone of.fit
    apart

-- what its leaves do is what one leaf would do over all their rows
pub leaf_loads_mixed : (typed : TypedTree) (zone : List (List Row)) (moment : ℤ) → pos 0 ≤ℤ moment
    → IsTyped typed (together zone) → AreApart ShareNoTarget zone
    → sum_by (λ rows. leaf_load typed rows moment) zone ≡ leaf_load typed (together zone) moment
leaf_loads_mixed typed zone moment from of apart =
    leaf_loads of.held (grid_of typed moment) typed.tree (typed_planned typed (together zone) moment from of) zone
    of.fit
    apart

-- a leaf does what its parts are
pub leaf_load_of_parts : (typed : TypedTree) (rows : List Row) (moment : ℤ) → pos 0 ≤ℤ moment → IsTyped typed rows
    → leaf_load typed rows moment
    ≡ sum_by (λ (part : TopPart). load_of (grid_of typed moment) part.1 rows) (top_parts is_leaf typed.tree)
leaf_load_of_parts typed rows moment from of =
    let planned = typed_planned typed rows moment from of in
    leaf_load_parts of.held (grid_of typed moment) rows typed.tree planned.ruled planned.levelled

-- the pairs that a zone makes are the load of its own
pub zone_joins_mixed : (typed : TypedTree) (zone : List (List Row)) (moment : ℤ) → pos 0 ≤ℤ moment
    → IsTyped typed (together zone) → AreApart ShareNoTarget zone
    → zone_joins typed (map (λ rows. leaf_part typed rows moment) zone) ≡ zone_load typed (together zone) moment
zone_joins_mixed typed zone moment from of apart =
    zone_joins_same of.held (grid_of typed moment) typed.tree (typed_planned typed (together zone) moment from of) zone
    of.fit apart

-- the pairs that the root makes are the load of its own
pub root_joins_mixed : (typed : TypedTree) (zones : List (List (List Row))) (moment : ℤ) → pos 0 ≤ℤ moment
    → IsDivided typed zones
    → root_joins typed (map (zone_answer typed moment) zones) ≡ root_load typed (all_rows zones) moment
root_joins_mixed typed zones moment from divided =
    let planned = typed_planned typed (all_rows zones) moment from divided.of in
    root_joins_same divided.of.held (grid_of typed moment) typed.tree planned divided.located zones divided.of.fit
    divided.leaves_apart divided.zones_apart
