-- What is made of answers is a zone's answer, or the table that a query means.
use Rattle.std.proofs.Common.{◌≡◌, ◌∙◌, ◌≤◌, ◌≤ℤ◌, ℕ, ℤ, pos, ◌+◌, List, [], ◌∷◌, ◌++◌, map, append-nil, refl, sym, ap}
use Rattle.std.proofs.Common.{subst, arith}
use Rattle.std.specs.Prelude.{IsPermutation}
use Rattle.std.specs.List.{AllByRecursion, sum_by}
use Rattle.std.proofs.lemmas.List.Sums.{sum_by-cons}
use Rattle.mon_value.specs.declared.grids.Grid.{Grid}
use Rattle.mon_value.specs.declared.refusals.Refusal.{Refusal}
use Rattle.mon_value.specs.declared.refusals.Refusal.TheVariants as refusal
use Rattle.mon_value.specs.declared.rows.Row.{Row}
use Rattle.mon_value.specs.declared.tables.Table.{Table}
use Rattle.mon_value.specs.declared.tables.TimedRow.{TimedRow}
use Rattle.typed_trees.specs.LevelLoads.{leaf_load, zone_load}
use Rattle.typed_trees.specs.Levels.{is_leaf, TopPart, in_zone, top_parts}
use Rattle.typed_trees.specs.Meaning.{load, grid_of, rows_meant}
use Rattle.typed_trees.specs.Nodes.{TypedTree, columns_of}
use Rattle.typed_trees.specs.Soundness.{IsEvaluable, IsTyped, IsWithinRows}
use Rattle.typed_rows.proofs.FetchedTrees.{AllFit}
use Rattle.typed_rows.proofs.JoinedRows.{all-front}
use Rattle.typed_rows.proofs.QueryLaws.{typed_evaluable}
use Rattle.mon_fold.specs.declared.answers.LeafAnswer.{LeafAnswer}
use Rattle.mon_fold.specs.declared.answers.Piece.{Piece}
use Rattle.mon_meaning.specs.Central.{IsMeant, IsRefusedBy}
use Rattle.mon_meaning.specs.Counts.{TellsOver}
use Rattle.mon_meaning.specs.LeafAnswers.{load_in_leaf, parts_load}
use Rattle.mon_meaning.specs.declared.meter.OverLimit.{OverLimit}
use Rattle.mixer.specs.Divisions.{ShareNoLocation, all_rows, together}
use Rattle.mon_meaning.specs.ReadableSlots.{ShareNoTarget}
use Rattle.mixer.specs.ZoneAnswers.{AllLeafParts, AllZoneParts, AreLeafParts, AreZoneParts, IsRefusedByZone}
use Rattle.mixer.specs.ZoneAnswers.{IsZonePart, load_in_zone}
use Rattle.mixer.specs.declared.zone_answers.ZoneAnswer.{ZoneAnswer}
use Rattle.mixer.specs.within.Joined.{AreTogether, CanBeEmpty, CanJoinAll}
use Rattle.mixer.specs.within.Mixtures.{CanMix, joins_from, rows_from}
use Rattle.mixer.specs.within.ZonePieces.{AreHandedUp, CanHandUpAll, joins_of_parts}
use Rattle.mixer.proofs.JoinedPieces.{AllCanCome, AllChildren, AllCome, rows_over}
use Rattle.mixer.proofs.MixedDivisions.{leaf_load_of_parts, leaf_loads_mixed, loads_mixed, typed_planned, zone_loads}
use Rattle.mixer.proofs.PartLoads.{load_of_parts, zone_and_leaves, zone_closed}
use Rattle.mixer.proofs.PushedDown as pushed
use Rattle.mixer.proofs.PushedDown.{IsPlanned, leaf_in_zone}
use Rattle.mixer.proofs.Sides.{locations_together, targets_together}
use Rattle.mixer.proofs.TreePieces.{meant, rows_come}
use Rattle.mixer.proofs.TreeWork.{can_mix, loads_come, over}
use Rattle.mixer.proofs.WholeParts.{AreWholes, can_be_empty, can_join, parts_can_come, whole_come, wholes}
use Rattle.mixer.proofs.ZoneParts.{Come, all_can, all_stand, loads_of_parts, lower_parts, lowers, parts_made}

-- a query is typed over some of the rows
pub typed_over : (typed : TypedTree) (rows some : List Row) → (of : IsTyped typed rows) → AllFit of.held some
    → IsTyped typed some
typed_over typed rows some of fit = record {
  held = of.held;
  query = of.query;
  metrics = of.metrics;
  spelled = of.spelled;
  durations = of.durations;
  is = of.is;
  fit = fit;
}

-- what leaves and the zone do is the load of the zone's parts
zone_load_parts : (typed : TypedTree) (rows : List Row) (moment : ℤ) → pos 0 ≤ℤ moment → IsTyped typed rows
    → parts_load (grid_of typed moment) rows (top_parts in_zone typed.tree)
    ≡ leaf_load typed rows moment + zone_load typed rows moment
zone_load_parts typed rows moment from of =
    let grid = grid_of typed moment in
    let planned = typed_planned typed rows moment from of in
    sym (load_of_parts of.held grid rows in_zone refl typed.tree planned.ruled planned.levelled
    (zone_closed of.held typed.tree planned.levelled))
    ∙ zone_and_leaves grid typed.tree rows

-- ---- a zone

leaf_sums : (typed : TypedTree) (all : List Row) (moment : ℤ) (limit : ℕ) (leaves : List (List Row))
    (parts : List LeafAnswer)
    → pos 0 ≤ℤ moment → (of : IsTyped typed all) → AllFit of.held (together leaves)
    → AllLeafParts typed leaves moment limit parts
    → sum_by (λ (part : LeafAnswer). part.load) parts ≡ sum_by (λ rows. leaf_load typed rows moment) leaves
leaf_sums typed all moment limit [] [] from of fit each = refl
leaf_sums typed all moment limit [] (part ∷ parts) from of fit each = absurd each
leaf_sums typed all moment limit (rows ∷ leaves) [] from of fit each = absurd each
leaf_sums typed all moment limit (rows ∷ leaves) (part ∷ parts) from of fit each =
    let both = all-front _ rows (together leaves) fit in
    let own : leaf_load typed rows moment ≡ load_in_leaf typed rows moment =
    leaf_load_of_parts typed rows moment from (typed_over typed all rows of both.0) in
    omega (
      arith,
      own,
      each.0.load,
      sum_by-cons (λ (p : LeafAnswer). p.load) part parts,
      sum_by-cons (λ rs. leaf_load typed rs moment) rows leaves,
      leaf_sums typed all moment limit leaves parts from of both.1 each.1,
    )

leaf_children : (typed : TypedTree) (moment : ℤ) (limit : ℕ) (leaves : List (List Row)) (parts : List LeafAnswer)
    → AllLeafParts typed leaves moment limit parts
    → AllChildren (grid_of typed moment) (top_parts is_leaf typed.tree) leaves
    (map (λ (part : LeafAnswer). part.pieces) parts)
leaf_children typed moment limit [] [] each = tt
leaf_children typed moment limit [] (part ∷ parts) each = absurd each
leaf_children typed moment limit (rows ∷ leaves) [] each = absurd each
leaf_children typed moment limit (rows ∷ leaves) (part ∷ parts) each =
    (each.0.pieces, leaf_children typed moment limit leaves parts each.1)

module _ (typed : TypedTree) (leaves : List (List Row)) (moment : ℤ) (limit : ℕ) (parts : List LeafAnswer)
    (are : AreLeafParts typed leaves moment limit parts) where
  abbrev leaf_total : ℕ
  leaf_total = sum_by (λ (part : LeafAnswer). part.load) parts

  abbrev leaf_tops : List TopPart
  leaf_tops = top_parts is_leaf typed.tree

  abbrev zone_tops : List TopPart
  zone_tops = top_parts in_zone typed.tree

  abbrev zone_grid : Grid
  zone_grid = grid_of typed moment

  abbrev zone_rows : List Row
  zone_rows = together leaves

  total_is : leaf_total ≡ sum_by (λ rows. leaf_load typed rows moment) leaves
  total_is = leaf_sums typed zone_rows moment limit leaves parts are.from are.of are.of.fit are.each

  total_parts : leaf_total ≡ parts_load zone_grid zone_rows leaf_tops
  total_parts =
      omega (
        arith,
        total_is,
        leaf_loads_mixed typed leaves moment are.from are.of are.apart,
        leaf_load_of_parts typed zone_rows moment are.from are.of,
      )

  leaf_wholes : AreWholes zone_grid leaf_tops leaves
  leaf_wholes =
      let held = are.of.held in
      let planned = typed_planned typed zone_rows moment are.from are.of in
      wholes held zone_grid is_leaf typed.tree ShareNoTarget (λ leaf others shares. targets_together leaf others shares)
      (λ xs ys fit more shares. pushed.leaf_pieces-apart held zone_grid typed.tree planned xs ys fit more shares) leaves
      are.of.fit are.apart

  zone_evaluable : IsEvaluable zone_grid typed.tree zone_rows
  zone_evaluable = typed_evaluable typed zone_rows moment are.of are.from

  leaves_can_come : IsWithinRows leaf_total → AllCanCome (rows_over zone_grid leaves) leaf_tops
  leaves_can_come few =
      parts_can_come zone_grid leaves leaf_tops (parts_made zone_grid zone_rows is_leaf typed.tree zone_evaluable)
      leaf_wholes
      (subst IsWithinRows total_parts few)

  pub leaves_can_be_empty : IsWithinRows leaf_total → AllByRecursion CanBeEmpty (top_parts is_leaf typed.tree)
  leaves_can_be_empty few = can_be_empty zone_grid leaves leaf_tops (leaves_can_come few)

  pub leaves_can_join : IsWithinRows leaf_total → CanJoinAll (map (λ (part : LeafAnswer). part.pieces) parts)
  leaves_can_join few =
      can_join zone_grid leaf_tops leaves _ (leaf_children typed moment limit leaves parts are.each)
      (leaves_can_come few)

  -- the pieces of all leaves
  module _ (few : IsWithinRows leaf_total) (joined : List Piece)
      (is : AreTogether (top_parts is_leaf typed.tree) (map (λ (part : LeafAnswer). part.pieces) parts) joined) where
    abbrev same_parts : leaf_tops ≡ lowers zone_grid zone_rows zone_tops
    same_parts = lower_parts is_leaf in_zone leaf_in_zone typed.tree

    joined_come : Come zone_grid zone_rows (lowers zone_grid zone_rows zone_tops) joined
    joined_come =
        subst (λ tops. AllCome (meant zone_grid zone_rows) tops joined) same_parts
        (whole_come zone_grid leaf_tops leaves _ joined (leaf_children typed moment limit leaves parts are.each)
        leaf_wholes
        (leaves_can_come few) is)

    pub zone_can : CanHandUpAll leaf_total (top_parts in_zone typed.tree) joined
    zone_can =
        all_can zone_grid zone_rows leaf_total zone_tops joined
        (parts_made zone_grid zone_rows in_zone typed.tree zone_evaluable) joined_come
        (let same = ap (parts_load zone_grid zone_rows) same_parts in omega (arith, same, total_parts))

    -- the work of all leaves, and the pairs of the zone
    zone_work : leaf_total + joins_of_parts zone_tops joined ≡ load_in_zone typed leaves moment
    zone_work =
        let same = ap (parts_load zone_grid zone_rows) same_parts in
        omega (
          arith,
          same,
          total_is,
          total_parts,
          leaf_load_of_parts typed zone_rows moment are.from are.of,
          loads_of_parts zone_grid zone_rows zone_tops joined joined_come,
          zone_load_parts typed zone_rows moment are.from are.of,
        )

    pub zone_made : (made : List Piece) (load : ℕ) → AreHandedUp (top_parts in_zone typed.tree) joined made
        → load ≡ leaf_total + joins_of_parts (top_parts in_zone typed.tree) joined → load ≤ limit
        → IsZonePart typed leaves moment limit (record { pieces = made; load = load })
    zone_made made load handed counted within = record {
      pieces = all_stand zone_grid zone_rows zone_tops joined made joined_come handed;
      load = counted ∙ zone_work;
      within = omega (arith, counted, zone_work, within);
    }

    pub zone_over : (r : Refusal OverLimit) → TellsOver limit
        (leaf_total + joins_of_parts (top_parts in_zone typed.tree) joined) r
        → IsRefusedByZone typed leaves moment limit r
    zone_over (refusal.Fault over) tells =
        record { above = tells.above; most = omega (arith, tells.within, zone_work) }
    zone_over refusal.OutOfMemory tells = tt

  pub leaves_over : (r : Refusal OverLimit) → TellsOver limit leaf_total r → IsRefusedByZone typed leaves moment limit r
  leaves_over (refusal.Fault over) tells = record { above = tells.above; most = omega (arith, tells.within, total_is) }
  leaves_over refusal.OutOfMemory tells = tt

-- ---- the root

zone_sums : (typed : TypedTree) (moment : ℤ) (limit : ℕ) (zones : List (List (List Row))) (parts : List ZoneAnswer)
    → AllZoneParts typed zones moment limit parts
    → sum_by (λ (part : ZoneAnswer). part.load) parts ≡ sum_by (λ leaves. load_in_zone typed leaves moment) zones
zone_sums typed moment limit [] [] each = refl
zone_sums typed moment limit [] (part ∷ parts) each = absurd each
zone_sums typed moment limit (leaves ∷ zones) [] each = absurd each
zone_sums typed moment limit (leaves ∷ zones) (part ∷ parts) each =
    omega (
      arith,
      each.0.load,
      sum_by-cons (λ (p : ZoneAnswer). p.load) part parts,
      sum_by-cons (λ ls. load_in_zone typed ls moment) leaves zones,
      zone_sums typed moment limit zones parts each.1,
    )

zone_children : (typed : TypedTree) (moment : ℤ) (limit : ℕ) (zones : List (List (List Row))) (parts : List ZoneAnswer)
    → AllZoneParts typed zones moment limit parts
    → AllChildren (grid_of typed moment) (top_parts in_zone typed.tree) (map together zones)
    (map (λ (part : ZoneAnswer). part.pieces) parts)
zone_children typed moment limit [] [] each = tt
zone_children typed moment limit [] (part ∷ parts) each = absurd each
zone_children typed moment limit (leaves ∷ zones) [] each = absurd each
zone_children typed moment limit (leaves ∷ zones) (part ∷ parts) each =
    (each.0.pieces, zone_children typed moment limit zones parts each.1)

module _ (typed : TypedTree) (zones : List (List (List Row))) (moment : ℤ) (limit : ℕ) (parts : List ZoneAnswer)
    (are : AreZoneParts typed zones moment limit parts) where
  abbrev zone_total : ℕ
  zone_total = sum_by (λ (part : ZoneAnswer). part.load) parts

  abbrev root_tops : List TopPart
  root_tops = top_parts in_zone typed.tree

  abbrev root_grid : Grid
  root_grid = grid_of typed moment

  abbrev root_rows : List Row
  root_rows = all_rows zones

  abbrev of : IsTyped typed root_rows
  of = are.divided.of

  abbrev planned : IsPlanned of.held root_grid typed.tree
  planned = typed_planned typed root_rows moment are.from of

  root_total : zone_total ≡ parts_load root_grid root_rows root_tops
  root_total =
      omega (
        arith,
        zone_sums typed moment limit zones parts are.each,
        zone_loads of.held root_grid typed.tree planned are.divided.located zones of.fit are.divided.leaves_apart
            are.divided.zones_apart,
        zone_load_parts typed root_rows moment are.from of,
      )

  root_wholes : AreWholes root_grid root_tops (map together zones)
  root_wholes =
      let held = of.held in
      wholes held root_grid in_zone typed.tree (ShareNoLocation held) (λ zone others shares. locations_together held
      zone others shares)
      (λ xs ys fit more shares. pushed.zone_pieces-apart held root_grid typed.tree planned are.divided.located xs ys
      fit more shares)
      (map together zones) of.fit are.divided.zones_apart

  root_evaluable : IsEvaluable root_grid typed.tree root_rows
  root_evaluable = typed_evaluable typed root_rows moment of are.from

  zones_can_come : IsWithinRows zone_total → AllCanCome (rows_over root_grid (map together zones)) root_tops
  zones_can_come few =
      parts_can_come root_grid (map together zones) root_tops (parts_made root_grid root_rows in_zone typed.tree
      root_evaluable)
      root_wholes (subst IsWithinRows root_total few)

  pub zones_can_be_empty : IsWithinRows zone_total → AllByRecursion CanBeEmpty (top_parts in_zone typed.tree)
  zones_can_be_empty few = can_be_empty root_grid (map together zones) root_tops (zones_can_come few)

  pub zones_can_join : IsWithinRows zone_total → CanJoinAll (map (λ (part : ZoneAnswer). part.pieces) parts)
  zones_can_join few =
      can_join root_grid root_tops (map together zones) _ (zone_children typed moment limit zones parts are.each)
      (zones_can_come few)

  module _ (few : IsWithinRows zone_total) (joined : List Piece)
      (is : AreTogether (top_parts in_zone typed.tree) (map (λ (part : ZoneAnswer). part.pieces) parts) joined) where
    all_come : AllCome (meant root_grid root_rows) (root_tops ++ []) joined
    all_come =
        subst (λ tops. AllCome (meant root_grid root_rows) tops joined) (sym (append-nil root_tops))
        (whole_come root_grid root_tops (map together zones) _ joined (zone_children typed moment limit zones parts
        are.each)
        root_wholes (zones_can_come few) is)

    pub root_can : CanMix zone_total in_zone typed.tree joined
    root_can =
        can_mix root_grid root_rows in_zone zone_total typed.tree [] joined root_evaluable all_come
        (omega (arith, root_total))

    root_work : zone_total + joins_from in_zone typed.tree joined ≡ load typed root_rows moment
    root_work = omega (arith, root_total, loads_come root_grid root_rows in_zone typed.tree [] joined all_come)

    pub root_made : (table : Table) (rows : List TimedRow) (load : ℕ) → rows ≡ rows_from in_zone typed.tree joined
        → table ≡ record { columns = columns_of typed.tree; rows = rows }
        → load ≡ zone_total + joins_from in_zone typed.tree joined → load ≤ limit
        → IsMeant typed (all_rows zones) moment limit table
    root_made table rows load made is_table counted within = record {
      columns = ap (λ (t : Table). t.columns) is_table;
      rows = subst (λ rs. IsPermutation (rows_meant root_grid typed.tree root_rows) rs)
          (sym (ap (λ (t : Table). t.rows) is_table ∙ made))
          (rows_come root_grid root_rows in_zone typed.tree [] joined all_come);
      within = omega (arith, counted, root_work, within);
    }

    pub root_over : (r : Refusal OverLimit) → TellsOver limit (zone_total + joins_from in_zone typed.tree joined) r
        → IsRefusedBy typed (all_rows zones) moment limit r
    root_over (refusal.Fault over) tells = record { above = tells.above; most = omega (arith, tells.within, root_work) }
    root_over refusal.OutOfMemory tells = tt

  zones_less : zone_total ≤ load typed root_rows moment
  zones_less =
      let sums = zone_sums typed moment limit zones parts are.each in
      let all = loads_mixed typed zones moment are.from are.divided in
      omega (arith, sums, all)

  pub zones_over : (r : Refusal OverLimit) → TellsOver limit zone_total r → IsRefusedBy typed (all_rows zones) moment
      limit r
  zones_over (refusal.Fault over) tells = record { above = tells.above; most = omega (arith, tells.within, zones_less) }
  zones_over refusal.OutOfMemory tells = tt
