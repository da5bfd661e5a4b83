-- The parts of which a leaf makes pieces can be evaluated, and the pieces made.
use Rattle.std.proofs.Common.{◌≡◌, ◌≤ℤ◌, ℤ, pos, Bool, true, List}
use Rattle.std.specs.List.{AllByRecursion}
use Rattle.mon_value.specs.Grids.{IsLawfulGrid}
use Rattle.mon_value.specs.LeafHistories.{points_by_series}
use Rattle.mon_value.specs.declared.grids.Grid.{Grid}
use Rattle.mon_value.specs.declared.rows.Point.{Point}
use Rattle.mon_value.specs.declared.rows.Row.{Row}
use Rattle.mon_value.specs.declared.rows.SeriesKey.{SeriesKey}
use Rattle.mon_schema.specs.Fits.{fits}
use Rattle.mon_schema.specs.Names.{SchemaLists}
use Rattle.typed_trees.specs.Meaning.{load_of, grid_of, rows_meant}
use Rattle.typed_trees.proofs.FetchColumnLemmas.{fetches_have_columns}
use Rattle.typed_rows.proofs.QueryLaws.{typed_evaluable}
use Rattle.typed_rows.proofs.TypedGridLemmas.{typed_grid}
use Rattle.mon_value.proofs.PlainLemmas.{all_front, all_back, all_append}
use Rattle.typed_trees.specs.Nodes as node
use Rattle.typed_trees.specs.Nodes.{NodeTree, TypedTree, columns_of, level_of}
use Rattle.typed_trees.specs.Levels as up
use Rattle.typed_trees.specs.Levels.{TopPart, top_parts}
use Rattle.typed_trees.specs.Plans.{HasFetchColumns, fetches}
use Rattle.typed_trees.specs.Soundness.{IsEvaluable, IsWithinRows}
use Rattle.typed_trees.specs.declared.levels.Level.{Level}
use Rattle.mon_meaning.specs.Central.{IsAsked, IsPartAsked}
use Rattle.mon_meaning.specs.GoingUp.{CanGoUp}
use Rattle.mon_meaning.proofs.PartsToComeLemmas.{part_or-all}

-- a part that can be evaluated over series, and whose piece can be made of its rows
pub record IsPartReady (grid : Grid) (series : List (SeriesKey × List Point)) (part : TopPart) : Type 0 where
  pub asked : IsPartAsked grid part.1 series
  pub can : IsWithinRows (load_of grid part.1 asked.source)
      → CanGoUp (columns_of part.1) part.0 (rows_meant grid part.1 asked.source)

module _ (here : Level → Bool) (held : SchemaLists) (grid : Grid) (source : List Row)
    (series : List (SeriesKey × List Point))
    (kept : series ≡ points_by_series source) (fit : AllByRecursion (λ (row : Row). fits held row ≡ true) source)
    (lawful : IsLawfulGrid grid) where
  abbrev Has : NodeTree → Type 0
  Has tree = AllByRecursion (HasFetchColumns held) (fetches tree)

  abbrev Ready : TopPart → Type 0
  Ready part = IsPartReady grid series part

  abbrev asked_part : (tree : NodeTree) → IsEvaluable grid tree source → Has tree → IsPartAsked grid tree series
  asked_part tree can has = record {
    source = source;
    kept = kept;
    held = held;
    fit = fit;
    lawful = lawful;
    evaluable = can;
    fetched = has;
  }

  as_rows : (tree : NodeTree) → IsEvaluable grid tree source → Has tree → Ready (up.AsRows, tree)
  as_rows tree can has = record { asked = asked_part tree can has; can = λ few. tt }

  pub all_ready : (tree : NodeTree) → IsEvaluable grid tree source → Has tree → AllByRecursion Ready
      (top_parts here tree)
  all_ready (node.Fetch info schema metric) can has = (as_rows (node.Fetch info schema metric) can has, tt)
  all_ready (node.Filter info by input) can has =
      part_or-all Ready (here info.level) up.AsRows (node.Filter info by input) _ (as_rows (node.Filter info by input)
      can has)
      (all_ready input can has)
  all_ready (node.Align info by input) can has = (as_rows (node.Align info by input) can has, tt)
  all_ready (node.GroupBy info by with input) can has =
      part_or-all Ready (here info.level) up.AsRows (node.GroupBy info by with input)
      _ (as_rows (node.GroupBy info by with input) can has)
      (part_or-all Ready (here (level_of input)) (up.ToGroup by with) input _
      (record { asked = asked_part input can.1 has; can = can.0 }) (all_ready input can.1 has))
  all_ready (node.Value info items input) can has =
      part_or-all Ready (here info.level) up.AsRows (node.Value info items input)
      _ (as_rows (node.Value info items input) can has)
      (all_ready input can.1.1 has)
  all_ready (node.Top info most column input) can has =
      part_or-all Ready (here info.level) up.AsRows (node.Top info most column input)
      _ (as_rows (node.Top info most column input) can has)
      (part_or-all Ready (here (level_of input)) (up.ToCut most column) input _
      (record { asked = asked_part input can has; can = λ few. tt }) (all_ready input can has))
  all_ready (node.Join info left right) can has =
      let first = all_front (HasFetchColumns held) (fetches left) (fetches right) has in
      let second = all_back (HasFetchColumns held) (fetches left) (fetches right) has in
      part_or-all Ready (here info.level) up.AsRows (node.Join info left right) _ (as_rows (node.Join info left right)
      can has)
      (all_append Ready (top_parts here left) (top_parts here right) (all_ready left can.1.1.0 first)
      (all_ready right can.1.1.1 second))
  all_ready (node.Union info left right) can has =
      let first = all_front (HasFetchColumns held) (fetches left) (fetches right) has in
      let second = all_back (HasFetchColumns held) (fetches left) (fetches right) has in
      part_or-all Ready (here info.level) up.AsRows (node.Union info left right)
      _ (as_rows (node.Union info left right) can has)
      (all_append Ready (top_parts here left) (top_parts here right) (all_ready left can.0 first)
      (all_ready right can.1 second))

-- a query that is asked over a leaf's series is ready in each of its parts
pub asked_ready : (here : Level → Bool) (typed : TypedTree) (series : List (SeriesKey × List Point)) (moment : ℤ)
    → IsAsked typed series
    → pos 0 ≤ℤ moment → AllByRecursion (IsPartReady (grid_of typed moment) series) (top_parts here typed.tree)
asked_ready here typed series moment asked from =
    let of = asked.fits in
    all_ready here of.held (grid_of typed moment) asked.source series asked.kept of.fit
    (typed_grid of.held of.query typed moment of.durations of.is from) typed.tree
    (typed_evaluable typed asked.source moment of from) (fetches_have_columns of.held of.query typed of.is)
