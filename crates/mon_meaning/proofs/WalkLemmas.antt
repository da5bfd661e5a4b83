-- A tree evaluated from its source up.
use Rattle.std.proofs.Common.{◌≡◌, ◌≤◌, ℕ, ◌+◌, List, [], ◌∷◌, ◌++◌, sym, ap, ◌∙◌, arith}
use Rattle.mon_value.specs.declared.grids.Grid.{Grid}
use Rattle.mon_value.specs.declared.refusals.Refusal.{Refusal}
use Rattle.mon_value.specs.declared.refusals.Refusal.TheVariants as refusal
use Rattle.mon_value.specs.declared.tables.TimedRow.{TimedRow}
use Rattle.typed_trees.specs.Nodes.{NodeTree}
use Rattle.mon_meaning.specs.declared.meter.OverLimit.{OverLimit}
use Rattle.mon_meaning.specs.Counts.{TellsOver}
use Rattle.typed_trees.specs.ExplanationParts.{nodes}
use Rattle.mon_meaning.specs.within.Paths.{Leads, first_input, own_load}
use Rattle.mon_meaning.specs.within.Readiness.{IsNodeReady}
use Rattle.mon_meaning.specs.within.SeriesMeaning.{SeriesGroup, load_by_series, rows_by_series}
use Rattle.mon_meaning.proofs.PathLemmas.{Leads-pop, own_loads, ready_below, smaller_below}

-- a number above the limit stays between where there is more to count
pub tells_more : (limit a b : ℕ) (r : Refusal OverLimit) → a ≤ b → TellsOver limit a r → TellsOver limit b r
tells_more limit a b (refusal.Fault over) more tells = record {
  above = tells.above;
  within =
      omega (arith, more, tells.within);
}
tells_more limit a b refusal.OutOfMemory more tells = tt

module _ (grid : Grid) (series : List SeriesGroup) (top : NodeTree) where
  load_below : (above : List NodeTree) (tree end : NodeTree) → Leads above tree end
      → load_by_series grid end series ≤ load_by_series grid tree series
  load_below [] tree end e = rw e (omega arith)
  load_below (node ∷ above) tree end leads =
      let rest = load_below above (first_input node) end leads.1 in
      rw leads.0 (omega (arith, rest, own_loads grid series node))

  -- some nodes of the way down are left above the rows so far
  pub record Walk (above : List NodeTree) (rows : List TimedRow) (start load : ℕ) : Type 0 where
    pub end : NodeTree
    pub leads : Leads above top end
    pub made : rows ≡ rows_by_series grid end series
    pub counted : load ≡ start + load_by_series grid end series

  -- the next operation, and the rows that flow into it
  pub record Step (above : List NodeTree) (node : NodeTree) (rows : List TimedRow) (start load : ℕ) : Type 0 where
    pub ready : IsNodeReady grid node series
    pub flowing : rows ≡ rows_by_series grid (first_input node) series
    pub counted : load ≡ start + load_by_series grid (first_input node) series
    pub within : load_by_series grid (first_input node) series ≤ load
    pub leads : Leads above top node
    pub smaller : nodes node ≤ nodes top

  pub next_step : (above : List NodeTree) (node : NodeTree) (rows : List TimedRow) (start load : ℕ)
      → Walk (above ++ node ∷ []) rows start load → IsNodeReady grid top series → Step above node rows start load
  next_step above node rows start load walk ready =
      let parts = Leads-pop above node top walk.end walk.leads in
      record {
        ready = ready_below grid series above top node parts.0 ready;
        flowing = walk.made ∙ ap (λ tree. rows_by_series grid tree series) (sym parts.1);
        counted = walk.counted ∙ ap (λ tree. start + load_by_series grid tree series) (sym parts.1);
        within = let same = ap (λ tree. load_by_series grid tree series) parts.1 in omega (arith, same, walk.counted);
        leads = parts.0;
        smaller = smaller_below above top node parts.0;
      }

  pub walk_on : (above : List NodeTree) (node : NodeTree) (rows made : List TimedRow) (start load more : ℕ)
      → Step above node rows start load → made ≡ rows_by_series grid node series → more ≡ load + own_load grid node
      series
      → Walk above made start more
  walk_on above node rows made start load more step is counted = record {
    end = node;
    leads = step.leads;
    made = is;
    counted = omega (arith, counted, step.counted, own_loads grid series node);
  }

  pub rows_done : (rows : List TimedRow) (start load : ℕ) → Walk [] rows start load → rows ≡ rows_by_series grid top
      series
  rows_done rows start load walk = walk.made ∙ ap (λ tree. rows_by_series grid tree series) (sym walk.leads)

  pub load_done : (rows : List TimedRow) (start load : ℕ) → Walk [] rows start load → load ≡ start
      + load_by_series grid top series
  load_done rows start load walk = walk.counted ∙ ap (λ tree. start + load_by_series grid tree series) (sym walk.leads)

  pub begun : (above : List NodeTree) (end : NodeTree) (rows : List TimedRow) (start load : ℕ) → Leads above top end
      → rows ≡ rows_by_series grid end series → load ≡ start + load_by_series grid end series → Walk above rows start
      load
  begun above end rows start load leads made counted =
      record { end = end; leads = leads; made = made; counted = counted }

  -- a source or an operation that is over is over in the whole
  pub source_over : (above : List NodeTree) (end : NodeTree) (limit start : ℕ) (r : Refusal OverLimit)
      → Leads above top end
      → TellsOver limit (start + load_by_series grid end series) r → TellsOver limit (start + load_by_series grid top
      series) r
  source_over above end limit start r leads tells =
      let more = load_below above top end leads in tells_more limit _ _ r (omega (arith, more)) tells

  pub step_over : (above : List NodeTree) (node : NodeTree) (rows : List TimedRow) (limit start load : ℕ)
      (r : Refusal OverLimit)
      → Step above node rows start load → TellsOver limit (load + own_load grid node series) r
      → TellsOver limit (start + load_by_series grid top series) r
  step_over above node rows limit start load r step tells =
      let more = load_below above top node step.leads in
      tells_more limit _ _ r (omega (arith, more, step.counted, own_loads grid series node)) tells
