-- What a part of a tree means over rows is what it is evaluated to over their series.
use Rattle.std.proofs.Common.{◌≡◌, List, sym, ap, subst, ◌∙◌}
use Rattle.std.specs.Prelude.{IfOk, IsPermutation, Result, Ok, Err}
use Rattle.mon_value.specs.LeafHistories.{points_by_series}
use Rattle.mon_value.specs.declared.grids.Grid.{Grid}
use Rattle.mon_value.specs.declared.rows.Row.{Row}
use Rattle.mon_value.specs.declared.tables.TimedRow.{TimedRow}
use Rattle.typed_trees.specs.Meaning.{load_of, rows_meant}
use Rattle.typed_trees.specs.Nodes.{NodeTree}
use Rattle.mon_meaning.specs.Central.{IsPartAsked}
use Rattle.mon_meaning.specs.within.Readiness.{IsNodeReady}
use Rattle.mon_meaning.specs.within.SeriesMeaning.{SeriesGroup, load_by_series, rows_by_series}
use Rattle.mon_meaning.proofs.ReadyLemmas.{ready}
use Rattle.mon_meaning.proofs.SeriesOrders.{loads, rows-permutation}

module _ (grid : Grid) (part : NodeTree) (series : List SeriesGroup) where
  -- a part that is asked can be evaluated
  pub part_ready : IsPartAsked grid part series → IsNodeReady grid part series
  part_ready asked =
      subst (IsNodeReady grid part) (sym asked.kept)
      (ready asked.held grid asked.source asked.fit asked.lawful part asked.evaluable asked.fetched)

  module _ (source : List Row) (kept : series ≡ points_by_series source) where
    pub part_rows : (rows : List TimedRow) → rows ≡ rows_by_series grid part series
        → IsPermutation (rows_meant grid part source) rows
    part_rows rows made =
        subst (λ (all : List TimedRow). IsPermutation (rows_meant grid part source) all)
        (sym (made ∙ ap (rows_by_series grid part) kept)) (rows-permutation grid part source)

    pub part_load : load_by_series grid part series ≡ load_of grid part source
    part_load = ap (load_by_series grid part) kept ∙ sym (loads grid part source)

    pub rows_told : {E : Type 0} (r : Result (List TimedRow) E) → IfOk r (λ rows. rows ≡ rows_by_series grid part
        series)
        → IfOk r (λ rows. IsPermutation (rows_meant grid part source) rows)
    rows_told (Ok rows) made = part_rows rows made
    rows_told (Err refused) made = tt
