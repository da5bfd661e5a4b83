use Rattle.std.proofs.Common.{◌≡◌, ◌∙◌, [], Option, Some, List, IfOk, IfSome, map, slice_get, ap, subst}
use Rattle.mon_value.specs.LeafHistories.{points_of, series_of}
use Rattle.mon_value.specs.declared.rows.Row.{Row}
use Rattle.mon_value.specs.declared.rows.SeriesKey.{SeriesKey}
use Rattle.mon_series.specs.SlotViews.{SlotView}
use Rattle.standing_incr.specs.OwnRows.{row_at}
use Rattle.standing_incr.proofs.OwnLemmas.{no_rows, rows_again}
use Rattle.standing_incr.proofs.own_series.own_rows.Goals as goal

pub returns-in-Some : goal.returns-in-Some
returns-in-Some c =
    let held = c.args.held.now in
    let key = c.args.key.now in
    let number = c.in-Some.found.number in
    let points = c.points.result.now.points in
    let first : slice_get (series_of held) number ≡ Some key =
    subst (λ (v : SlotView). slice_get (series_of v.rows) number ≡ Some key) c.kept.ensures.kept c.in-Some.ensures.number in
    let told : IfSome (slice_get (series_of held) number) (λ k. points ≡ points_of k held) =
    subst (λ (v : SlotView). IfSome (slice_get (series_of v.rows) number) (λ k. points ≡ points_of k v.kept))
    c.kept-in-Some.ensures.kept c.points.ensures.points in
    let own : points ≡ points_of key held =
    subst (λ (o : Option SeriesKey). IfSome o (λ k. points ≡ points_of k held)) first told in
    record {
      rows = subst (λ (l : List Row). IfOk c.rows_at.result (λ rows. rows ≡ l))
          (ap (map (row_at key)) own ∙ rows_again key held) c.rows_at.ensures.rows;
    }

pub returns-in-None : goal.returns-in-None
returns-in-None c =
    let held = c.args.held.now in
    let key = c.args.key.now in
    record {
      rows =
          c.new.ensures.empty
          ∙ no_rows key held
          (subst (λ (v : SlotView). points_of key v.rows ≡ []) c.kept.ensures.kept c.in-None.ensures.none);
    }
