use Rattle.std.proofs.Common.{◌≡◌, ◌∙◌, ◌+◌, List, ◌∷◌, drop, IfSome, ◌<ℤ◌, sym, ap, subst}
use Rattle.std.proofs.lemmas.List.{drop_more}
use Rattle.mon_value.specs.LeafHistories.{last_end, points_of}
use Rattle.mon_value.specs.declared.rows.Row.{Row}
use Rattle.mon_series.specs.SlotViews.{SlotView}
use Rattle.mon_series.proofs.SourceEnds.{source_at}
use Rattle.mon_series.proofs.kept_rows.KeptRows.of_rows.Goals as goal

pub push-requires : goal.push-requires
push-requires c =
    let rows = c.args.rows.now in
    let i = c.loop-row.row-index in
    let row : Row = c.row-item.result in
    let next : drop i rows ≡ row ∷ drop (i + 1) rows =
    drop_more rows i row c.loop-row-test.true ∙ ap (λ (r : Row). r ∷ drop (i + 1) rows) (sym c.row-item.is) in
    let later = source_at rows i row (drop (i + 1) rows) next c.requires.source in
    record {
      later = subst (λ (r : Row). IfSome (last_end (points_of r.key c.loop-row.kept.rows)) (λ last. last <ℤ r.point.end))
          (sym c.in_ok-copy.ensures.equal)
          (subst (λ (kept : List Row). IfSome (last_end (points_of row.key kept)) (λ last. last <ℤ row.point.end))
          (ap (λ (seen : SlotView). seen.rows) (sym c.loop-row.invariant)) later);
    }
