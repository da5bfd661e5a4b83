use Rattle.std.proofs.Common.{◌≡◌, ◌∙◌, ◌∷◌, ◌++◌, ◌+◌, arith, drop, sym, ap}
use Rattle.std.proofs.lemmas.List.{drop_more}
use Rattle.mon_series.specs.SeriesMaps.{hidden_held, series_held}
use Rattle.mon_series.specs.SeriesPoints.{SeriesPoints, all_points}
use Rattle.mon_series.proofs.CopyLemmas.{copy_put}
use Rattle.mon_series.proofs.kept_rows.copied_series.Goals as goal

pub loop-key-preserved : goal.loop-key-preserved
loop-key-preserved c =
    let copied = c.loop-key.copied in
    let entry = c.loop-key-item.result in
    let items = c.entries-key-items.result.now in
    let all = c.args.groups.now.entries in
    let rest = drop (c.loop-key.key-index + 1) items in
    let next : drop c.loop-key.key-index items ≡ entry ∷ rest = drop_more items c.loop-key.key-index entry
    (omega (arith, c.loop-key-test.true)) ∙ ap (λ e. e ∷ rest) (sym c.loop-key-item.is) in
    let groups : series_held copied.entries ++ series_held (entry ∷ rest) ≡ series_held all =
    ap (λ left. series_held copied.entries ++ series_held left) (sym next) ∙ c.loop-key.invariant.groups in
    let hidden : hidden_held copied.entries ++ hidden_held (entry ∷ rest) ≡ hidden_held all =
    ap (λ left. hidden_held copied.entries ++ hidden_held left) (sym next) ∙ c.loop-key.invariant.hidden in
    record {
      groups = copy_put all_points copied c.in_ok-own.own entry.0 c.in_ok-points.points entry.1 rest all
          c.insert.new.self.entries c.in_ok-own.ensures.equal
          (λ i. c.in_ok-points.ensures.hidden i ++ c.in_ok-points.ensures.points i) c.in_ok-insert.ensures.entries groups
          c.entries-key-items.ensures.unique;
      hidden = copy_put (λ (series : SeriesPoints). series.hidden) copied c.in_ok-own.own entry.0 c.in_ok-points.points
          entry.1 rest all c.insert.new.self.entries c.in_ok-own.ensures.equal c.in_ok-points.ensures.hidden
          c.in_ok-insert.ensures.entries hidden c.entries-key-items.ensures.unique;
    }
