use Rattle.std.proofs.Common.{◌≡◌, ◌∙◌, ◌+◌, ◌∷◌, [], ℕ, List, Some, drop, refl, ap, slice_get, slice_index_or, arith}
use Rattle.std.proofs.lemmas.List.{drop_more, map-append}
use Rattle.mon_series.specs.HeldSeries.{all_series, held_series}
use Rattle.mon_series.specs.MetricNumbers.{metric_numbers}
use Rattle.mon_meaning.specs.declared.alignments.Met.{Met}
use Rattle.mon_meaning.specs.within.MetSeries.{met_count, series_met}
use Rattle.mon_meaning.specs.within.SeriesMeaning.{SeriesGroup}
use Rattle.mon_meaning.proofs.MetricSeries.{none_met, one_met, one_passed, within_series}
use Rattle.mon_meaning.proofs.alignments.add_met.Goals as goal
use Rattle.mon_meaning.proofs.alignments.add_met.Goals.{then-reached-gt0+in_ok-add+in_ok-push, else-reached-gt0}

pub loop-number-init : goal.loop-number-init
loop-number-init c =
    let rows = c.args.rows.now.rows in
    record {
      so_far = none_met c.args.setting.now.grid c.args.by c.args.fetch.now rows c.args.rows.now.kept c.of_metric-numbers.result.now
          (series_met c.args.met.now.items)
          c.args.meter.now.load
          (c.of_metric-numbers.ensures.numbers ∙ ap (λ (metric : List ℕ). metric_numbers metric rows)
          c.metric.ensures.metric);
      limit = refl;
    }

pub entry-requires : goal.entry-requires
entry-requires c =
    let numbers = c.of_metric-numbers.result.now in
    let i = c.loop-number.number-index in
    let next : drop i numbers ≡ slice_index_or numbers i 0 ∷ drop (i + 1) numbers = drop_more numbers i 0
    c.loop-number-test.true in
    record {
      within = within_series c.args.setting.now.grid c.args.by c.args.fetch.now c.args.rows.now.rows c.args.rows.now.kept
          (held_series c.args.rows.now.rows c.args.rows.now.kept) (drop i numbers)
          (drop (i + 1) numbers)
          (slice_index_or numbers i 0) (series_met c.args.met.now.items) (series_met c.loop-number.met.items)
          c.args.meter.now.load
          c.loop-number.meter.load c.loop-number.invariant.so_far next;
    }

pub loop-number-preserved : goal.loop-number-preserved
loop-number-preserved c =
    let grid = c.args.setting.now.grid in
    let by = c.args.by in
    let fetch = c.args.fetch.now in
    let groups = all_series c.args.rows.now.rows c.args.rows.now.kept in
    let whole = held_series c.args.rows.now.rows c.args.rows.now.kept in
    let numbers = c.of_metric-numbers.result.now in
    let i = c.loop-number.number-index in
    let number = slice_index_or numbers i 0 in
    let next : drop i numbers ≡ number ∷ drop (i + 1) numbers = drop_more numbers i 0 c.loop-number-test.true in
    let group : SeriesGroup = (c.entry.result.0.now, c.entry.result.1.now.points) in
    let there : slice_get groups number ≡ Some group = c.entry.ensures.entry in
    let count : c.in_ok-reached.reached ≡ met_count grid by fetch group = c.in_ok-reached.ensures.count in
    let met = c.loop-number.met.items in
    let one : Met = record { key = c.entry.result.0; series = c.entry.result.1 } in
    elim c.if-reached-gt0.branch [
      | then-reached-gt0+in_ok-add+in_ok-push w ↦ record {
        so_far = one_met grid by fetch groups whole (drop i numbers) (drop (i + 1) numbers) number group
            (series_met c.args.met.now.items) (series_met met)
            c.args.meter.now.load c.loop-number.meter.load c.loop-number.invariant.so_far next there
            (series_met c.if-reached-gt0.met.items)
            c.if-reached-gt0.meter.load (omega (arith, w.if-reached-gt0.true, count))
            (ap (λ v. series_met v.items) w.met-is ∙ ap series_met w.in_ok-push.ensures.items
            ∙ map-append (λ (m : Met). (m.key.now, m.series.now.points)) met (one ∷ []))
            (ap (λ m. m.load) w.meter-is ∙ w.in_ok-add.ensures.counted ∙ ap (λ (n : ℕ). c.loop-number.meter.load + n)
            count);
        limit = ap (λ m. m.limit) w.meter-is ∙ w.in_ok-add.ensures.limit ∙ c.loop-number.invariant.limit;
      }
      | else-reached-gt0 w ↦ record {
        so_far = one_passed grid by fetch groups whole (drop i numbers) (drop (i + 1) numbers) number group
            (series_met c.args.met.now.items) (series_met met)
            c.args.meter.now.load c.loop-number.meter.load c.loop-number.invariant.so_far next there
            (series_met c.if-reached-gt0.met.items)
            c.if-reached-gt0.meter.load (omega (arith, w.if-reached-gt0.false, count))
            (ap (λ v. series_met v.items) w.met-is)
            (ap (λ m. m.load) w.meter-is);
        limit = ap (λ m. m.limit) w.meter-is ∙ c.loop-number.invariant.limit;
      }
    ]
