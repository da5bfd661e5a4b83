use Rattle.std.proofs.Common.{◌≡◌, ◌∙◌, List, IfOk, sym, ap, subst}
use Rattle.mon_value.specs.Grids.{CanAlign, aligned_values}
use Rattle.mon_value.specs.declared.rows.Point.{Point}
use Rattle.mon_value.specs.declared.rows.SeriesKey.{SeriesKey}
use Rattle.mon_meaning.specs.within.FetchViews.{keeps, points_kept}
use Rattle.mon_meaning.specs.within.Reach.{points_wanted}
use Rattle.mon_meaning.proofs.KeptLemmas.{kept_all}
use Rattle.mon_meaning.proofs.ReachLemmas.{CanAlign-wanted, aligned-wanted}
use Rattle.mon_meaning.proofs.WindowLemmas.{EndsRise-filter}
use Rattle.mon_meaning.proofs.alignments.series_values.Goals as goal

pub align-requires : goal.align-requires
align-requires c =
    let fetch = c.args.fetch.now in
    let met = c.args.met.now in
    subst (CanAlign c.args.by c.args.setting.now.grid)
    (kept_all fetch (met.key.now, met.series.now.points) (c.keeps_all.ensures.none c.if-keeps_all.true)) c.requires.can

pub returns-then-keeps_all : goal.returns-then-keeps_all
returns-then-keeps_all c =
    let fetch = c.args.fetch.now in
    let met = c.args.met.now in
    record {
      values = subst (λ (points : List Point). IfOk c.align.result (λ values. values ≡ aligned_values c.args.by
          c.args.setting.now.grid points))
          (sym (kept_all fetch (met.key.now, met.series.now.points) (c.keeps_all.ensures.none c.if-keeps_all.true)))
          c.align.ensures.aligned_values;
    }

pub align-requires-2 : goal.align-requires-2
align-requires-2 c =
    let fetch = c.args.fetch.now in
    let met = c.args.met.now in
    let grid = c.args.setting.now.grid in
    let kept : List Point = points_kept fetch (met.key.now, met.series.now.points) in
    let wanted : c.in_ok-wanted.wanted.points ≡ points_wanted grid c.args.by kept =
    c.in_ok-wanted.ensures.wanted
    ∙ ap (λ (key : SeriesKey). points_wanted grid c.args.by (points_kept fetch (key, met.series.now.points)))
    c.deref.ensures in
    let rise = EndsRise-filter (λ (point : Point). keeps fetch met.key.now point.value) met.series.now.points
    c.in_ok-wanted.ensures.rises in
    subst (CanAlign c.args.by grid) (sym wanted) (CanAlign-wanted grid c.args.by kept rise c.requires.can)

pub returns : goal.returns
returns c =
    let fetch = c.args.fetch.now in
    let met = c.args.met.now in
    let grid = c.args.setting.now.grid in
    let kept : List Point = points_kept fetch (met.key.now, met.series.now.points) in
    let wanted : c.in_ok-wanted.wanted.points ≡ points_wanted grid c.args.by kept =
    c.in_ok-wanted.ensures.wanted
    ∙ ap (λ (key : SeriesKey). points_wanted grid c.args.by (points_kept fetch (key, met.series.now.points)))
    c.deref.ensures in
    let rise = EndsRise-filter (λ (point : Point). keeps fetch met.key.now point.value) met.series.now.points
    c.in_ok-wanted.ensures.rises in
    let same : aligned_values c.args.by grid c.in_ok-wanted.wanted.points ≡ aligned_values c.args.by grid kept =
    ap (aligned_values c.args.by grid) wanted
    ∙ aligned-wanted grid c.args.by kept c.requires.can.lawful c.requires.can.looks_back rise in
    record {
      values = subst (λ all. IfOk c.align-2.result (λ values. values ≡ all)) same c.align-2.ensures.aligned_values;
    }
