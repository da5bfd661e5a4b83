use Rattle.std.proofs.Common.{◌∙◌, ◌<ℤ◌, [], ◌∷◌, ◌++◌, ap, sym, subst, arith, length, take-append-drop, IfSome}
use Rattle.std.proofs.lemmas.List.{length-append}
use Rattle.mon_value.specs.LeafHistories.{last_end}
use Rattle.mon_series.specs.SeriesPoints.{SeriesPoints, all_points}
use Rattle.mon_series.proofs.EndsRiseLemmas.{EndsRise-push}
use Rattle.mon_series.proofs.StandingLemmas.{drop_within, take_within}
use Rattle.mon_series.proofs.series.Series.push.Goals as goal

pub invariant_of-self : goal.invariant_of-self
invariant_of-self c =
    let items = c.self.inside.points.items in
    let all = ap all_points (sym c.self.view_is) ∙ take-append-drop c.self.inside.hidden items in
    record {
      rises = rw c.push.ensures.added (EndsRise-push items c.args.point c.self.invariant.rises
          (subst (λ points. IfSome (last_end points) (λ last. last <ℤ c.args.point.end)) all c.requires.rises));
      within = omega (
        arith,
        ap length c.push.ensures.added,
        length-append items (c.args.point ∷ []),
        c.self.invariant.within,
      );
    }

pub returns-clause-added : goal.returns-clause-added
returns-clause-added c =
    drop_within c.self.inside.hidden c.self.inside.points.items c.args.point c.push.new.self.items
    c.push.ensures.added c.self.invariant.within
    ∙ ap (λ (seen : SeriesPoints). seen.points ++ c.args.point ∷ []) c.self.view_is

pub returns-clause-hidden : goal.returns-clause-hidden
returns-clause-hidden c =
    take_within c.self.inside.hidden c.self.inside.points.items c.args.point c.push.new.self.items
    c.push.ensures.added c.self.invariant.within
    ∙ ap (λ (seen : SeriesPoints). seen.hidden) c.self.view_is
