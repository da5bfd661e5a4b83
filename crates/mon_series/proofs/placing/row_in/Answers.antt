use Rattle.std.proofs.Common.{◌∙◌, Some, sym, ap, slice_get}
use Rattle.mon_series.specs.SeriesMaps.{series_held}
use Rattle.mon_series.specs.SeriesPoints.{all_points}
use Rattle.mon_series.specs.within.Places.{row_of_parts}
use Rattle.mon_series.proofs.HeldLemmas.{held_entry, held_out}
use Rattle.mon_series.proofs.PlaceLemmas.{no_group_there, no_point_there, row_from}
use Rattle.mon_series.proofs.placing.row_in.Goals as goal

pub unreachable-requires : goal.unreachable-requires
unreachable-requires c =
    let entries = c.args.groups.now.entries in
    let place = c.args.place in
    no_group_there (series_held entries) place.series place.point c.requires.there
    (held_out all_points entries place.series (sym c.in_default.ensures.entry))

pub unreachable-requires-in_default-point_at : goal.unreachable-requires-in_default-point_at
unreachable-requires-in_default-point_at c =
    let entries = c.args.groups.now.entries in
    let place = c.args.place in
    let key = c.in-Some.key.now in
    let series = c.in-Some.series.now in
    no_point_there (series_held entries) place.series place.point key (all_points series) c.requires.there
    (held_entry all_points entries place.series key series (sym c.in-Some.ensures.entry))
    (ap (λ points. slice_get points place.point) (sym c.all_points.ensures.points)
    ∙ sym c.in_default-point_at.ensures.point)

pub returns : goal.returns
returns c =
    let entries = c.args.groups.now.entries in
    let place = c.args.place in
    let key = c.in-Some.key.now in
    let series = c.in-Some.series.now in
    record {
      row = row_from (series_held entries) place.series place.point key (all_points series) c.in-Some-point_at.point.now
          (held_entry all_points entries place.series key series (sym c.in-Some.ensures.entry))
          (ap (λ points. slice_get points place.point) (sym c.all_points.ensures.points)
          ∙ sym c.in-Some-point_at.ensures.point)
          ∙ (λ i. Some (row_of_parts (sym c.in_ok-copy.ensures.equal i) (sym c.in_ok-point.ensures.point i)));
    }
