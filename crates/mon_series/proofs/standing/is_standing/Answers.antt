use Rattle.std.proofs.Common.{◌∙◌, ap, not, sym}
use Rattle.std.specs.Map.{lookup}
use Rattle.mon_series.specs.SeriesMaps.{series_held}
use Rattle.mon_series.specs.SeriesPoints.{all_points}
use Rattle.mon_series.proofs.HeldLemmas.{held_out}
use Rattle.mon_series.proofs.HiddenRows.{place_stands}
use Rattle.mon_series.proofs.PlaceLemmas.{no_group_there}
use Rattle.mon_series.proofs.standing.is_standing.Goals as goal
use Rattle.mon_value.proofs.SameLemmas.{same_series-test}

pub unreachable-requires : goal.unreachable-requires
unreachable-requires c =
    let entries = c.args.groups.now.entries in
    let place = c.args.place in
    no_group_there (series_held entries) place.series place.point c.requires.there
    (held_out all_points entries place.series (sym c.in_default.ensures.entry))

pub returns : goal.returns
returns c = record {
  stands = λ row there.
      let entries = c.args.groups.now.entries in
      let key = c.in-Some.field-0-0.now in
      let series = c.in-Some.series.now in
      ap not c.hides.ensures.hides
      ∙ place_stands entries c.args.place key series row (sym c.in-Some.ensures.entry)
      (ap (λ test. lookup test entries) (sym (same_series-test key)) ∙ c.in-Some.ensures.value) c.hides.ensures.rises there;
}
