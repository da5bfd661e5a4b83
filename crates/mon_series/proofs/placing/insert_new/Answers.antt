use Rattle.std.proofs.Common.{◌≡◌, ◌∙◌, None, ap}
use Rattle.std.specs.Map.{lookup}
use Rattle.indexmap.specs.IndexMap.{get}
use Rattle.indexmap.proofs.CallerLemmas.{insert_entry-new}
use Rattle.mon_series.specs.SeriesMaps.{hidden_held, series_held}
use Rattle.mon_series.specs.SeriesPoints.{SeriesPoints, all_points}
use Rattle.mon_value.specs.contracts.rows.SeriesKeyPartialEq.TheImpl as derived
use Rattle.mon_series.proofs.HeldLemmas.{held_last, held_none}
use Rattle.mon_series.proofs.placing.insert_new.Goals as goal
use Rattle.mon_value.proofs.PlainLemmas.{ok_claim}
use Rattle.mon_value.proofs.SameLemmas.{same_series-test}

pub returns : goal.returns
returns c =
    let groups = c.args.groups.now in
    let key = c.args.key in
    let series = c.args.series in
    let none : get derived.eq-value.it groups key ≡ None = ap (λ test. lookup test groups.entries) (same_series-test key)
    ∙ held_none all_points key groups.entries c.requires.absent in
    let put = ok_claim _ c.insert.result (c.insert.ensures.succeeds c.requires.room) c.insert.ensures.entries
    ∙ insert_entry-new derived.eq-value.it groups key series none in
    record {
      grown = ap series_held put ∙ held_last all_points groups.entries key series;
      hidden = ap hidden_held put ∙ held_last (λ (one : SeriesPoints). one.hidden) groups.entries key series;
    }
