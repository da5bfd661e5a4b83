use Rattle.std.proofs.Common.{◌≡◌, ◌∙◌, ◌+◌, ℕ, Option, IfOk, IfErr, length, sum_by, sym, ap, subst, rules, arith}
use Rattle.std.specs.List.{AllByRecursion, flat_map}
use Rattle.std.proofs.lemmas.Result.{on_ok_weaker}
use Rattle.typed_trees.specs.Nodes.{node_tree}
use Rattle.typed_trees.specs.Soundness.{IsWithinRows}
use Rattle.mon_meaning.specs.Central.{all_held}
use Rattle.mon_meaning.specs.Counts.{TellsOver}
use Rattle.mon_meaning.specs.within.FetchViews.{FetchView, FetchesNothing, IsFetchFound, IsFetchOf, met_rows}
use Rattle.mon_meaning.specs.within.MetSeries.{CanAlignMet, met_count, series_met}
use Rattle.mon_meaning.specs.within.SeriesMeaning.{align_load, reach_count, series_rows}
use Rattle.mon_meaning.proofs.FetchLemmas.{counted_can, counted_rows, counts_met, nothing_load, nothing_rows}
use Rattle.mon_meaning.proofs.WalkLemmas.{tells_more}
use Rattle.mon_meaning.proofs.alignments.aligned_rows.Goals as goal

pub returns-in-None-clause-rows : goal.returns-in-None-clause-rows
returns-in-None-clause-rows c =
    let input = node_tree c.args.input.now in
    let nothing : FetchesNothing input = subst (λ (o : Option FetchView). IsFetchFound input o) c.in-None.is
    c.in_ok-fetch.ensures.found in
    c.new-in-None.ensures.empty
    ∙ sym (nothing_rows c.args.setting.now.grid c.args.by input nothing (all_held c.args.setting.now.series.now))

pub returns-in-None-clause-counted : goal.returns-in-None-clause-counted
returns-in-None-clause-counted c =
    let input = node_tree c.args.input.now in
    let nothing : FetchesNothing input = subst (λ (o : Option FetchView). IsFetchFound input o) c.in-None.is
    c.in_ok-fetch.ensures.found in
    let none = nothing_load c.args.setting.now.grid c.args.by input nothing (all_held c.args.setting.now.series.now) in
    omega (arith, none)

pub returns-in_err-met-clause-over : goal.returns-in_err-met-clause-over
returns-in_err-met-clause-over c =
    let input = node_tree c.args.input.now in
    let grid = c.args.setting.now.grid in
    let by = c.args.by in
    let series = all_held c.args.setting.now.series.now in
    let fetch : FetchView = c.in-Some.fetch in
    let is : IsFetchOf input fetch = subst (λ (o : Option FetchView). IsFetchFound input o) c.in-Some.is
    c.in_ok-fetch.ensures.found in
    let same = counts_met grid by input fetch is c.requires.ready.lawful series in
    let fact : TellsOver c.args.meter.now.limit (c.args.meter.now.load + align_load grid by input series)
    c.in_err-met.field-0.0 =
    tells_more c.args.meter.now.limit (c.args.meter.now.load + sum_by (met_count grid by fetch) series)
    _ c.in_err-met.field-0.0
    (omega (arith, same)) c.in_err-met.ensures.over in
    search rules

pub rows_of_series-requires : goal.rows_of_series-requires
rows_of_series-requires c =
    let input = node_tree c.args.input.now in
    let grid = c.args.setting.now.grid in
    let by = c.args.by in
    let series = all_held c.args.setting.now.series.now in
    let fetch : FetchView = c.in-Some.fetch in
    let ready = c.requires.ready in
    let is : IsFetchOf input fetch = subst (λ (o : Option FetchView). IsFetchFound input o) c.in-Some.is
    c.in_ok-fetch.ensures.found in
    let same = counts_met grid by input fetch is ready.lawful series in
    let few : IsWithinRows (sum_by (reach_count grid by input) series) =
    omega (arith, same, c.in_ok-met.ensures.counted, c.met_series.new.meter.within, c.met_series.new.meter.few) in
    record {
      can = subst (AllByRecursion (CanAlignMet grid by fetch)) (sym c.in_ok-met.ensures.met)
          (counted_can grid by input fetch is ready.lawful series ready.decided (ready.each few));
    }

pub returns-clause-rows : goal.returns-clause-rows
returns-clause-rows c =
    let input = node_tree c.args.input.now in
    let grid = c.args.setting.now.grid in
    let by = c.args.by in
    let series = all_held c.args.setting.now.series.now in
    let fetch : FetchView = c.in-Some.fetch in
    let is : IsFetchOf input fetch = subst (λ (o : Option FetchView). IsFetchFound input o) c.in-Some.is
    c.in_ok-fetch.ensures.found in
    let same : flat_map (met_rows grid by fetch) (series_met c.in_ok-met.met.items)
    ≡ flat_map (series_rows grid by input) series =
    ap (flat_map (met_rows grid by fetch)) c.in_ok-met.ensures.met
    ∙ counted_rows grid by input fetch is c.requires.ready.lawful series c.requires.ready.decided in
    subst (λ all. IfOk c.rows_of_series.result (λ rows. rows ≡ all)) same c.rows_of_series.ensures.rows

pub returns-clause-counted : goal.returns-clause-counted
returns-clause-counted c =
    let input = node_tree c.args.input.now in
    let grid = c.args.setting.now.grid in
    let by = c.args.by in
    let series = all_held c.args.setting.now.series.now in
    let fetch : FetchView = c.in-Some.fetch in
    let is : IsFetchOf input fetch = subst (λ (o : Option FetchView). IsFetchFound input o) c.in-Some.is
    c.in_ok-fetch.ensures.found in
    let counts = counts_met grid by input fetch is c.requires.ready.lawful series in
    let same : flat_map (met_rows grid by fetch) (series_met c.in_ok-met.met.items)
    ≡ flat_map (series_rows grid by input) series =
    ap (flat_map (met_rows grid by fetch)) c.in_ok-met.ensures.met
    ∙ counted_rows grid by input fetch is c.requires.ready.lawful series c.requires.ready.decided in
    on_ok_weaker c.rows_of_series.result
    (λ told. omega (arith, told, counts, ap length same, c.in_ok-met.ensures.counted)) c.rows_of_series.ensures.counted

pub returns-clause-over : goal.returns-clause-over
returns-clause-over c =
    let input = node_tree c.args.input.now in
    let grid = c.args.setting.now.grid in
    let by = c.args.by in
    let series = all_held c.args.setting.now.series.now in
    let fetch : FetchView = c.in-Some.fetch in
    let is : IsFetchOf input fetch = subst (λ (o : Option FetchView). IsFetchFound input o) c.in-Some.is
    c.in_ok-fetch.ensures.found in
    let counts = counts_met grid by input fetch is c.requires.ready.lawful series in
    let same : flat_map (met_rows grid by fetch) (series_met c.in_ok-met.met.items)
    ≡ flat_map (series_rows grid by input) series =
    ap (flat_map (met_rows grid by fetch)) c.in_ok-met.ensures.met
    ∙ counted_rows grid by input fetch is c.requires.ready.lawful series c.requires.ready.decided in
    let total : c.met_series.new.meter.load
    + length (flat_map (met_rows grid by fetch) (series_met c.in_ok-met.met.items))
    ≡ c.args.meter.now.load + align_load grid by input series =
    omega (arith, counts, ap length same, c.in_ok-met.ensures.counted) in
    let limit : c.met_series.new.meter.limit ≡ c.args.meter.now.limit = c.in_ok-met.ensures.limit in
    let P : ℕ → ℕ → Type 0 = λ l n. IfErr c.rows_of_series.result (TellsOver l n) in
    let made = length (flat_map (met_rows grid by fetch) (series_met c.in_ok-met.met.items)) in
    subst (λ (n : ℕ). P c.args.meter.now.limit n) total
    (subst (λ (l : ℕ). P l (c.met_series.new.meter.load + made)) limit c.rows_of_series.ensures.over)
