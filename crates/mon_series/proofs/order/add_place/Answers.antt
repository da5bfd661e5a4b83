use Rattle.std.proofs.Common.{◌∙◌, ◌+◌, ◌<◌, ◌^◌, ap, sym, subst, rules}
use Rattle.mon_series.specs.within.Orders.{AreRuns, places_of}
use Rattle.mon_series.proofs.OrderLemmas.{places_longer, places_more, runs_longer, runs_more}
use Rattle.mon_series.proofs.order.add_place.Goals as goal

pub returns-in-Some-clause-added : goal.returns-in-Some-clause-added
returns-in-Some-clause-added c =
    places_longer c.args.runs.now.items c.args.last.now c.in-Some.longer c.args.place c.args.count
    c.in-Some.ensures.first c.requires.runs.ends c.in-Some.ensures.longer

pub returns-in-Some-clause-runs : goal.returns-in-Some-clause-runs
returns-in-Some-clause-runs c =
    let series : c.args.place.series < 2 ^ 32 = search rules in
    let point : c.args.place.point < 2 ^ 32 = search rules in
    runs_longer c.args.runs.now.items c.args.last.now c.in-Some.longer c.args.place c.args.count c.requires.runs
    (series, point) c.requires.few c.in-Some.ensures.first c.in-Some.ensures.longer

pub returns-in-None-clause-added : goal.returns-in-None-clause-added
returns-in-None-clause-added c =
    ap (λ runs. places_of runs c.of.result (c.args.count + 1)) c.push.ensures.added
    ∙ places_more c.args.runs.now.items c.args.last.now c.of.result c.args.place c.args.count c.of.ensures.first
    c.of.ensures.place

pub returns-in-None-clause-runs : goal.returns-in-None-clause-runs
returns-in-None-clause-runs c =
    let series : c.args.place.series < 2 ^ 32 = search rules in
    let point : c.args.place.point < 2 ^ 32 = search rules in
    subst (λ runs. AreRuns runs c.of.result (c.args.count + 1)) (sym c.push.ensures.added)
    (runs_more c.args.runs.now.items c.args.last.now c.of.result c.args.place c.args.count c.requires.runs
    (series, point) c.requires.few c.of.ensures.first c.of.ensures.place)
