use Rattle.std.proofs.Common.{◌≡◌, ◌∙◌, ◌++◌, ◌∷◌, [], List, ap, append_assoc, arith, filter, sym, take}
use Rattle.std.specs.Prelude.{is_some}
use Rattle.std.proofs.lemmas.List.{take_all}
use Rattle.std.proofs.lemmas.List.Elements.{filter-append}
use Rattle.mon_value.specs.declared.rows.Row.{Row}
use Rattle.mon_series.specs.SeriesMaps.{hidden_held, series_held}
use Rattle.mon_series.specs.within.Hidden.{stands}
use Rattle.mon_series.specs.within.Places.{rows_at_places}
use Rattle.mon_series.proofs.PlaceLemmas.{row_listed, rows_next}
use Rattle.mon_series.proofs.standing.push_standing.Goals as goal

pub push_if_standing-requires : goal.push_if_standing-requires
push_if_standing-requires c =
    let listed = row_listed (series_held c.args.groups.now.entries) c.args.order.now.items c.loop-number.number
    c.get.result c.requires.there c.get.ensures.item in
    record { there = ap is_some listed.1 }

pub loop-number-preserved : goal.loop-number-preserved
loop-number-preserved c =
    let groups = series_held c.args.groups.now.entries in
    let places = c.args.order.now.items in
    let n = c.loop-number.number in
    let listed = row_listed groups places n c.get.result c.requires.there c.get.ensures.item in
    let test = stands (hidden_held c.args.groups.now.entries) in
    let before = rows_at_places groups (take n places) in
    let more = rows_next groups places n c.get.result listed.0 c.get.ensures.item listed.1 in
    record {
      within = omega (arith, c.loop-number-test.true);
      rows = c.in_ok-push_if_standing.ensures.added listed.0 listed.1
          ∙ ap (λ (rows : List Row). rows ++ filter test (listed.0 ∷ [])) c.loop-number.invariant.rows
          ∙ append_assoc c.args.rows.now (filter test before) (filter test (listed.0 ∷ []))
          ∙ ap (λ (rows : List Row). c.args.rows.now ++ rows)
          (sym (filter-append test before (listed.0 ∷ [])) ∙ ap (filter test) (sym more));
    }

pub returns : goal.returns
returns c =
    let all : take c.loop-number.number c.args.order.now.items ≡ c.args.order.now.items =
    take_all c.loop-number.number c.args.order.now.items (omega (arith, c.loop-number-test.false)) in
    record {
      added = c.loop-number.invariant.rows
          ∙ ap (λ places. c.args.rows.now ++ filter (stands (hidden_held c.args.groups.now.entries))
          (rows_at_places (series_held c.args.groups.now.entries) places)) all;
    }
