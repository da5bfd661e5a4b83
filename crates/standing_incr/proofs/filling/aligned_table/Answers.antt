use Rattle.std.proofs.Common.{◌≡◌, ◌∙◌, ◌++◌, ◌+◌, [], ℕ, to_z, of_z, w64, append-nil, rules, sym, ap, subst}
use Rattle.std.specs.Prelude.{IsPermutation}
use Rattle.mon_value.specs.LeafHistories.{points_by_series}
use Rattle.mon_value.specs.declared.grids.Grid.{Grid}
use Rattle.mon_value.specs.declared.tables.Table.{Table}
use Rattle.typed_trees.specs.Meaning.{grid_of, load, load_of, rows_meant}
use Rattle.typed_trees.specs.Nodes.{NodeTree, columns_of, node_tree, typed_tree}
use Rattle.typed_trees.specs.declared.nodes.NodeInfo.{NodeInfo}
use Rattle.mon_series.specs.HeldSeries.{held_series}
use Rattle.mon_series.specs.SlotViews.{SlotView}
use Rattle.mon_meaning.proofs.HeldSeriesLemmas.{held_whole}
use Rattle.mon_meaning.specs.Central.{IsPartAsked}
use Rattle.mon_meaning.specs.Counts.{TellsOver}
use Rattle.standing_incr.specs.KeptTables.{aligned_part}
use Rattle.standing_incr.proofs.FillLemmas.{asked_aligned}
use Rattle.standing_incr.proofs.ThroughLemmas.{aligned_load}
use Rattle.standing_incr.proofs.filling.aligned_table.Goals as goal

pub part_by_series-requires : goal.part_by_series-requires
part_by_series-requires c =
    let typed = typed_tree c.args.typed.now in
    let held = c.args.held.now in
    let view = c.kept.result.now in
    let series = held_series view.rows view.kept in
    let slots : series ++ [] ≡ points_by_series held =
    append-nil series ∙ ap (λ (v : SlotView). held_series v.rows v.kept) c.kept.ensures.kept ∙ held_whole held in
    let moment : to_z w64 (of_z w64 c.args.moment) ≡ c.args.moment = search rules in
    let grid : c.grid_of.result ≡ grid_of typed c.args.moment = c.grid_of.ensures.grid ∙ ap (grid_of typed) moment in
    let end : node_tree c.in_ok-way.way.end.now ≡ aligned_part typed.tree = c.in_ok-way.ensures.end in
    record {
      asked = subst (λ (g : Grid). IsPartAsked g (node_tree c.in_ok-way.way.end.now) (series ++ [])) (sym grid)
          (subst (λ (t : NodeTree). IsPartAsked (grid_of typed c.args.moment) t (series ++ [])) (sym end)
          (subst (IsPartAsked (grid_of typed c.args.moment) (aligned_part typed.tree)) (sym slots)
          (asked_aligned typed c.args.moment held c.requires.path c.requires.typed c.requires.moment)));
    }

pub returns-in_err-rows : goal.returns-in_err-rows
returns-in_err-rows c =
    let typed = typed_tree c.args.typed.now in
    let held = c.args.held.now in
    let view = c.kept.result.now in
    let series = held_series view.rows view.kept in
    let slots : series ++ [] ≡ points_by_series held =
    append-nil series ∙ ap (λ (v : SlotView). held_series v.rows v.kept) c.kept.ensures.kept ∙ held_whole held in
    let moment : to_z w64 (of_z w64 c.args.moment) ≡ c.args.moment = search rules in
    let grid : c.grid_of.result ≡ grid_of typed c.args.moment = c.grid_of.ensures.grid ∙ ap (grid_of typed) moment in
    let end : node_tree c.in_ok-way.way.end.now ≡ aligned_part typed.tree = c.in_ok-way.ensures.end in
    let loads : load_of c.grid_of.result (node_tree c.in_ok-way.way.end.now) held ≡ load typed held c.args.moment =
    ap (λ (t : NodeTree). load_of c.grid_of.result t held) end
    ∙ ap (λ (g : Grid). load_of g (aligned_part typed.tree) held) grid
    ∙ aligned_load (grid_of typed c.args.moment) held typed.tree c.requires.path in
    let fact : TellsOver c.args.meter.now.limit (c.args.meter.now.load + load typed held c.args.moment)
    c.in_err-rows.field-0.0 =
    subst (λ (n : ℕ). TellsOver c.args.meter.now.limit (c.args.meter.now.load + n) c.in_err-rows.field-0.0) loads
    (c.in_err-rows.ensures.over held slots) in
    record {
      aligned = search rules;
      limit = c.in_err-rows.ensures.limit;
      counted = search rules;
      over = search rules;
    }

pub returns : goal.returns
returns c =
    let typed = typed_tree c.args.typed.now in
    let held = c.args.held.now in
    let view = c.kept.result.now in
    let series = held_series view.rows view.kept in
    let slots : series ++ [] ≡ points_by_series held =
    append-nil series ∙ ap (λ (v : SlotView). held_series v.rows v.kept) c.kept.ensures.kept ∙ held_whole held in
    let moment : to_z w64 (of_z w64 c.args.moment) ≡ c.args.moment = search rules in
    let grid : c.grid_of.result ≡ grid_of typed c.args.moment = c.grid_of.ensures.grid ∙ ap (grid_of typed) moment in
    let end : node_tree c.in_ok-way.way.end.now ≡ aligned_part typed.tree = c.in_ok-way.ensures.end in
    let loads : load_of c.grid_of.result (node_tree c.in_ok-way.way.end.now) held ≡ load typed held c.args.moment =
    ap (λ (t : NodeTree). load_of c.grid_of.result t held) end
    ∙ ap (λ (g : Grid). load_of g (aligned_part typed.tree) held) grid
    ∙ aligned_load (grid_of typed c.args.moment) held typed.tree c.requires.path in
    let rows = c.in_ok-rows.rows in
    let same : IsPermutation (rows_meant (grid_of typed c.args.moment) (aligned_part typed.tree) held) rows =
    subst (λ (g : Grid). IsPermutation (rows_meant g (aligned_part typed.tree) held) rows) grid
    (subst (λ (t : NodeTree). IsPermutation (rows_meant c.grid_of.result t held) rows) end
    (c.in_ok-rows.ensures.rows held slots)) in
    let table = c.in_ok-table_of.ensures.table in
    record {
      aligned = record {
        columns_are =
            ap (λ (t : Table). t.columns) table ∙ c.deref.ensures ∙ ap (λ (i : NodeInfo). i.columns) c.info.ensures.info
            ∙ ap columns_of end;
        rows_are =
            subst (IsPermutation (rows_meant (grid_of typed c.args.moment) (aligned_part typed.tree) held))
            (sym (ap (λ (t : Table). t.rows) table)) same;
      };
      limit = c.in_ok-rows.ensures.limit;
      counted =
          c.in_ok-rows.ensures.counted held slots
          ∙ ap (λ (n : ℕ). c.args.meter.now.load + n) loads;
      over = tt;
    }
