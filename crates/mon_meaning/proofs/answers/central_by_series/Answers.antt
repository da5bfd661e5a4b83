use Rattle.std.proofs.Common.{◌≡◌, ◌∙◌, ◌++◌, ◌+◌, [], ℕ, List, to_z, of_z, w64, sym, ap, subst, rules}
use Rattle.std.specs.Prelude.{IsPermutation}
use Rattle.std.proofs.lemmas.List.{append-nil}
use Rattle.mon_series.specs.HeldSeries.{held_series}
use Rattle.mon_series.specs.SlotViews.{SlotView}
use Rattle.mon_value.specs.LeafHistories.{points_by_series}
use Rattle.mon_value.specs.declared.columns.Column.{Column}
use Rattle.mon_value.specs.declared.grids.Grid.{Grid}
use Rattle.typed_trees.specs.Meaning.{load_of, grid_of, rows_meant}
use Rattle.typed_trees.specs.Nodes.{columns_of, node_tree, typed_tree}
use Rattle.typed_trees.specs.declared.nodes.NodeInfo.{NodeInfo}
use Rattle.mon_meaning.specs.Central.{IsPartAsked, IsRefusedBy}
use Rattle.mon_meaning.specs.Counts.{TellsOver}
use Rattle.mon_meaning.proofs.AnswerLemmas.{asked_whole, is_meant, is_refused}
use Rattle.mon_meaning.proofs.HeldSeriesLemmas.{held_whole}
use Rattle.mon_meaning.proofs.answers.central_by_series.Goals as goal

pub part_by_series-requires : goal.part_by_series-requires
part_by_series-requires c =
    let typed = typed_tree c.args.typed.now in
    let tree = node_tree c.args.typed.now.tree in
    let series = held_series c.args.kept.now.rows c.args.kept.now.kept in
    let rows : c.args.kept.now.kept ≡ c.args.kept.now.rows = ap (λ (slot : SlotView). slot.kept) c.requires.whole in
    let whole : series ≡ points_by_series c.args.kept.now.rows =
    ap (held_series c.args.kept.now.rows) rows ∙ held_whole c.args.kept.now.rows in
    let moment : to_z w64 (of_z w64 c.args.moment) ≡ c.args.moment = search rules in
    let grid : c.grid_of-grid.result ≡ grid_of typed c.args.moment = c.grid_of-grid.ensures.grid ∙ ap (grid_of typed)
    moment in
    record {
      asked = subst (λ (g : Grid). IsPartAsked g tree (series ++ [])) (sym grid)
          (subst (IsPartAsked (grid_of typed c.args.moment) tree) (sym (append-nil series))
          (asked_whole typed series c.args.moment (record {
            source = c.args.kept.now.rows;
            kept = whole;
            fits =
                c.requires.typed;
          }) c.requires.moment));
    }

pub returns-in_err-rows : goal.returns-in_err-rows
returns-in_err-rows c =
    let typed = typed_tree c.args.typed.now in
    let tree = node_tree c.args.typed.now.tree in
    let series = held_series c.args.kept.now.rows c.args.kept.now.kept in
    let rows : c.args.kept.now.kept ≡ c.args.kept.now.rows = ap (λ (slot : SlotView). slot.kept) c.requires.whole in
    let whole : series ≡ points_by_series c.args.kept.now.rows =
    ap (held_series c.args.kept.now.rows) rows ∙ held_whole c.args.kept.now.rows in
    let moment : to_z w64 (of_z w64 c.args.moment) ≡ c.args.moment = search rules in
    let grid : c.grid_of-grid.result ≡ grid_of typed c.args.moment = c.grid_of-grid.ensures.grid ∙ ap (grid_of typed)
    moment in
    record {
      answer =
          let source = c.args.kept.now.rows in
          let held : series ++ [] ≡ points_by_series source = append-nil series ∙ whole in
          let over : TellsOver c.new-meter.result.limit (0 + load_of (grid_of typed c.args.moment) tree source)
          c.in_err-rows.field-0.0 =
          subst (λ (n : ℕ). TellsOver c.new-meter.result.limit (n + load_of (grid_of typed c.args.moment) tree source)
          c.in_err-rows.field-0.0) c.new-meter.ensures.none
          (subst (λ (g : Grid). TellsOver c.new-meter.result.limit (c.new-meter.result.load + load_of g tree source)
          c.in_err-rows.field-0.0) grid (c.in_err-rows.ensures.over source held)) in
          let fact : IsRefusedBy typed source c.args.moment c.args.limit c.in_err-rows.field-0.0 =
          is_refused typed source c.args.moment c.args.limit c.in_err-rows.field-0.0 c.new-meter.result.limit
          c.new-meter.ensures.limit over in
          search rules;
    }

pub returns : goal.returns
returns c =
    let typed = typed_tree c.args.typed.now in
    let tree = node_tree c.args.typed.now.tree in
    let series = held_series c.args.kept.now.rows c.args.kept.now.kept in
    let rows : c.args.kept.now.kept ≡ c.args.kept.now.rows = ap (λ (slot : SlotView). slot.kept) c.requires.whole in
    let whole : series ≡ points_by_series c.args.kept.now.rows =
    ap (held_series c.args.kept.now.rows) rows ∙ held_whole c.args.kept.now.rows in
    let moment : to_z w64 (of_z w64 c.args.moment) ≡ c.args.moment = search rules in
    let grid : c.grid_of-grid.result ≡ grid_of typed c.args.moment = c.grid_of-grid.ensures.grid ∙ ap (grid_of typed)
    moment in
    let columns : c.deref.result.now ≡ columns_of tree =
    c.deref.ensures ∙ ap (λ (i : NodeInfo). i.columns) c.info.ensures.info in
    let is : c.in_ok-table_of.field-0 ≡ record { columns = columns_of tree; rows = c.in_ok-rows.rows } =
    c.in_ok-table_of.ensures.table ∙ ap (λ (cs : List Column). record { columns = cs; rows = c.in_ok-rows.rows })
    columns in
    record {
      answer =
          let source = c.args.kept.now.rows in
          let held : series ++ [] ≡ points_by_series source = append-nil series ∙ whole in
          let same : IsPermutation (rows_meant (grid_of typed c.args.moment) tree source) c.in_ok-rows.rows =
          subst (λ (g : Grid). IsPermutation (rows_meant g tree source) c.in_ok-rows.rows) grid
          (c.in_ok-rows.ensures.rows source held) in
          let counted : c.part_by_series.new.meter.load ≡ 0 + load_of (grid_of typed c.args.moment) tree source =
          c.in_ok-rows.ensures.counted source held
          ∙ ap (λ (n : ℕ). n + load_of c.grid_of-grid.result tree source) c.new-meter.ensures.none
          ∙ ap (λ (g : Grid). 0 + load_of g tree source) grid in
          is_meant typed source c.args.moment c.args.limit c.in_ok-table_of.field-0 c.in_ok-rows.rows
          c.part_by_series.new.meter.load
          c.part_by_series.new.meter.limit is same counted c.part_by_series.new.meter.within
          (c.in_ok-rows.ensures.limit ∙ c.new-meter.ensures.limit);
    }
