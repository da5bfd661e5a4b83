use Rattle.std.proofs.Common.{◌≡◌, ◌∙◌, List, sym, ap, subst}
use Rattle.mon_value.specs.Groups.{CanGroup}
use Rattle.mon_value.specs.declared.tables.Table.{Table}
use Rattle.mon_fold.specs.PartialGroups.{GroupsSoFar, parts_of}
use Rattle.typed_trees.specs.Nodes.{NodeTree, columns_of, node_tree}
use Rattle.typed_trees.specs.declared.nodes.NodeInfo.{NodeInfo}
use Rattle.std.specs.Prelude.{IfOk}
use Rattle.standing_incr.specs.KeptTables.{flowing_rows}
use Rattle.standing_incr.specs.Ways.{CanGoThrough, nodes_above, rows_through}
use Rattle.standing_incr.specs.declared.ways.Stop.TheVariants as stop
use Rattle.standing_incr.proofs.FillLemmas.{parts_told}
use Rattle.standing_incr.proofs.filling.parts_below.Goals as goal

pub rows_through-requires : goal.rows_through-requires
rows_through-requires c =
    let input = node_tree c.args.input.now in
    record {
      can = subst (λ (nodes : List NodeTree). CanGoThrough nodes c.in_ok-copy.field-0) (sym c.in_ok-way.ensures.above)
          (subst (CanGoThrough (nodes_above stop.Alignment input)) (sym c.in_ok-copy.ensures.equal) c.requires.through);
    }

pub group-parts-requires : goal.group-parts-requires
group-parts-requires c =
    let input = node_tree c.args.input.now in
    let columns : c.deref.result.now ≡ columns_of input = c.deref.ensures ∙ ap (λ (i : NodeInfo). i.columns)
    c.info.ensures.info in
    let rows : c.in_ok-rows.rows ≡ flowing_rows input c.args.table.now.rows =
    c.in_ok-rows.ensures.rows
    ∙ (λ i. rows_through (c.in_ok-way.ensures.above i) (c.in_ok-copy.ensures.equal i)) in
    let flowing : c.in_ok-flowing.flowing
    ≡ record { columns = columns_of input; rows = flowing_rows input c.args.table.now.rows } =
    c.in_ok-flowing.ensures.table ∙ (λ i. record { columns = columns i; rows = rows i }) in
    subst (λ (t : Table). CanGroup t.columns c.args.by.now c.args.with.now t.rows) (sym flowing) c.requires.group

pub returns : goal.returns
returns c =
    let input = node_tree c.args.input.now in
    let columns : c.deref.result.now ≡ columns_of input = c.deref.ensures ∙ ap (λ (i : NodeInfo). i.columns)
    c.info.ensures.info in
    let rows : c.in_ok-rows.rows ≡ flowing_rows input c.args.table.now.rows =
    c.in_ok-rows.ensures.rows
    ∙ (λ i. rows_through (c.in_ok-way.ensures.above i) (c.in_ok-copy.ensures.equal i)) in
    let flowing : c.in_ok-flowing.flowing
    ≡ record { columns = columns_of input; rows = flowing_rows input c.args.table.now.rows } =
    c.in_ok-flowing.ensures.table ∙ (λ i. record { columns = columns i; rows = rows i }) in
    record {
      parts = subst (λ (t : Table). IfOk c.group-parts.result (λ (parts : GroupsSoFar). parts
          ≡ parts_of t.columns c.args.by.now c.args.with.now t.rows)) flowing
          (parts_told c.in_ok-flowing.flowing.columns c.args.by.now c.args.with.now c.in_ok-flowing.flowing.rows
          c.group-parts.result c.group-parts.ensures.columns c.group-parts.ensures.kinds c.group-parts.ensures.groups);
    }
