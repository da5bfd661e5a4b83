use Rattle.std.proofs.Common.{◌∙◌, sym}
use Rattle.typed_trees.specs.Nodes.{node_tree}
use Rattle.mon_meaning.proofs.SideLemmas.{alone, can_alone, no_load, one_side}
use Rattle.mon_meaning.proofs.steps.operation_rows.Goals as goal

pub one_sided_rows-requires : goal.one_sided_rows-requires
one_sided_rows-requires c =
    let one = one_side c.args.node.now c.in_default.not-Join c.in_default.not-Union in
    record { one = one; can = can_alone (node_tree c.args.node.now) one c.args.rows c.args.others c.requires.can }

pub returns-in_ok-one_sided_rows-in_default-clause-rows : goal.returns-in_ok-one_sided_rows-in_default-clause-rows
returns-in_ok-one_sided_rows-in_default-clause-rows c =
    let one = one_side c.args.node.now c.in_default.not-Join c.in_default.not-Union in
    c.in_ok-one_sided_rows-in_default.ensures.rows
    ∙ sym (alone (node_tree c.args.node.now) one c.args.rows c.args.others)

pub returns-in_ok-one_sided_rows-in_default-clause-counted : goal.returns-in_ok-one_sided_rows-in_default-clause-counted
returns-in_ok-one_sided_rows-in_default-clause-counted c =
    let one = one_side c.args.node.now c.in_default.not-Join c.in_default.not-Union in
    no_load (node_tree c.args.node.now) one c.args.rows c.args.others c.args.meter.now.load
