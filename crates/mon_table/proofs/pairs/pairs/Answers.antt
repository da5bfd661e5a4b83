use Rattle.std.proofs.Common.{◌+◌, ◌++◌, ◌∙◌, ap, drop}
use Rattle.std.specs.List.{flat_map}
use Rattle.mon_table.proofs.JoinRoomLemmas.{rows_more}
use Rattle.mon_table.specs.RightSides.{left_pairs}
use Rattle.mon_table.proofs.pairs.pairs.Goals as goal

pub loop-left-preserved : goal.loop-left-preserved
loop-left-preserved c =
    let pairs = left_pairs c.args.right_rows.now in
    let loop = c.loop-left in
    ap (λ rows. rows ++ flat_map pairs (drop (loop.left-index + 1) c.args.lefts.now)) c.in_ok-add_left.ensures.added
    ∙ rows_more pairs c.args.lefts.now loop.left-index c.left-item.result c.loop-left-test.true c.left-item.is
    loop.rows loop.invariant
