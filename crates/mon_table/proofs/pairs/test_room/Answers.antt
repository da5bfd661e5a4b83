use Rattle.std.proofs.Common.{arith, length}
use Rattle.std.specs.List.{flat_map}
use Rattle.mon_table.proofs.JoinRoomLemmas.{next_count, over_room-more}
use Rattle.mon_table.specs.RightSides.{left_pairs}
use Rattle.mon_table.proofs.pairs.test_room.Goals as goal

pub loop-left-preserved : goal.loop-left-preserved
loop-left-preserved c =
    let pairs = left_pairs c.args.right_rows.now in
    let loop = c.loop-left in
    omega (
      arith,
      next_count pairs c.args.lefts.now loop.left-index c.left-item.result c.loop-left-test.true
          c.left-item.is,
      loop.invariant,
      c.in_ok-count.ensures.count,
    )

pub returns-then-count-free : goal.returns-then-count-free
returns-then-count-free c =
    let pairs = left_pairs c.args.right_rows.now in
    let loop = c.loop-left in
    record {
      answers = over_room-more c.args.room (length (flat_map pairs c.args.lefts.now))
          (omega (
            arith,
            next_count pairs c.args.lefts.now loop.left-index c.left-item.result c.loop-left-test.true
                c.left-item.is,
            loop.invariant,
            c.in_ok-count.ensures.count,
            c.if-count-free.true,
          ));
    }
