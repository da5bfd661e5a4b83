use Rattle.mql_parse.specs.Outcomes.{rest_of}
use Rattle.mql_parse.proofs.Loops.{loop_goes_on, loop_is_shorter, loop_ends, loop_refused}
use Rattle.mql_parse.specs.declared.faults.What.TheVariants as what
use Rattle.mql_parse.specs.SumReading.{sum, item_with, items_with_sum}
use Rattle.mql_parse.specs.Views.{item_trees}
use Rattle.mql_parse.specs.Repeats.{list_turn}
use Rattle.mql_parse.proofs.ListSound.{items_turn_behind}
use Rattle.mql_parse.proofs.items.items.Goals as goal

pub items-preserved : goal.items-preserved
items-preserved c =
    let w = c.in-Ok-Again in
    loop_goes_on (list_turn 93 what.CloseBracket (item_with (sum c.args.levels))) (items_turn_behind c.args.levels)
    (item_trees c.items.items) (item_trees w.whole) (rest_of c.items.from) (rest_of w.rest)
    _ (rw w.field-0-is at w.ensures.turn) c.items.invariant

pub items-smaller : goal.items-smaller
items-smaller c =
    let w = c.in-Ok-Again in
    loop_is_shorter (list_turn 93 what.CloseBracket (item_with (sum c.args.levels))) (items_turn_behind c.args.levels)
    (item_trees c.items.items) (item_trees w.whole) (rest_of c.items.from) (rest_of w.rest)
    (rw w.field-0-is at w.ensures.turn)

pub returns-in-Ok-Done : goal.returns-in-Ok-Done
unfolding items_with_sum
returns-in-Ok-Done c =
    let w = c.in-Ok-Done in
    record {
      read = loop_ends (list_turn 93 what.CloseBracket (item_with (sum c.args.levels)))
          (item_trees c.items.items) (item_trees w.whole) (rest_of c.items.from) (rest_of w.rest)
          _ (rw w.field-0-is at w.ensures.turn) c.items.invariant;
    }

pub returns-in-Err : goal.returns-in-Err
unfolding items_with_sum
returns-in-Err c = record {
  read = loop_refused item_trees (list_turn 93 what.CloseBracket
      (item_with (sum c.args.levels))) (item_trees c.items.items) (rest_of c.items.from) _ c.in-Err.refusal
      c.in-Err.ensures.turn c.items.invariant;
}
