use Rattle.mql_parse.specs.Outcomes.{rest_of}
use Rattle.mql_parse.proofs.Loops.{loop_goes_on, loop_is_shorter, loop_ends, loop_refused}
use Rattle.mql_parse.specs.PipeReading.{pipe, branch_turn}
use Rattle.mql_parse.specs.Views.{vec_trees}
use Rattle.mql_parse.proofs.PipeSound.{branch_turn_behind}
use Rattle.mql_parse.proofs.pipes.+pipes.Goals as goal

pub further_branches-branches-preserved : goal.further_branches-branches-preserved
further_branches-branches-preserved t c =
    let w = c.in-Ok-Again in
    loop_goes_on (branch_turn (pipe c.args.levels)) (branch_turn_behind c.args.levels) (vec_trees c.branches.pipes)
    (vec_trees w.whole) (rest_of c.branches.from) (rest_of w.rest) _ (rw w.field-0-is at w.ensures.turn)
    c.branches.invariant

pub further_branches-branches-smaller : goal.further_branches-branches-smaller
further_branches-branches-smaller t c =
    let w = c.in-Ok-Again in
    loop_is_shorter (branch_turn (pipe c.args.levels)) (branch_turn_behind c.args.levels) (vec_trees c.branches.pipes)
    (vec_trees w.whole) (rest_of c.branches.from) (rest_of w.rest) (rw w.field-0-is at w.ensures.turn)

pub further_branches-returns-in-Ok-Done : goal.further_branches-returns-in-Ok-Done
further_branches-returns-in-Ok-Done t c =
    let w = c.in-Ok-Done in
    record {
      read = loop_ends (branch_turn (pipe c.args.levels)) (vec_trees c.branches.pipes) (vec_trees w.whole)
          (rest_of c.branches.from) (rest_of w.rest) _ (rw w.field-0-is at w.ensures.turn) c.branches.invariant;
    }

pub further_branches-returns-in-Err : goal.further_branches-returns-in-Err
further_branches-returns-in-Err t c = record {
  read = loop_refused vec_trees (branch_turn (pipe c.args.levels))
      (vec_trees c.branches.pipes) (rest_of c.branches.from) _ c.in-Err.refusal c.in-Err.ensures.turn
      c.branches.invariant;
}
