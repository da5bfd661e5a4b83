-- What is left goes on what was read so far to the same whole.
use Rattle.std.proofs.Common.{◌≡◌, ◌+◌, ◌*◌, length}
use Rattle.mql_parse.specs.Outcomes.{rest_of}
use Rattle.mql_parse.specs.Repeats.{repetition}
use Rattle.mql_parse.specs.PipeReading.{pipe, branch_turn}
use Rattle.mql_parse.specs.Views.{vec_trees}
use Rattle.mql_parse.proofs.pipes.+pipes.Given as goal

abbrev pub invariant-further_branches-branches : goal.invariant-further_branches-branches
invariant-further_branches-branches l = repetition (branch_turn (pipe l.levels)) (vec_trees l.pipes) (rest_of l.from)
    ≡ repetition (branch_turn (pipe l.fn.levels)) (vec_trees l.fn.first) (rest_of l.fn.from)

abbrev pub decreases-further_branches-branches : goal.decreases-further_branches-branches
decreases-further_branches-branches l = length l.from.bytes.now

abbrev pub decreases-group : goal.decreases-group
decreases-group l = 6 * l.levels + 0

abbrev pub decreases-source : goal.decreases-source
decreases-source l = 6 * l.levels + 1

abbrev pub decreases-pipe : goal.decreases-pipe
decreases-pipe l = 6 * l.levels + 2

abbrev pub decreases-further_branch : goal.decreases-further_branch
decreases-further_branch l = 6 * l.levels + 3

abbrev pub decreases-further_branches : goal.decreases-further_branches
decreases-further_branches l = 6 * l.levels + 4

abbrev pub decreases-branches : goal.decreases-branches
decreases-branches l = 6 * l.levels + 5
