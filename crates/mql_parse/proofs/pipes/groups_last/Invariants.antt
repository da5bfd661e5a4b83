-- What is left decides as the whole does.
use Rattle.std.proofs.Common.{◌≡◌, false, drop}
use Rattle.mql_parse.specs.PipeReading.{last_groups}
use Rattle.mql_parse.specs.Views.{op_trees}
use Rattle.mql_parse.proofs.pipes.groups_last.Given as goal

abbrev pub invariant-loop-op : goal.invariant-loop-op
invariant-loop-op l = last_groups l.groups (op_trees (drop l.op-index l.ops)) ≡ last_groups false (op_trees l.fn.ops)
