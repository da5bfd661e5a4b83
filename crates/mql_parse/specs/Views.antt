-- What was read, apart from where it lies in memory.
use Rattle.std.specs.Prelude.{Bool, List, map}
use Rattle.std.specs.declared.alloc.Global.{Global}
use Rattle.std.specs.declared.vec.Vec.{Vec}
use Rattle.mql_ast.specs.declared.operations.Item.{Item}
use Rattle.mql_ast.specs.declared.operations.Op.{Op}
use Rattle.mql_ast.specs.declared.pipes.Pipe.{Pipe}
use Rattle.mql_ast.specs.Trees.{sum_tree, ItemTree, item_tree, PredicateTree, predicate_tree, OpTree, op_tree}
use Rattle.mql_ast.specs.Trees.{PipeTree, pipe_tree}
use Rattle.mql_parse.specs.declared.sums.SumRead.{SumRead}
use Rattle.mql_parse.specs.declared.filters.FilterRead.{FilterRead}
use Rattle.mql_parse.specs.declared.operations.OpRead.{OpRead}
use Rattle.mql_parse.specs.declared.pipes.OpsRead.{OpsRead}
use Rattle.mql_parse.specs.SumReading.{SumSeen, as_sum_seen}

abbrev pub sum_seen : SumRead → SumSeen
sum_seen read = as_sum_seen (sum_tree read.sum) read.bare

abbrev pub item_trees : List Item → List ItemTree
item_trees items = map item_tree items

abbrev pub filter_seen : FilterRead → PredicateTree × Bool
filter_seen read = (predicate_tree read.predicate, read.bar)

abbrev pub op_seen : OpRead → OpTree × Bool
op_seen read = (op_tree read.op, read.bar)

abbrev pub ops_seen : OpsRead → List OpTree × Bool
ops_seen read = (map op_tree read.ops, read.bar)

abbrev pub op_trees : List Op → List OpTree
op_trees ops = map op_tree ops

abbrev pub vec_trees : Vec Pipe Global → List PipeTree
vec_trees pipes = map pipe_tree pipes.items
