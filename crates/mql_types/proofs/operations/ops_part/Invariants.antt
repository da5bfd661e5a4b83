-- The part so far, with the operations that are left.
use Rattle.std.proofs.Common.{◌≡◌, map, drop}
use Rattle.mql_ast.specs.Trees.{op_tree}
use Rattle.typed_trees.specs.Faults.{first_with}
use Rattle.mql_types.specs.PartViews.{part_view}
use Rattle.typed_trees.specs.Typing.{ops_faults, ops_part}
use Rattle.mql_types.proofs.operations.ops_part.Given as goal

abbrev pub invariant-loop-op : goal.invariant-loop-op
invariant-loop-op l = record {
  part : ops_part l.setting.schemas.now l.setting.every (part_view l.made) (map op_tree (drop l.op-index l.ops))
      ≡ ops_part l.setting.schemas.now l.setting.every (part_view l.fn.part) (map op_tree l.ops);
  faults : first_with l.found.first
      (ops_faults l.setting.schemas.now l.setting.every (part_view l.made) (map op_tree (drop l.op-index l.ops)))
      ≡ first_with l.fn.found.first
      (ops_faults l.setting.schemas.now l.setting.every (part_view l.fn.part) (map op_tree l.ops));
}
