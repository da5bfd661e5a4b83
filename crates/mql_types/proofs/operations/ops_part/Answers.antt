use Rattle.std.proofs.Common.{◌≡◌, ◌∙◌, ◌+◌, ◌∷◌, List, drop, map, ap, sym, arith}
use Rattle.std.proofs.lemmas.List.{drop_more}
use Rattle.mql_ast.specs.declared.operations.Op.{Op}
use Rattle.mql_ast.specs.Trees.{deed_tree, op_tree}
use Rattle.typed_trees.specs.Faults.{first_with}
use Rattle.mql_types.specs.PartViews.{part_view}
use Rattle.typed_trees.specs.Typing.{Part, deed_faults, deed_part, ops_faults, ops_part}
use Rattle.typed_columns.proofs.FaultLemmas.{first_with-append}
use Rattle.mql_types.proofs.operations.ops_part.Goals as goal

pub loop-op-preserved : goal.loop-op-preserved
loop-op-preserved c =
    let h = c.args.setting.schemas.now in
    let e = c.args.setting.every in
    let ops = c.args.ops.now in
    let op : Op = c.op-item.result in
    let i = c.loop-op.op-index in
    let rest = map op_tree (drop (i + 1) ops) in
    let part = part_view c.loop-op.made in
    let found = c.loop-op.found.first in
    let next : drop i ops ≡ op ∷ drop (i + 1) ops =
    drop_more ops i op (omega (arith, c.loop-op-test.true))
    ∙ ap (λ (x : Op). x ∷ drop (i + 1) ops) (sym c.op-item.is) in
    let after = deed_part h e part op.at (deed_tree op.what) in
    record {
      part = ap (λ (p : Part). ops_part h e p rest) c.in_ok-made.ensures.part
          ∙ sym (ap (λ (os : List Op). ops_part h e part (map op_tree os)) next)
          ∙ c.loop-op.invariant.part;
      faults = ap (λ (p : Part). first_with c.op_part.new.found.first (ops_faults h e p rest)) c.in_ok-made.ensures.part
          ∙ ap (λ first. first_with first (ops_faults h e after rest)) c.in_ok-made.ensures.faults
          ∙ sym (first_with-append found (deed_faults e part op.at (deed_tree op.what)) (ops_faults h e after rest))
          ∙ sym (ap (λ (os : List Op). first_with found (ops_faults h e part (map op_tree os))) next)
          ∙ c.loop-op.invariant.faults;
    }
