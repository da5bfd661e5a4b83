use Rattle.std.proofs.Common.{◌≡◌, ◌∙◌, ◌+◌, ◌∷◌, ◌||◌, nat_lt, List, drop, map, ap, sym, arith}
use Rattle.std.proofs.lemmas.List.{drop_more}
use Rattle.mql_ast.specs.declared.operations.Op.{Op}
use Rattle.mql_ast.specs.Trees.{op_tree}
use Rattle.typed_trees.specs.Faults.{first_with}
use Rattle.typed_trees.specs.Times.{order_faults}
use Rattle.mql_types.proofs.StepLemmas.{have_steps-drop, order_step}
use Rattle.mql_types.proofs.times.tell_order.Goals as goal

pub loop-place-preserved : goal.loop-place-preserved
loop-place-preserved c =
    let ops = c.args.ops.now in
    let op : Op = c.index-ops-place.result in
    let i = c.loop-place.place in
    let stood = c.loop-place.stood in
    let next : drop i ops ≡ op ∷ drop (i + 1) ops =
    drop_more ops i op (omega (arith, c.loop-place-test.true))
    ∙ ap (λ (o : Op). o ∷ drop (i + 1) ops) (sym c.index-ops-place.is) in
    order_step c.args.branch stood.every stood.within c.is_misplaced.result c.tell_op.new.self.every
    c.tell_op.new.self.within
    (op_tree op) (map op_tree (drop (i + 1) ops)) c.loop-place.found.first c.tell_op.new.found.first
    (c.is_misplaced.ensures.misplaced
    ∙ ap (λ n. c.args.branch || nat_lt (i + 1) n) c.steps_length-steps.ensures.length
    ∙ sym (ap (λ b. c.args.branch || b) (have_steps-drop (i + 1) ops)))
    c.tell_op.ensures.every c.tell_op.ensures.within c.tell_op.ensures.faults
    ∙ sym (ap (λ (os : List Op). first_with c.loop-place.found.first
    (order_faults c.args.branch stood.every stood.within (map op_tree os))) next)
    ∙ c.loop-place.invariant
