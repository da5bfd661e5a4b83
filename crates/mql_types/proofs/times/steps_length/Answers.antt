use Rattle.std.proofs.Common.{◌≡◌, ◌∙◌, ◌+◌, ◌∷◌, List, drop, map, ap, sym, arith}
use Rattle.std.proofs.lemmas.List.{drop_more}
use Rattle.mql_ast.specs.declared.operations.Op.{Op}
use Rattle.mql_ast.specs.Trees.{op_tree}
use Rattle.mql_types.proofs.StepLemmas.{length_behind, length_behind-step}
use Rattle.mql_types.proofs.times.steps_length.Goals as goal

pub loop-place-preserved : goal.loop-place-preserved
loop-place-preserved c =
    let ops = c.args.ops.now in
    let op : Op = c.index-ops-place.result in
    let i = c.loop-place.place in
    let next : drop i ops ≡ op ∷ drop (i + 1) ops =
    drop_more ops i op (omega (arith, c.loop-place-test.true))
    ∙ ap (λ (o : Op). o ∷ drop (i + 1) ops) (sym c.index-ops-place.is) in
    ap (λ steps. length_behind steps (i + 1) (map op_tree (drop (i + 1) ops))) c.length_with-steps.ensures.length
    ∙ length_behind-step c.loop-place.steps i (op_tree op) (map op_tree (drop (i + 1) ops))
    ∙ sym (ap (λ (os : List Op). length_behind c.loop-place.steps i (map op_tree os)) next)
    ∙ c.loop-place.invariant
