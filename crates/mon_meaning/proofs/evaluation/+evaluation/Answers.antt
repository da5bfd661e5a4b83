use Rattle.std.proofs.Common.{◌≡◌, ◌∙◌, ◌≤◌, ◌<◌, ◌+◌, ◌*◌, ◌++◌, ◌∷◌, [], ℕ, List, Bor, IfErr, OnOk, refl, sym, ap}
use Rattle.std.proofs.Common.{subst, rules, arith}
use Rattle.std.proofs.lemmas.Result.{IfOk-weaker}
use Rattle.std.proofs.lemmas.List.{map-append}
use Rattle.mon_value.specs.declared.tables.TimedRow.{TimedRow}
use Rattle.typed_trees.specs.Nodes.{NodeTree, node_tree}
use Rattle.typed_trees.specs.Soundness.{IsWithinRows}
use Rattle.typed_trees.specs.declared.nodes.Node.{Node}
use Rattle.mon_meaning.specs.Central.{all_held}
use Rattle.mon_meaning.specs.Counts.{TellsOver}
use Rattle.mon_meaning.specs.Operations.{CanOperate}
use Rattle.typed_trees.specs.ExplanationParts.{nodes}
use Rattle.mon_meaning.specs.within.Paths.{first_input, other_load, own_load, trees_of}
use Rattle.mon_meaning.specs.within.Readiness.{IsNodeReady}
use Rattle.mon_meaning.specs.within.SeriesMeaning.{load_by_series, rows_by_series}
use Rattle.mon_meaning.proofs.OperationLemmas.{can_operate}
use Rattle.mon_meaning.proofs.PathLemmas.{ready_below}
use Rattle.mon_meaning.proofs.SameTreeLemmas.{same_load, same_rows}
use Rattle.mon_meaning.proofs.WalkLemmas.{Walk, next_step, source_over, step_over, walk_on}
use Rattle.mon_meaning.proofs.evaluation.+evaluation.Goals as goal

pub rows_above-operation_rows-requires : goal.rows_above-operation_rows-requires
rows_above-operation_rows-requires t c =
    let grid = c.args.setting.now.grid in
    let series = all_held c.args.setting.now.series.now in
    let tree = node_tree c.args.node.now in
    let few : IsWithinRows (load_by_series grid (first_input tree) series) =
    omega (arith, c.requires.counted, c.args.meter.now.within, c.args.meter.now.few) in
    let others_few : IsWithinRows (other_load grid tree series) =
    omega (arith, c.in_ok-others.ensures.counted, c.other_rows.new.meter.within, c.other_rows.new.meter.few) in
    record {
      can = subst (λ (rows : List TimedRow). CanOperate tree rows c.in_ok-others.others) (sym c.requires.rows)
          (subst (λ (others : List TimedRow). CanOperate tree (rows_by_series grid (first_input tree) series) others)
          (sym c.in_ok-others.ensures.rows) (can_operate grid series tree c.requires.ready few others_few));
    }

pub rows_of-source_rows-requires-clause-ready : goal.rows_of-source_rows-requires-clause-ready
rows_of-source_rows-requires-clause-ready t c =
    let path = c.in_ok-above.field-0 in
    ready_below c.args.setting.now.grid (all_held c.args.setting.now.series.now) (trees_of path.above.items)
    (node_tree c.args.tree.now) (node_tree path.source.now) c.in_ok-above.ensures.leads c.requires.ready

pub rows_of-returns-in_err-rows-clause-over : goal.rows_of-returns-in_err-rows-clause-over
rows_of-returns-in_err-rows-clause-over t c =
    let path = c.in_ok-above.field-0 in
    let grid = c.args.setting.now.grid in
    let series = all_held c.args.setting.now.series.now in
    let top = node_tree c.args.tree.now in
    let fact : TellsOver c.args.meter.now.limit (c.args.meter.now.load + load_by_series grid top series)
    c.in_err-rows.field-0.0 =
    source_over grid series top (trees_of path.above.items) (node_tree path.source.now) c.args.meter.now.limit
    c.args.meter.now.load
    c.in_err-rows.field-0.0 c.in_ok-above.ensures.leads c.in_err-rows.ensures.over in
    search rules

pub rows_of-rows_above-requires : goal.rows_of-rows_above-requires
rows_of-rows_above-requires t c =
    let grid = c.args.setting.now.grid in
    let series = all_held c.args.setting.now.series.now in
    let top = node_tree c.args.tree.now in
    let one = node_tree c.in-Some.node.now in
    let left = trees_of c.pop.new.self.items in
    let items : trees_of c.loop-node.above.items ≡ left ++ one ∷ [] =
    ap trees_of c.in-Some.ensures.items ∙ map-append (λ (x : Bor Node). node_tree x.now) c.pop.new.self.items _ in
    let walk = subst (λ (nodes : List NodeTree). Walk grid series top nodes c.loop-node.rows c.args.meter.now.load
    c.loop-node.meter.load)
    items c.loop-node.invariant.walk in
    let step = next_step grid series top left one c.loop-node.rows c.args.meter.now.load c.loop-node.meter.load walk
    c.requires.ready in
    let ready : IsNodeReady grid one series = step.ready in
    let flowing : c.loop-node.rows ≡ rows_by_series grid (first_input one) series = step.flowing in
    let within : load_by_series grid (first_input one) series ≤ c.loop-node.meter.load = step.within in
    let falls : 4 * nodes one + 2 < 4 * nodes top + 3 = omega (arith, step.smaller) in
    search rules

pub rows_of-returns-in_err-rows-2-clause-over : goal.rows_of-returns-in_err-rows-2-clause-over
rows_of-returns-in_err-rows-2-clause-over t c =
    let grid = c.args.setting.now.grid in
    let series = all_held c.args.setting.now.series.now in
    let top = node_tree c.args.tree.now in
    let one = node_tree c.in-Some.node.now in
    let left = trees_of c.pop.new.self.items in
    let items : trees_of c.loop-node.above.items ≡ left ++ one ∷ [] =
    ap trees_of c.in-Some.ensures.items ∙ map-append (λ (x : Bor Node). node_tree x.now) c.pop.new.self.items _ in
    let walk = subst (λ (nodes : List NodeTree). Walk grid series top nodes c.loop-node.rows c.args.meter.now.load
    c.loop-node.meter.load)
    items c.loop-node.invariant.walk in
    let step = next_step grid series top left one c.loop-node.rows c.args.meter.now.load c.loop-node.meter.load walk
    c.requires.ready in
    let told : TellsOver c.args.meter.now.limit (c.loop-node.meter.load + own_load grid one series)
    c.in_err-rows-2.field-0.0 =
    subst (λ (l : ℕ). TellsOver l (c.loop-node.meter.load + own_load grid one series) c.in_err-rows-2.field-0.0)
    c.loop-node.invariant.limit c.in_err-rows-2.ensures.over in
    let fact : TellsOver c.args.meter.now.limit (c.args.meter.now.load + load_by_series grid top series)
    c.in_err-rows-2.field-0.0 =
    step_over grid series top left one c.loop-node.rows c.args.meter.now.limit c.args.meter.now.load
    c.loop-node.meter.load
    c.in_err-rows-2.field-0.0 step told in
    search rules

pub rows_of-loop-node-preserved : goal.rows_of-loop-node-preserved
rows_of-loop-node-preserved t c =
    let grid = c.args.setting.now.grid in
    let series = all_held c.args.setting.now.series.now in
    let top = node_tree c.args.tree.now in
    let one = node_tree c.in-Some.node.now in
    let left = trees_of c.pop.new.self.items in
    let items : trees_of c.loop-node.above.items ≡ left ++ one ∷ [] =
    ap trees_of c.in-Some.ensures.items ∙ map-append (λ (x : Bor Node). node_tree x.now) c.pop.new.self.items _ in
    let walk = subst (λ (nodes : List NodeTree). Walk grid series top nodes c.loop-node.rows c.args.meter.now.load
    c.loop-node.meter.load)
    items c.loop-node.invariant.walk in
    let step = next_step grid series top left one c.loop-node.rows c.args.meter.now.load c.loop-node.meter.load walk
    c.requires.ready in
    record {
      walk = walk_on grid series top left one c.loop-node.rows c.in_ok-rows-2.rows c.args.meter.now.load
          c.loop-node.meter.load
          c.rows_above.new.meter.load step c.in_ok-rows-2.ensures.rows c.in_ok-rows-2.ensures.counted;
      limit = c.in_ok-rows-2.ensures.limit ∙ c.loop-node.invariant.limit;
    }

pub right_rows-returns-then-are_same_tree-clause-rows : goal.right_rows-returns-then-are_same_tree-clause-rows
right_rows-returns-then-are_same_tree-clause-rows t c =
    let same : c.args.rows.now ≡ rows_by_series c.args.setting.now.grid (node_tree c.args.right.now)
    (all_held c.args.setting.now.series.now) =
    c.requires.rows ∙ same_rows c.args.setting.now.grid (all_held c.args.setting.now.series.now)
    (node_tree c.args.left.now) (node_tree c.args.right.now) (c.if-are_same_tree.ensures.same refl) in
    IfOk-weaker c.copied_rows.result _ _ (λ rows is. is ∙ same) c.copied_rows.ensures.rows

pub right_rows-returns-then-are_same_tree-clause-counted : goal.right_rows-returns-then-are_same_tree-clause-counted
right_rows-returns-then-are_same_tree-clause-counted t c =
    let same : c.args.load ≡ load_by_series c.args.setting.now.grid (node_tree c.args.right.now)
    (all_held c.args.setting.now.series.now) =
    c.requires.load ∙ same_load c.args.setting.now.grid (all_held c.args.setting.now.series.now)
    (node_tree c.args.left.now) (node_tree c.args.right.now) (c.if-are_same_tree.ensures.same refl) in
    subst (λ (load : ℕ). OnOk c.copied_rows.result (c.copied_rows.new.meter.load ≡ c.args.meter.now.load + load)) same
    c.copied_rows.ensures.counted

pub right_rows-returns-then-are_same_tree-clause-over : goal.right_rows-returns-then-are_same_tree-clause-over
right_rows-returns-then-are_same_tree-clause-over t c =
    let same : c.args.load ≡ load_by_series c.args.setting.now.grid (node_tree c.args.right.now)
    (all_held c.args.setting.now.series.now) =
    c.requires.load ∙ same_load c.args.setting.now.grid (all_held c.args.setting.now.series.now)
    (node_tree c.args.left.now) (node_tree c.args.right.now) (c.if-are_same_tree.ensures.same refl) in
    subst (λ (load : ℕ). IfErr c.copied_rows.result (TellsOver c.args.meter.now.limit (c.args.meter.now.load + load)))
    same c.copied_rows.ensures.over
