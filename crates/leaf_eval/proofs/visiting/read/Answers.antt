use Rattle.std.proofs.Common.{rules, ◌≡◌, List, subst, sym}
use Rattle.leaf_eval.proofs.ReadableSlots.{readable_apart}
use Rattle.leaf_eval.proofs.visiting.read.Goals as goal
use Rattle.leaf_eval.specs.Replicas.{AreReplicasApart}
use Rattle.mon_value.specs.declared.histories.Entry.{Entry}
use Rattle.typed_trees.specs.Nodes.{typed_tree}

pub eval_leaf-requires-clause-apart : goal.eval_leaf-requires-clause-apart
eval_leaf-requires-clause-apart c =
    let slots = c.args.slots.now in
    let history : c.settle.new.self.history ≡ c.args.state.now.history = search rules in
    subst (λ (history : List Entry). AreReplicasApart history slots) (sym history)
    (readable_apart (typed_tree c.args.plan.now.typed) c.args.state.now.history slots c.requires.readable)
