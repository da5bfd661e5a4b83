use Rattle.std.proofs.Common.{◌≡◌, ◌≤◌, ◌/◌, ℕ, List, Some, None, false, refl, subst, sym, ap, ◌∙◌, slice_get, length}
use Rattle.std.proofs.lemmas.Option.{slice_get_read, slice_get_past}
use Rattle.insertion_map.specs.declared.tree.Node.{Node}
use Rattle.insertion_map.specs.Tree.{hashes_of, below, IsTree}
use Rattle.insertion_map.proofs.TreeLemmas.{AreBelow, AreBelow-root, AreBelow-child, all_missed, missed_outside}
use Rattle.insertion_map.proofs.tree.HashTree.find.Goals.{else-node-hash-via-then-node-hash+else-test}
use Rattle.insertion_map.proofs.tree.HashTree.find.Goals.{else-node-hash-via-else-node-hash}
use Rattle.insertion_map.proofs.tree.HashTree.find.Goals as goal

pub loop-node-init : goal.loop-node-init
loop-node-init g c =
    let nodes : List Node = c.as_slice-nodes.result.now in
    AreBelow-root (λ i. goal.F-post g c.args.test i false) nodes c.args.hash
    (subst IsTree (sym c.as_slice-nodes.ensures.value) c.self.invariant)

pub returns-then-next-place-clause-absent : goal.returns-then-next-place-clause-absent
returns-then-next-place-clause-absent g c =
    let nodes : List Node = c.as_slice-nodes.result.now in
    let node : Node = c.in-Some.node.now in
    let place : ℕ = c.loop-node.place in
    let lookup = c.in-Some.ensures.lookup in
    let at : slice_get nodes place ≡ Some node =
    slice_get_read nodes (length nodes) place node refl lookup.3.0 (lookup.3.1 node) in
    let missed : node.hash ≡ c.args.hash → goal.F-post g c.args.test place false =
    elim c.else-node-hash.branch [
      | else-node-hash-via-then-node-hash+else-test w ↦
          λ same. subst (goal.F-post g c.args.test place) w.if-test.false w.test.ensures
      | else-node-hash-via-else-node-hash w ↦ λ same. absurd (w.if-node-hash.false same)
    ]
    in
    let last : below node c.loop-node.bits ≤ place =
    subst (λ n. n ≤ place) c.below-next.ensures c.if-next-place.true in
    let all =
    all_missed (λ i. goal.F-post g c.args.test i false) nodes c.args.hash place c.loop-node.bits node at missed last
    c.loop-node.invariant in
    λ i e. all i (ap (λ l. slice_get (hashes_of l) i) c.as_slice-nodes.ensures.value
    ∙ ap (λ t. slice_get t.0 i) c.self.view_is ∙ e)

pub loop-node-preserved : goal.loop-node-preserved
loop-node-preserved g c =
    let nodes : List Node = c.as_slice-nodes.result.now in
    let node : Node = c.in-Some.node.now in
    let place : ℕ = c.loop-node.place in
    let lookup = c.in-Some.ensures.lookup in
    let at : slice_get nodes place ≡ Some node =
    slice_get_read nodes (length nodes) place node refl lookup.3.0 (lookup.3.1 node) in
    let missed : node.hash ≡ c.args.hash → goal.F-post g c.args.test place false =
    elim c.else-node-hash.branch [
      | else-node-hash-via-then-node-hash+else-test w ↦
          λ same. subst (goal.F-post g c.args.test place) w.if-test.false w.test.ensures
      | else-node-hash-via-else-node-hash w ↦ λ same. absurd (w.if-node-hash.false same)
    ]
    in
    subst (λ n. AreBelow (λ i. goal.F-post g c.args.test i false) nodes c.args.hash n (c.loop-node.bits / 2))
    (sym c.below-next.ensures)
    (AreBelow-child (λ i. goal.F-post g c.args.test i false) nodes c.args.hash place c.loop-node.bits node at missed
    c.loop-node.invariant)

pub returns-clause-absent : goal.returns-clause-absent
returns-clause-absent g c =
    let nodes : List Node = c.as_slice-nodes.result.now in
    let place : ℕ = c.loop-node.place in
    let none : slice_get nodes place ≡ None = slice_get_past nodes place c.in_default.ensures.lookup.3 in
    let all =
    missed_outside (λ i. goal.F-post g c.args.test i false) nodes c.args.hash place c.loop-node.bits none
    c.loop-node.invariant in
    λ i e. all i (ap (λ l. slice_get (hashes_of l) i) c.as_slice-nodes.ensures.value
    ∙ ap (λ t. slice_get t.0 i) c.self.view_is ∙ e)
