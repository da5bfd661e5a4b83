use Rattle.std.proofs.Common.{◌≡◌, ◌≤◌, ◌<◌, ◌/◌, length, subst, sym, arith, get_or, slice_get, Some}
use Rattle.std.proofs.lemmas.Option.{slice_get-get_or}
use Rattle.insertion_map.specs.declared.tree.Node.{Node}
use Rattle.insertion_map.specs.Tree.{here, Leads}
use Rattle.insertion_map.proofs.TreeLemmas.{one_further}
use Rattle.insertion_map.proofs.tree.end_of_path.Goals as goal

pub loop-place-init : goal.loop-place-init
loop-place-init c = (c.requires.some, here)

pub returns-then-next-place : goal.returns-then-next-place
returns-then-next-place c =
    let node : Node = get_or c.args.nodes.now c.loop-place.place record { hash = 0; even = 0; odd = 0 } in
    let at : slice_get c.args.nodes.now c.loop-place.place ≡ Some node =
    slice_get-get_or c.args.nodes.now c.loop-place.place _ c.loop-place.invariant.0 in
    let last = subst (λ n. n ≤ c.loop-place.place) c.below-next.ensures c.if-next-place.true in
    record { path = c.loop-place.invariant.1; last = (node, at, last) }

pub loop-place-preserved : goal.loop-place-preserved
loop-place-preserved c =
    let node : Node = get_or c.args.nodes.now c.loop-place.place record { hash = 0; even = 0; odd = 0 } in
    let at : slice_get c.args.nodes.now c.loop-place.place ≡ Some node =
    slice_get-get_or c.args.nodes.now c.loop-place.place _ c.loop-place.invariant.0 in
    let next : c.loop-place.place < c.below-next.result = omega (arith, c.if-next-place.false) in
    let above = subst (λ n. c.loop-place.place < n) c.below-next.ensures next in
    let path =
    one_further c.args.nodes.now 0 c.args.hash c.loop-place.place c.loop-place.bits node
    c.loop-place.invariant.1 at above in
    let there = c.requires.tree.there c.loop-place.place node c.loop-place.bits at in (
      subst (λ n. n < length c.args.nodes.now) (sym c.below-next.ensures) there,
      subst (λ n. Leads c.args.nodes.now 0 c.args.hash n (c.loop-place.bits / 2)) (sym c.below-next.ensures) path,
    )
