use Rattle.std.proofs.Common.{◌≡◌, ◌∙◌, ◌++◌, ◌∷◌, [], List, ap, length, sym, arith, rules}
use Rattle.std.specs.Vec.Iter.{into_iter_items}
use Rattle.leaf_store.specs.LeafStates.{LeafView}
use Rattle.core_store.specs.Openings.{leaf_seat, leaf_seats}
use Rattle.core_store.specs.declared.leaves.LeafSeat.{LeafSeat}
use Rattle.core_store.proofs.SeatingLemmas.{seats_more, seats_whole}
use Rattle.core_store.proofs.store.leaf_seats.Goals as goal

pub loop-state-init : goal.loop-state-init
loop-state-init c =
    let items : into_iter_items c.into_iter-state-iterator.result ≡ c.args.states.items = search rules in
    let none : c.in_ok-seats.seats.items ≡ [] = search rules in
    let many = ap (λ (l : List LeafView). length l) items in
    let few = ap (λ (l : List LeafSeat). length l) none in
    record {
      seats = (λ i. none i ++ leaf_seats c.args.topology.now c.args.sight.now (length (none i)) (items i));
      left = search rules;
      all = omega (arith, many, few);
    }

pub leaf_seat-requires : goal.leaf_seat-requires
leaf_seat-requires c =
    let next : into_iter_items c.loop-state.state-iterator ≡ c.in-Some.state ∷ into_iter_items c.next.new.self =
    c.in-Some.ensures.steps.0 in
    let long = ap (λ (l : List LeafView). length l) next in
    let all = c.loop-state.invariant.all in
    let many = c.requires.count in
    record { there = search rules }

pub loop-state-preserved : goal.loop-state-preserved
loop-state-preserved c =
    let made = c.loop-state.seats.items in
    let state = c.in-Some.state in
    let rest = into_iter_items c.next.new.self in
    let next : into_iter_items c.loop-state.state-iterator ≡ state ∷ rest = c.in-Some.ensures.steps.0 in
    let is : c.in_ok-seat.seat ≡ leaf_seat c.args.topology.now c.args.sight.now (length made) state = search rules in
    let long = ap (λ (l : List LeafView). length l) next in
    let pushed = ap (λ (l : List LeafSeat). length l) c.in_ok-push.ensures.items in
    record {
      seats = seats_more c.args.topology.now c.args.sight.now made _
          (leaf_seats c.args.topology.now c.args.sight.now 0 c.args.states.items) state rest
          (ap (λ (l : List LeafView). made ++ leaf_seats c.args.topology.now c.args.sight.now (length made) l)
          (sym next)
          ∙ c.loop-state.invariant.seats)
          (c.in_ok-push.ensures.items ∙ ap (λ (seat : LeafSeat). made ++ seat ∷ []) is);
      left = search rules;
      all = search rules;
    }

pub returns : goal.returns
returns c =
    let left = c.loop-state.invariant.left in
    let none = c.in-None.ensures.steps.0 in
    record {
      seats = seats_whole c.args.topology.now c.args.sight.now c.loop-state.seats.items
          (leaf_seats c.args.topology.now c.args.sight.now 0 c.args.states.items)
          (into_iter_items c.loop-state.state-iterator)
          (sym left ∙ none) c.loop-state.invariant.seats;
    }
