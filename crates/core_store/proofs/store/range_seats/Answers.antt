use Rattle.std.proofs.Common.{◌≡◌, ◌∙◌, ◌++◌, ◌∷◌, [], List, ap, append_assoc, map, sym, rules}
use Rattle.std.specs.Vec.Iter.{into_iter_items}
use Rattle.core_store.specs.Openings.{range_seat}
use Rattle.core_store.specs.declared.ranges.RangeSeat.{RangeSeat}
use Rattle.write_core.specs.Replays.{Replay}
use Rattle.core_store.proofs.store.range_seats.Goals as goal

pub loop-state-init : goal.loop-state-init
loop-state-init c =
    let items : into_iter_items c.into_iter-state-iterator.result ≡ c.args.states.items = search rules in
    let none : c.in_ok-seats.seats.items ≡ [] = search rules in
    record {
      seats = (λ i. none i ++ map (range_seat c.args.sight.now) (items i));
      left = search rules;
    }

pub loop-state-preserved : goal.loop-state-preserved
loop-state-preserved c =
    let made = c.loop-state.seats.items in
    let state = c.in-Some.state in
    let rest = into_iter_items c.next.new.self in
    let next : into_iter_items c.loop-state.state-iterator ≡ state ∷ rest = c.in-Some.ensures.steps.0 in
    record {
      seats = ap (λ (l : List RangeSeat). l ++ map (range_seat c.args.sight.now) rest)
          (c.in_ok-push.ensures.items ∙ ap (λ (seat : RangeSeat). made ++ seat ∷ []) c.in_ok-seat.ensures.seat)
          ∙ append_assoc made (range_seat c.args.sight.now state ∷ []) (map (range_seat c.args.sight.now) rest)
          ∙ ap (λ (l : List Replay). made ++ map (range_seat c.args.sight.now) l) (sym next)
          ∙ c.loop-state.invariant.seats;
      left = search rules;
    }
