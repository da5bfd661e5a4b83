use Rattle.std.proofs.Common.{◌∙◌, ◌++◌, ◌∷◌, ℕ, List, [], ap, map, sym, arith}
use Rattle.std.proofs.lemmas.List.FromFn.{map-range_with_len_more}
use Rattle.std.specs.List.{range_with_len}
use Rattle.mon_value.specs.declared.positions.RangeSlot.{RangeSlot}
use Rattle.query_traces.specs.Rounds.{leaf_at, slots_on}
use Rattle.query_traces.proofs.rounds.no_slots.Goals as goal

pub loop-leaf-preserved : goal.loop-leaf-preserved
loop-leaf-preserved c =
    let f : ℕ → List RangeSlot = λ place. slots_on (leaf_at c.args.area place) [] in
    c.in_ok-push.ensures.items
    ∙ ap (λ (slots : List (List RangeSlot)). slots ++ c.new.result ∷ []) c.loop-leaf.invariant
    ∙ ap (λ (slots : List RangeSlot). map f (range_with_len 0 c.loop-leaf._leaf) ++ slots ∷ []) c.new.ensures.empty
    ∙ sym (map-range_with_len_more f 0 c.loop-leaf._leaf c.loop-leaf._leaf (omega arith))
