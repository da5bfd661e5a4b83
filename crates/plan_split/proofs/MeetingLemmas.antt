-- Children that words let in, one after another.
use Rattle.std.proofs.Common.{◌≡◌, ◌∙◌, ℕ, ◌+◌, ◌<◌, Bool, List, [], ◌∷◌, ◌++◌, ap, arith, map, sym}
use Rattle.std.proofs.lemmas.List.FromFn.{map-range_with_len_more}
use Rattle.std.specs.List.{range_with_len}
use Rattle.mon_hints.specs.Hints.{IsMask, has_bit}
use Rattle.typed_trees.specs.declared.plans.Plan.{Plan}
use Rattle.plan_split.specs.Meeting.{lets_child_in}

pub flags_more : (plan : Plan) (words : List ℕ) (mask child : ℕ) → IsMask mask (lets_child_in plan words) → child < 64
    → map (lets_child_in plan words) (range_with_len 0 child) ++ has_bit mask child ∷ []
    ≡ map (lets_child_in plan words) (range_with_len 0 (child + 1))
flags_more plan words mask child is within =
    ap (λ (flag : Bool). map (lets_child_in plan words) (range_with_len 0 child) ++ flag ∷ []) (is child within)
    ∙ sym (map-range_with_len_more (lets_child_in plan words) 0 child child (omega arith))
