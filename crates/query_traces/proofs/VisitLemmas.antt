-- The next leaf of several that are to be visited.
use Rattle.std.proofs.Common.{◌≡◌, ℕ, zero, suc, ◌+◌, ◌≤◌, List, [], ◌∷◌, drop, length, refl, sym}
use Rattle.std.proofs.Common.{ap, ◌∙◌, arith, None, slice_get}
use Rattle.std.proofs.lemmas.List.{drop_all}
use Rattle.mon_value.specs.declared.positions.Leaf.{Leaf}
use Rattle.query_traces.specs.Visits.{but_first, first_left}

pub leaf_next : (leaves : List Leaf) (i : ℕ) → first_left (drop i leaves) ≡ slice_get leaves i
leaf_next [] zero = refl
leaf_next [] (suc i) = refl
leaf_next (leaf ∷ leaves) zero = refl
leaf_next (leaf ∷ leaves) (suc i) = leaf_next leaves i

pub leaves_left : (leaves : List Leaf) (i : ℕ) → but_first (drop i leaves) ≡ drop (i + 1) leaves
leaves_left [] zero = refl
leaves_left [] (suc i) = sym (drop_all (suc i + 1) [] (omega arith))
leaves_left (leaf ∷ leaves) zero = refl
leaves_left (leaf ∷ leaves) (suc i) =
    let same : suc (i + 1) ≡ suc i + 1 = omega arith in
    leaves_left leaves i ∙ ap (λ n. drop n (leaf ∷ leaves)) same

pub none_left : (leaves : List Leaf) (i : ℕ) → length leaves ≤ i → but_first (drop i leaves) ≡ drop i leaves
none_left leaves i done =
    let none : drop i leaves ≡ [] = drop_all i leaves done in
    ap but_first none ∙ sym none

pub no_leaf_left : (leaves : List Leaf) (i : ℕ) → length leaves ≤ i → first_left (drop i leaves) ≡ None
no_leaf_left leaves i done = ap first_left (drop_all i leaves done)

pub ruleset going_on = (leaf_next, leaves_left, none_left, no_leaf_left)
