-- Which seats there are after one changed or came, and who owns a leaf then.
use Rattle.std.proofs.Common.{◌≡◌, ℕ, zero, suc, ◌+◌, ◌<◌, ◌⊎◌, inl, inr, List, [], ◌∷◌, ◌++◌, length, get_or, set}
use Rattle.std.proofs.Common.{refl, sym, ap, ◌∙◌, arith}
use mathlib.Core.Option.{some, some-injective, some-ne-none}
use mathlib.Core.Logic.{dite}
use native.Mathlib.Decide.{ℕ_discrete}
use lib.ListN.{get_elem?}
use Rattle.std.proofs.lemmas.List.Sums.{sum_by-set, sum_by_push}
use Rattle.atomic_table.proofs.Lists.{at_set, at_snoc, at_longer, at_last, set_else, set_here}
use Rattle.raise_table.specs.declared.places.ZoneLeaf.{ZoneLeaf}
use Rattle.raise_table.specs.declared.views.SeatView.{SeatView}
use Rattle.raise_table.specs.RaiseRule.{HasSeat, owners, times_leaf}

at_within : (seats : List SeatView) (id : ℕ) (v : SeatView) → get_elem? seats id ≡ some v → id < length seats
at_within [] id v e = absurd (some-ne-none v (sym e))
at_within (s ∷ seats) zero v e = omega arith
at_within (s ∷ seats) (suc id) v e = let r = at_within seats id v e in omega arith

at_found : (seats : List SeatView) (id : ℕ) (v d : SeatView) → get_elem? seats id ≡ some v → get_or seats id d ≡ v
at_found [] id v d e = absurd (some-ne-none v (sym e))
at_found (s ∷ seats) zero v d e = some-injective s v e
at_found (s ∷ seats) (suc id) v d e = at_found seats id v d e

-- ---- after a seat changed

pub seat_cases : (seats : List SeatView) (id : ℕ) (w u : SeatView) → HasSeat (set seats id w) u → (w ≡ u)
    ⊎ HasSeat seats u
seat_cases seats id w u has = elim (at_set seats id has.0 w u has.1) [
  | inl here ↦ inl here.1
  | inr there ↦ inr
      (has.0, there.1)
]

pub seat_stays : (seats : List SeatView) (id : ℕ) (v w u : SeatView) → get_elem? seats id ≡ some v → HasSeat seats u
    → (v ≡ u) ⊎ HasSeat (set seats id w) u
seat_stays seats id v w u is has = dite (ℕ_discrete has.0 id)
    (λ e. inl (some-injective v u (sym is ∙ ap (get_elem? seats) (sym e) ∙ has.1)))
    (λ apart. inr (has.0, set_else seats id has.0 w apart ∙ has.1))

pub seat_changed : (seats : List SeatView) (id : ℕ) (v w : SeatView) → get_elem? seats id ≡ some v
    → HasSeat (set seats id w) w
seat_changed seats id v w is = (id, set_here seats id w (at_within seats id v is))

pub owners_changed : (leaf : ZoneLeaf) (seats : List SeatView) (id : ℕ) (v w : SeatView) → get_elem? seats id ≡ some v
    → owners leaf (set seats id w) + times_leaf leaf v.leaves ≡ owners leaf seats + times_leaf leaf w.leaves
owners_changed leaf seats id v w is = ap (λ u. owners leaf (set seats id w) + times_leaf leaf u.leaves)
    (sym (at_found seats id v v is))
    ∙ sum_by-set (λ seat. times_leaf leaf seat.leaves) seats id w v (at_within seats id v is)

-- ---- after a seat came

pub seat_came_cases : (seats : List SeatView) (w u : SeatView) → HasSeat (seats ++ w ∷ []) u → HasSeat seats u ⊎ (w ≡ u)
seat_came_cases seats w u has = elim (at_snoc seats w u has.0 has.1) [
  | inl before ↦ inl (has.0, before)
  | inr last ↦
      inr last
]

pub seat_before : (seats : List SeatView) (w u : SeatView) → HasSeat seats u → HasSeat (seats ++ w ∷ []) u
seat_before seats w u has = (has.0, at_longer seats (w ∷ []) has.0 u has.1)

pub seat_last : (seats : List SeatView) (w : SeatView) → HasSeat (seats ++ w ∷ []) w
seat_last seats w = (length seats, at_last seats w (length seats) refl)

pub owners_came : (leaf : ZoneLeaf) (seats : List SeatView) (w : SeatView) → owners leaf (seats ++ w ∷ [])
    ≡ owners leaf seats + times_leaf leaf w.leaves
owners_came leaf seats w = sum_by_push (λ seat. times_leaf leaf seat.leaves) seats w

-- ---- one seat

pub seat_alone : (v u : SeatView) → HasSeat (v ∷ []) u → v ≡ u
seat_alone v u (zero, e) = some-injective v u e
seat_alone v u (suc n, e) = absurd (some-ne-none u (sym e))
