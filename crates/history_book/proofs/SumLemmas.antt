-- What is counted over all seats, where one changes, comes or goes.
use Rattle.std.proofs.Common.{◌≡◌, ℕ, zero, suc, ◌+◌, ◌<◌, ◌≤◌, ◌≢◌, ◌⊎◌, inl, inr, List, [], ◌∷◌, ◌++◌, length}
use Rattle.std.proofs.Common.{get_or, set, refl, sym, ap, ◌∙◌, arith}
use Rattle.std.specs.List.{sum_by}
use mathlib.Core.Option.{some, some-injective, some-ne-none}
use mathlib.Core.Logic.{dite}
use native.Mathlib.Decide.{ℕ_discrete}
use lib.ListN.{get_elem?}
use Rattle.std.proofs.lemmas.List.Sums.{sum_by-cons, sum_by-set, sum_by_push}
use Rattle.atomic_table.proofs.Lists.{at_last, at_longer, at_set, at_snoc, set_else, set_here}
use Rattle.history_book.specs.declared.views.SeatView.{SeatView}
use Rattle.history_book.specs.BookRule.{HasSeat}

at_within : (seats : List SeatView) (id : ℕ) (v : SeatView) → get_elem? seats id ≡ some v → id < length seats
at_within [] id v e = absurd (some-ne-none v (sym e))
at_within (s ∷ seats) zero v e = omega arith
at_within (s ∷ seats) (suc id) v e = let r = at_within seats id v e in omega arith

at_found : (seats : List SeatView) (id : ℕ) (v d : SeatView) → get_elem? seats id ≡ some v → get_or seats id d ≡ v
at_found [] id v d e = absurd (some-ne-none v (sym e))
at_found (s ∷ seats) zero v d e = some-injective s v e
at_found (s ∷ seats) (suc id) v d e = at_found seats id v d e

-- ---- sums

pub sum_changed : (f : SeatView → ℕ) (seats : List SeatView) (id : ℕ) (v w : SeatView) → get_elem? seats id ≡ some v
    → sum_by f (set seats id w) + f v ≡ sum_by f seats + f w
sum_changed f seats id v w is =
    ap (λ u. sum_by f (set seats id w) + f u) (sym (at_found seats id v v is)) ∙ sum_by-set f seats id w v
    (at_within seats id v is)

-- a seat is cut in two
pub sum_split : (f : SeatView → ℕ) (seats : List SeatView) (id : ℕ) (v left right : SeatView) → get_elem? seats id
    ≡ some v
    → sum_by f (set seats id left ++ right ∷ []) + f v ≡ sum_by f seats + (f left + f right)
sum_split f seats id v left right is =
    let a : sum_by f (set seats id left ++ right ∷ []) ≡ sum_by f (set seats id left) + f right
    = sum_by_push f (set seats id left) right in
    let b = sum_changed f seats id v left is in
    omega arith

-- two seats become one, and the other is spent
pub sum_joined : (f : SeatView → ℕ) (seats : List SeatView) (id other : ℕ) (v both u spent : SeatView)
    → get_elem? seats id
    ≡ some v → get_elem? (set seats id both) other ≡ some u
    → sum_by f (set (set seats id both) other spent) + (f v + f u) ≡ sum_by f seats + (f both + f spent)
sum_joined f seats id other v both u spent is is' =
    let a = sum_changed f seats id v both is in
    let b = sum_changed f (set seats id both) other u spent is' in
    omega arith

-- one seat's part is no more than the sum
pub part_of_sum : (f : SeatView → ℕ) (seats : List SeatView) (id : ℕ) (v : SeatView) → get_elem? seats id ≡ some v
    → f v ≤ sum_by f seats
part_of_sum f [] id v e = absurd (some-ne-none v (sym e))
part_of_sum f (s ∷ seats) zero v e = let h : f s ≡ f v = ap f (some-injective s v e) in
    let all = sum_by-cons f s seats in
    omega arith
part_of_sum f (s ∷ seats) (suc id) v e = let r = part_of_sum f seats id v e in let all = sum_by-cons f s seats in
    omega arith

-- nor are two seats' parts
pub parts_of_sum : (f : SeatView → ℕ) (seats : List SeatView) (i j : ℕ) (v u : SeatView) → i ≢ j → get_elem? seats i
    ≡ some v
    → get_elem? seats j ≡ some u → f v + f u ≤ sum_by f seats
parts_of_sum f [] i j v u apart e g = absurd (some-ne-none v (sym e))
parts_of_sum f (s ∷ seats) zero zero v u apart e g = absurd (apart refl)
parts_of_sum f (s ∷ seats) zero (suc j) v u apart e g =
    let h : f s ≡ f v = ap f (some-injective s v e) in let r = part_of_sum f seats j u g in
    let all = sum_by-cons f s seats in
    omega arith
parts_of_sum f (s ∷ seats) (suc i) zero v u apart e g =
    let h : f s ≡ f u = ap f (some-injective s u g) in let r = part_of_sum f seats i v e in
    let all = sum_by-cons f s seats in
    omega arith
parts_of_sum f (s ∷ seats) (suc i) (suc j) v u apart e g =
    let r = parts_of_sum f seats i j v u (λ n. apart (ap suc n)) e g in let all = sum_by-cons f s seats in omega arith

-- ---- which seats there are

-- a seat is the one that changed, or one that stands elsewhere
pub seat_cases : (seats : List SeatView) (id : ℕ) (w u : SeatView) → HasSeat (set seats id w) u
    → (w ≡ u) ⊎ ((at : ℕ) × (at ≢ id) × (get_elem? seats at ≡ some u))
seat_cases seats id w u has =
    elim (at_set seats id has.0 w u has.1) [ inl here ↦ inl here.1 | inr there ↦ inr (has.0, there.0, there.1) ]

pub seat_stays : (seats : List SeatView) (id : ℕ) (v w u : SeatView) → get_elem? seats id ≡ some v → HasSeat seats u
    → (v ≡ u) ⊎ HasSeat (set seats id w) u
seat_stays seats id v w u is has = dite (ℕ_discrete has.0 id)
    (λ e. inl (some-injective v u (sym is ∙ ap (get_elem? seats) (sym e) ∙ has.1)))
    (λ apart. inr (has.0, set_else seats id has.0 w apart ∙ has.1))

pub seat_changed : (seats : List SeatView) (id : ℕ) (v w : SeatView) → get_elem? seats id ≡ some v
    → HasSeat (set seats id w) w
seat_changed seats id v w is = (id, set_here seats id w (at_within seats id v is))

pub seat_stands : (seats : List SeatView) (id : ℕ) (v w : SeatView) → get_elem? seats id ≡ some v
    → get_elem? (set seats id w) id ≡ some w
seat_stands seats id v w is = set_here seats id w (at_within seats id v is)

pub seat_came_cases : (seats : List SeatView) (w u : SeatView) → HasSeat (seats ++ w ∷ []) u → HasSeat seats u ⊎ (w ≡ u)
seat_came_cases seats w u has = elim (at_snoc seats w u has.0 has.1) [
  | inl before ↦ inl (has.0, before)
  | inr last ↦
      inr last
]

pub seat_before : (seats : List SeatView) (w u : SeatView) → HasSeat seats u → HasSeat (seats ++ w ∷ []) u
seat_before seats w u has = (has.0, at_longer seats (w ∷ []) has.0 u has.1)

pub seat_last : (seats : List SeatView) (w : SeatView) → HasSeat (seats ++ w ∷ []) w
seat_last seats w = (length seats, at_last seats w (length seats) refl)

pub seat_alone : (v u : SeatView) → HasSeat (v ∷ []) u → v ≡ u
seat_alone v u (zero, e) = some-injective v u e
seat_alone v u (suc n, e) = absurd (some-ne-none u (sym e))
