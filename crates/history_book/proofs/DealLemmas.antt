-- What the first seat has while the owners of the histories are split off it.
use Rattle.std.proofs.Common.{◌≡◌, ℕ, suc, ◌+◌, ◌-◌, ◌<◌, ◌≤◌, List, [], ◌∷◌, ◌++◌, drop, map, take, sym, ap, ◌∙◌}
use Rattle.std.proofs.Common.{arith, nat_lt, true, false}
use Rattle.std.specs.Prelude.{Some, None}
use Rattle.std.proofs.lemmas.Bool.Decides.{nat_tests}
use Rattle.mon_value.specs.declared.positions.Range.{Range}
use Rattle.history_book.specs.declared.views.History.{History}
use Rattle.history_book.specs.declared.views.SeatView.{SeatView}
use Rattle.history_book.specs.declared.numbers.TheConstants.{NUMBER_END}
use Rattle.history_book.specs.Histories.{empty_histories, histories_in, history_numbered, numbered_as, numbers_on}
use Rattle.mon_value.specs.Histories.{range_numbered}
use Rattle.std.proofs.lemmas.List.{append_assoc}
use Rattle.history_book.specs.Seats.{Owner, new_owner, numbered_purse, own_ranges}
use Rattle.history_book.specs.Steps.{Seated, after_deal, dealing, dealt, first_view, owner_view, ranges_on}

-- the first of some numbers, and the others
one_on : (n k m : ℕ) → n < m → m - n ≡ suc (m - (n + 1))
one_on n k m low = omega arith

first_on : (n m : ℕ) → n < m → numbers_on n (m - n) ≡ n ∷ numbers_on (n + 1) (m - (n + 1))
first_on n m low = ap (numbers_on n) (one_on n 0 m low)

abbrev view_with : ℕ → ℕ → List History → List Range → SeatView
view_with leaves ranges owned held =
    record {
      seen = empty_histories leaves ranges;
      joined = None;
      purse = Some (numbered_purse 0 1 NUMBER_END);
      owns =
          owned;
      promised = 0;
      held = held;
      notes = [];
    }

abbrev owner_with : ℕ → ℕ → List History → List Range → SeatView
owner_with leaves ranges owned held =
    record {
      seen = empty_histories leaves ranges;
      joined = None;
      purse = None;
      owns = owned;
      promised = 0;
      held = held;
      notes =
          [];
    }

pub first_is : (leaves ranges : ℕ) → first_view leaves ranges ≡ dealing leaves ranges 0
first_is leaves ranges =
    let a : leaves + ranges ≡ leaves + ranges - 0 = omega arith in
    let b : 0 ≡ 0 - leaves = omega arith in
    let d : ranges ≡ ranges - (0 - leaves) = omega arith in
    λ i. view_with leaves ranges (map (history_numbered leaves) (numbers_on 0 (a i))) (ranges_on (b i) (d i))

owned_on : (leaves ranges n : ℕ) → n < leaves + ranges → map (history_numbered leaves)
    (numbers_on n (leaves + ranges - n))
    ≡ history_numbered leaves n ∷ map (history_numbered leaves) (numbers_on (n + 1) (leaves + ranges - (n + 1)))
owned_on leaves ranges n low = ap (map (history_numbered leaves)) (first_on n (leaves + ranges) low)

-- ---- of a leaf

pub leaf_left : (leaves ranges n : ℕ) → n < leaves → after_deal 0 (dealing leaves ranges n) ≡ dealing leaves ranges
    (n + 1)
leaf_left leaves ranges n low =
    let a = owned_on leaves ranges n (omega arith) in
    let b : n - leaves ≡ n + 1 - leaves = omega arith in
    λ i. view_with leaves ranges (drop 1 (a i)) (ranges_on (b i) (ranges - b i))

leaf_ranges : (leaves n : ℕ) → n < leaves → [] ≡ own_ranges (history_numbered leaves n)
leaf_ranges leaves n low = let e : nat_lt n leaves ≡ true = grind (arith, nat_tests) in
    sym (ap (λ b. own_ranges (numbered_as b leaves n)) e)

pub leaf_dealt : (leaves ranges n : ℕ) → n < leaves → dealt 0 (dealing leaves ranges n) ≡ owner_view leaves ranges n
leaf_dealt leaves ranges n low =
    let a = owned_on leaves ranges n (omega arith) in
    λ i. owner_with leaves ranges (take 1 (a i)) (leaf_ranges leaves n low i)

-- ---- of a range

held_on : (leaves ranges n : ℕ) → leaves ≤ n → n < leaves + ranges
    → ranges_on (n - leaves) (ranges - (n - leaves)) ≡ range_numbered (n - leaves) ∷ ranges_on
    (n + 1 - leaves) (ranges - (n + 1 - leaves))
held_on leaves ranges n high low =
    let e : n - leaves + 1 ≡ n + 1 - leaves = omega arith in
    ap (map range_numbered) (first_on (n - leaves) ranges (omega arith)) ∙ ap
    (λ m. range_numbered (n - leaves) ∷ ranges_on m (ranges - m)) e

pub range_left : (leaves ranges n : ℕ) → leaves ≤ n → n < leaves + ranges
    → after_deal 1 (dealing leaves ranges n) ≡ dealing leaves ranges (n + 1)
range_left leaves ranges n high low =
    let a = owned_on leaves ranges n low in
    let b = held_on leaves ranges n high low in
    λ i. view_with leaves ranges (drop 1 (a i)) (drop 1 (b i))

range_ranges : (leaves n : ℕ) → leaves ≤ n → range_numbered (n - leaves) ∷ [] ≡ own_ranges (history_numbered leaves n)
range_ranges leaves n high = let e : nat_lt n leaves ≡ false = grind (arith, nat_tests) in
    sym (ap (λ b. own_ranges (numbered_as b leaves n)) e)

pub range_dealt : (leaves ranges n : ℕ) → leaves ≤ n → n < leaves + ranges
    → dealt 1 (dealing leaves ranges n) ≡ owner_view leaves ranges n
range_dealt leaves ranges n high low =
    let a = owned_on leaves ranges n low in
    let b = held_on leaves ranges n high low in
    (λ i. owner_with leaves ranges (take 1 (a i)) (take 1 (b i))) ∙
    (λ i. owner_with leaves ranges (history_numbered leaves n ∷ []) (range_ranges leaves n high i))

-- ---- at the end

-- ---- the loop

pub owners_rest : (leaves ranges n : ℕ) (made new : List Owner) (next : Owner) → n < leaves + ranges
    → next ≡ new_owner leaves ranges (history_numbered leaves n) → new ≡ made ++ next ∷ []
    → made ++ map (new_owner leaves ranges) (map (history_numbered leaves) (numbers_on n (leaves + ranges - n))) ≡ map
    (new_owner leaves ranges) (histories_in leaves ranges)
    → new ++ map (new_owner leaves ranges)
    (map (history_numbered leaves) (numbers_on (n + 1) (leaves + ranges - (n + 1)))) ≡ map
    (new_owner leaves ranges) (histories_in leaves ranges)
owners_rest leaves ranges n made new next low is pushed before =
    let rest = map (new_owner leaves ranges)
    (map (history_numbered leaves) (numbers_on (n + 1) (leaves + ranges - (n + 1)))) in
    ap (λ w. w ++ rest) pushed ∙ append_assoc made (next ∷ []) rest
    ∙ ap (λ o. made ++ (o ∷ rest)) is
    ∙ ap (λ w. made ++ w) (sym (ap (map (new_owner leaves ranges)) (owned_on leaves ranges n low)))
    ∙ before

-- ---- one owner

pub leaf_deal : (leaves ranges n : ℕ) (me me' res : Seated) → n < leaves
    → me ≡ (dealing leaves ranges n, []) → me' ≡ (after_deal 0 me.0, me.1) → res ≡ (dealt 0 me.0, [])
    → (me' ≡ (dealing leaves ranges (n + 1), [])) × (res ≡ (owner_view leaves ranges n, []))
leaf_deal leaves ranges n me me' res low is left right = (
  left ∙ (λ i. (after_deal 0 (is i).0, (is i).1)) ∙ (λ i. (leaf_left leaves ranges n low i, [])),
  right ∙ (λ i. (dealt 0 (is i).0, [])) ∙ (λ i. (leaf_dealt leaves ranges n low i, [])),
)

pub range_deal : (leaves ranges n : ℕ) (me me' res : Seated) → leaves ≤ n → n < leaves + ranges
    → me ≡ (dealing leaves ranges n, []) → me' ≡ (after_deal 1 me.0, me.1) → res ≡ (dealt 1 me.0, [])
    → (me' ≡ (dealing leaves ranges (n + 1), [])) × (res ≡ (owner_view leaves ranges n, []))
range_deal leaves ranges n me me' res high low is left right = (
  left ∙ (λ i. (after_deal 1 (is i).0, (is i).1)) ∙ (λ i. (range_left leaves ranges n high low i, [])),
  right ∙ (λ i. (dealt 1 (is i).0, [])) ∙ (λ i. (range_dealt leaves ranges n high low i, [])),
)
