-- What keeps the book rule where no history grows: a seat that changes, one that is cut in two, two that become one.
use Rattle.std.proofs.Common.{◌≡◌, ℕ, ◌+◌, ◌<◌, ◌≢◌, ◌⊎◌, inl, inr, List, [], ◌∷◌, ◌++◌, set, sym, ap, ◌∙◌, subst}
use Rattle.std.proofs.Common.{arith}
use Rattle.std.specs.List.{Contains, sum_by}
use mathlib.Core.Option.{some}
use lib.ListN.{get_elem?}
use Rattle.mon_value.specs.declared.histories.Histories.{Histories}
use Rattle.history_book.specs.declared.views.History.{History}
use Rattle.history_book.specs.declared.views.History.TheVariants as of
use Rattle.history_book.specs.declared.views.Kept.{Kept}
use Rattle.history_book.specs.declared.views.SeatView.{SeatView}
use Rattle.mon_value.specs.declared.positions.Leaf.{Leaf}
use Rattle.mon_value.specs.declared.positions.Range.{Range}
use Rattle.mon_value.specs.Histories.{leaf_numbered, range_numbered}
use Rattle.history_book.specs.Histories.{history_numbered, numbered_as}
use Rattle.history_book.specs.BookRule.{HasSeat, IsTrue, KeepsBookRule, has_number, has_room, hold_count, kept_in_purse}
use Rattle.history_book.specs.BookRule.{owns}
use Rattle.atomic_table.proofs.Lists.{set_else}
use Rattle.std.proofs.lemmas.Bool.Decides.{nat_tests}
use Rattle.std.proofs.Common.{nat_lt, true}
use Rattle.history_book.proofs.SumLemmas.{parts_of_sum, seat_before, seat_came_cases, seat_cases, seat_changed}
use Rattle.history_book.proofs.SumLemmas.{seat_last, seat_stands, seat_stays, sum_changed, sum_joined, sum_split}

-- the number of a leaf's history is the leaf's
pub leaf_is_numbered : (leaves n : ℕ) → n < leaves → history_numbered leaves n ≡ of.Leaf (leaf_numbered n)
leaf_is_numbered leaves n low = let e : nat_lt n leaves ≡ true = grind (arith, nat_tests) in
    ap (λ b. numbered_as b leaves n) e

-- the entries of kept numbers are still kept
abbrev KeepsNumbers : List SeatView → List SeatView → Type 0
KeepsNumbers seats seats' = (seat : SeatView) (kept : Kept) → HasSeat seats seat → Contains (kept_in_purse seat.purse)
    kept
    → (seat' : SeatView) × HasSeat seats' seat' × Contains (kept_in_purse seat'.purse) kept

abbrev Promises : ℕ → List SeatView → Type 0
Promises leaves seats = (seat : SeatView) (n : ℕ) → n < leaves → HasSeat seats seat
    → 0 < owns (of.Leaf (leaf_numbered n)) seat
    → seat.promised ≡ sum_by (has_room (leaf_numbered n)) seats

module _ (leaves ranges : ℕ) (whole : Histories) (words : List ℕ) (seats : List SeatView)
    (rule : KeepsBookRule leaves ranges whole words seats) where
  -- where all is counted as before
  pub carried : (seats' : List SeatView)
      → ((seat : SeatView) → HasSeat seats' seat → IsTrue whole seat)
      → ((h : History) → sum_by (owns h) seats' ≡ sum_by (owns h) seats)
      → ((n : ℕ) → sum_by (has_number n) seats' ≡ sum_by (has_number n) seats)
      → ((r : Range) → sum_by (hold_count r) seats' ≡ sum_by (hold_count r) seats)
      → KeepsNumbers seats seats'
      → Promises leaves seats'
      → KeepsBookRule leaves ranges whole words seats'
  carried seats' true' owned' numbers' holders' kept' promised' = record {
    sized = rule.sized;
    lengths = rule.lengths;
    seats_true = true';
    owned = λ n low. owned' (history_numbered leaves n) ∙ rule.owned n low;
    numbered = λ n low. numbers' n ∙ rule.numbered n low;
    bounded = λ n high. numbers' n ∙ rule.bounded n high;
    kept = λ h e has. let k = rule.kept h e has in let s = kept' k.seat k.kept k.there k.has in
        record { seat = s.0; there = s.1; kept = k.kept; has = s.2; under = k.under };
    promised = promised';
    holders = λ n low. holders' (range_numbered n) ∙ rule.holders n low;
    unheld = λ n high. holders' (range_numbered n) ∙ rule.unheld n high;
  }

  module _ (id : ℕ) (v : SeatView) (is : get_elem? seats id ≡ some v) where
    -- nobody else owns what a seat owns
    pub no_other_owner : (n at : ℕ) (u : SeatView) → n < leaves + ranges → at ≢ id → get_elem? seats at ≡ some u
        → 0 < owns (history_numbered leaves n) v → 0 < owns (history_numbered leaves n) u → ⊥
    no_other_owner n at u low apart there mine theirs =
        let two = parts_of_sum (owns (history_numbered leaves n)) seats at id u v apart there is in
        let all = rule.owned n low in
        omega arith

    -- ---- a seat changes

    pub keeps_change : (w : SeatView) → IsTrue whole w
        → ((h : History) → owns h w ≡ owns h v)
        → ((n : ℕ) → has_number n w ≡ has_number n v)
        → ((r : Range) → hold_count r w ≡ hold_count r v)
        → ((leaf : Leaf) → has_room leaf w ≡ has_room leaf v)
        → ((kept : Kept) → Contains (kept_in_purse v.purse) kept → Contains (kept_in_purse w.purse) kept)
        → w.promised ≡ v.promised
        → KeepsBookRule leaves ranges whole words (set seats id w)
    keeps_change w true_w owns_w number_w holds_w room_w kept_w promised_w = carried (set seats id w)
        (λ seat has. elim
        (seat_cases seats id w seat has) [
          | inl e ↦ subst (IsTrue whole) e true_w
          | inr old ↦ rule.seats_true seat
              (old.0, old.2)
        ])
        (λ h. let s = sum_changed (owns h) seats id v w is in let e = owns_w h in omega arith)
        (λ n. let s = sum_changed (has_number n) seats id v w is in let e = number_w n in omega arith)
        (λ r. let s = sum_changed (hold_count r) seats id v w is in let e = holds_w r in omega arith)
        (λ seat kept has k. elim (seat_stays seats id v w seat is has) [
          | inl e ↦ (
            w,
            seat_changed seats id v w is,
            kept_w kept (subst (λ (s : SeatView). Contains (kept_in_purse s.purse) kept) (sym e) k),
          )
          | inr there ↦ (seat, there, k)
        ])
        (λ seat n low has own.
        let s = sum_changed (has_room (leaf_numbered n)) seats id v w is in
        let e = room_w (leaf_numbered n) in
        elim (seat_cases seats id w seat has) [
          | inl same ↦
              let was : 0 < owns (of.Leaf (leaf_numbered n)) v
              = (let o = owns_w (of.Leaf (leaf_numbered n)) in
              let o' : 0 < owns (of.Leaf (leaf_numbered n)) w
              = subst (λ (x : SeatView). 0 < owns (of.Leaf (leaf_numbered n)) x) (sym same) own in omega arith) in
              let p = rule.promised v n low (id, is) was in
              let q : seat.promised ≡ w.promised = sym (ap (λ (x : SeatView). x.promised) same) in
              omega arith
          | inr old ↦ let p = rule.promised seat n low (old.0, old.2) own in omega arith
        ])

    -- ---- a seat is cut in two

    pub record IsCut (left right : SeatView) : Type 0 where
      pub true_left : IsTrue whole left
      pub true_right : IsTrue whole right
      pub owned : (h : History) → owns h left + owns h right ≡ owns h v
      pub numbers : (n : ℕ) → has_number n left + has_number n right ≡ has_number n v
      pub ranges_held : (r : Range) → hold_count r left + hold_count r right ≡ hold_count r v
      pub kept : (kept : Kept) → Contains (kept_in_purse v.purse) kept
          → Contains (kept_in_purse left.purse) kept ⊎ Contains (kept_in_purse right.purse) kept
      -- rooms of histories that the seat owns may come and go, where it promises as many
      pub rooms : (n : ℕ) → n < leaves → owns (of.Leaf (leaf_numbered n)) v ≡ 0
          → has_room (leaf_numbered n) left + has_room (leaf_numbered n) right ≡ has_room (leaf_numbered n) v
      pub promised_left : (n : ℕ) → n < leaves → 0 < owns (of.Leaf (leaf_numbered n)) left
          → left.promised + has_room (leaf_numbered n) v
          ≡ v.promised + (has_room (leaf_numbered n) left + has_room (leaf_numbered n) right)
      pub promised_right : (n : ℕ) → n < leaves → 0 < owns (of.Leaf (leaf_numbered n)) right
          → right.promised + has_room (leaf_numbered n) v
          ≡ v.promised + (has_room (leaf_numbered n) left + has_room (leaf_numbered n) right)

    pub keeps_cut : (left right : SeatView) → IsCut left right
        → KeepsBookRule leaves ranges whole words (set seats id left ++ right ∷ [])
    keeps_cut left right cut = carried (set seats id left ++ right ∷ [])
        (λ seat has. elim (seat_came_cases (set seats id left) right seat has) [
          | inl here ↦ elim
              (seat_cases seats id left seat here) [
                | inl e ↦ subst (IsTrue whole) e cut.true_left
                | inr old ↦ rule.seats_true seat
                    (old.0, old.2)
              ]
          | inr e ↦ subst (IsTrue whole) e cut.true_right
        ])
        (λ h. let s = sum_split (owns h) seats id v left right is in let e = cut.owned h in omega arith)
        (λ n. let s = sum_split (has_number n) seats id v left right is in let e = cut.numbers n in omega arith)
        (λ r. let s = sum_split (hold_count r) seats id v left right is in let e = cut.ranges_held r in omega arith)
        (λ seat kept has k. elim (seat_stays seats id v left seat is has) [
          | inl e ↦ elim (cut.kept kept (subst (λ (s : SeatView). Contains (kept_in_purse s.purse) kept) (sym e) k)) [
            | inl l ↦ (left, seat_before (set seats id left) right left (seat_changed seats id v left is), l)
            | inr r ↦ (right, seat_last (set seats id left) right, r)
          ]
          | inr there ↦ (seat, seat_before (set seats id left) right seat there, k)
        ])
        (λ seat n low has own.
        let leaf = leaf_numbered n in
        let s = sum_split (has_room leaf) seats id v left right is in
        let part = cut.owned (of.Leaf leaf) in
        elim (seat_came_cases (set seats id left) right seat has) [
          | inl here ↦ elim (seat_cases seats id left seat here) [
            | inl same ↦
                let own' : 0 < owns (of.Leaf leaf) left = subst (λ (x : SeatView). 0 < owns (of.Leaf leaf) x)
                (sym same) own in
                let was : 0 < owns (of.Leaf leaf) v = omega arith in
                let p = rule.promised v n low (id, is) was in
                let q : seat.promised ≡ left.promised = sym (ap (λ (x : SeatView). x.promised) same) in
                let d = cut.promised_left n low own' in
                omega arith
            | inr old ↦
                let p = rule.promised seat n low (old.0, old.2) own in
                let two = parts_of_sum (owns (of.Leaf leaf)) seats old.0 id seat v old.1 old.2 is in
                let one : sum_by (owns (of.Leaf leaf)) seats ≡ 1
                = subst (λ h. sum_by (owns h) seats ≡ 1) (leaf_is_numbered leaves n low) (rule.owned n (omega arith)) in
                let none : owns (of.Leaf leaf) v ≡ 0 = omega arith in
                let d = cut.rooms n low none in
                omega arith
          ]
          | inr same ↦
              let own' : 0 < owns (of.Leaf leaf) right = subst (λ (x : SeatView). 0 < owns (of.Leaf leaf) x) (sym same)
              own in
              let was : 0 < owns (of.Leaf leaf) v = omega arith in
              let p = rule.promised v n low (id, is) was in
              let q : seat.promised ≡ right.promised = sym (ap (λ (x : SeatView). x.promised) same) in
              let d = cut.promised_right n low own' in
              omega arith
        ])

    -- ---- two seats become one

    pub record IsUnion (u both gone : SeatView) : Type 0 where
      pub true_both : IsTrue whole both
      pub true_gone : IsTrue whole gone
      pub owned : (h : History) → owns h both ≡ owns h v
      pub landless : (h : History) → owns h u ≡ 0
      pub gone_landless : (h : History) → owns h gone ≡ 0
      pub numbers : (n : ℕ) → has_number n both + has_number n gone ≡ has_number n v + has_number n u
      pub ranges_held : (r : Range) → hold_count r both + hold_count r gone ≡ hold_count r v + hold_count r u
      pub rooms : (leaf : Leaf) → has_room leaf both + has_room leaf gone ≡ has_room leaf v + has_room leaf u
      pub kept : (kept : Kept) → Contains (kept_in_purse v.purse) kept ⊎ Contains (kept_in_purse u.purse) kept
          → Contains (kept_in_purse both.purse) kept
      pub promised : both.promised ≡ v.promised

    pub keeps_union : (other : ℕ) (u both gone : SeatView) → other ≢ id → get_elem? (set seats id both) other ≡ some u
        → IsUnion u both gone
        → KeepsBookRule leaves ranges whole words (set (set seats id both) other gone)
    keeps_union other u both gone apart is' union =
        let first = set seats id both in
        let both_there : HasSeat (set first other gone) both
        = (id, set_else first other id gone (λ e. apart (sym e)) ∙ seat_stands seats id v both is) in
        carried (set first other gone)
        (λ seat has. elim (seat_cases first other gone seat has) [
          | inl e ↦ subst (IsTrue whole) e union.true_gone
          | inr here ↦ elim
              (seat_cases seats id both seat (here.0, here.2)) [
                | inl e ↦ subst
                    (IsTrue whole) e union.true_both
                | inr old ↦ rule.seats_true seat (old.0, old.2)
              ]
        ])
        (λ h. let s = sum_joined (owns h) seats id other v both u gone is is' in let a = union.owned h in
        let b = union.landless h in let c = union.gone_landless h in omega arith)
        (λ n. let s = sum_joined (has_number n) seats id other v both u gone is is' in let e = union.numbers n in
        omega arith)
        (λ r. let s = sum_joined (hold_count r) seats id other v both u gone is is' in let e = union.ranges_held r in
        omega arith)
        (λ seat kept has k. elim (seat_stays seats id v both seat is has) [
          | inl e ↦ (
            both,
            both_there,
            union.kept kept (inl (subst (λ (s : SeatView). Contains (kept_in_purse s.purse) kept) (sym e) k)),
          )
          | inr there ↦ elim (seat_stays first other u gone seat is' there) [
            | inl e ↦ (
              both,
              both_there,
              union.kept kept (inr (subst (λ (s : SeatView). Contains (kept_in_purse s.purse) kept) (sym e) k)),
            )
            | inr still ↦ (seat, still, k)
          ]
        ])
        (λ seat n low has own.
        let leaf = leaf_numbered n in
        let s = sum_joined (has_room leaf) seats id other v both u gone is is' in
        let e = union.rooms leaf in
        elim (seat_cases first other gone seat has) [
          | inl same ↦
              let none = union.gone_landless (of.Leaf leaf) in
              let own' : 0 < owns (of.Leaf leaf) gone = subst (λ (x : SeatView). 0 < owns (of.Leaf leaf) x) (sym same)
              own in
              absurd (omega arith)
          | inr here ↦ elim (seat_cases seats id both seat (here.0, here.2)) [
            | inl same ↦
                let own' : 0 < owns (of.Leaf leaf) both = subst (λ (x : SeatView). 0 < owns (of.Leaf leaf) x)
                (sym same) own in
                let o = union.owned (of.Leaf leaf) in
                let p = rule.promised v n low (id, is) (omega arith) in
                let q : seat.promised ≡ both.promised = sym (ap (λ (x : SeatView). x.promised) same) in
                let r = union.promised in
                omega arith
            | inr old ↦ let p = rule.promised seat n low (old.0, old.2) own in omega arith
          ]
        ])
