-- An owner's guest goes: the book rule is kept.
use Rattle.std.proofs.Common.{◌≡◌, ℕ, ◌+◌, ◌<◌, ◌≤◌, inr, Bool, true, false, List, [], ◌∷◌, ◌++◌, refl, sym, ap, ◌∙◌}
use Rattle.std.proofs.Common.{subst, arith, set, cond}
use Rattle.std.specs.List.{Contains, sum_by}
use mathlib.Core.Option.{some}
use lib.ListN.{get_elem?}
use Rattle.mon_value.specs.declared.positions.Leaf.{Leaf}
use Rattle.mon_value.specs.declared.positions.Range.{Range}
use Rattle.history_book.specs.declared.rooms.RoomMove.{RoomMove}
use Rattle.history_book.specs.declared.rooms.RoomMove.TheVariants as move
use Rattle.mon_value.specs.declared.histories.Histories.{Histories}
use Rattle.history_book.specs.declared.views.History.{History}
use Rattle.history_book.specs.declared.views.History.TheVariants as of
use Rattle.history_book.specs.declared.views.SeatView.{SeatView}
use Rattle.mon_value.specs.Histories.{leaf_numbered, same_leaf}
use Rattle.history_book.specs.Histories.{same_history}
use Rattle.history_book.specs.Seats.{guest_purse, promised_after, rooms_after, times_range, times_room}
use Rattle.history_book.specs.BookRule.{KeepsBookRule, has_number, has_room, hold_count, owns}
use Rattle.history_book.specs.Steps.{CanGiveBack, after_part, own_history, part}
use Rattle.history_book.proofs.SumLemmas.{part_of_sum}
use Rattle.history_book.proofs.PurseLemmas.{guest_kept, guest_number, guest_ranges, guest_rooms}
use Rattle.history_book.proofs.PurseLemmas.{ranges_parted, room_made, room_taken, sum_one}
use Rattle.history_book.proofs.RuleLemmas.{keeps_cut}
use Rattle.history_book.proofs.KeepLemmas.{true_alike, was_true}
use Rattle.mon_value.proofs.PlainLemmas.{contains_none}

-- how often a history is that of a leaf
abbrev is_of : Leaf → History → ℕ
is_of leaf h = cond (same_history (of.Leaf leaf) h) 1 0

at_most_one : (b : Bool) → (let n : ℕ = cond b 1 0 in n ≤ 1)
at_most_one true = omega arith
at_most_one false = omega arith

-- rooms come and go only of the owner's history, which promises as many
rooms_parted : (moved : RoomMove) (h : History) (leaf : Leaf) (rooms : List Leaf) (promised : ℕ) → CanGiveBack moved h
    rooms
    → (is_of leaf h ≡ 0 → times_room leaf (rooms_after moved h rooms) ≡ times_room leaf rooms)
    × (0 < is_of leaf h → times_room leaf rooms ≤ promised
    → promised_after moved promised + times_room leaf rooms ≡ promised + times_room leaf (rooms_after moved h rooms))
rooms_parted move.Make (of.Leaf own) leaf rooms promised can =
    let e = room_made leaf own rooms in let n : ℕ = cond (same_leaf leaf own) 1 0 in
    let most : n ≤ 1 = at_most_one (same_leaf leaf own) in
    ((λ none. omega arith), (λ one low. omega arith))
rooms_parted move.Make (of.Range own) leaf rooms promised can = ((λ none. refl), (λ one low. absurd (omega arith)))
rooms_parted move.Keep h leaf rooms promised can = ((λ none. refl), (λ one low. refl))
rooms_parted move.TakeBack (of.Leaf own) leaf rooms promised can =
    let e = room_taken leaf own rooms can in let n : ℕ = cond (same_leaf leaf own) 1 0 in
    let most : n ≤ 1 = at_most_one (same_leaf leaf own) in
    ((λ none. omega arith), (λ one low. omega arith))
rooms_parted move.TakeBack (of.Range own) leaf rooms promised can = ((λ none. refl), (λ one low. absurd (omega arith)))

module _ (leaves ranges : ℕ) (whole : Histories) (words : List ℕ) (seats : List SeatView)
    (rule : KeepsBookRule leaves ranges whole words seats) (id : ℕ) (v : SeatView) (is : get_elem? seats id ≡ some v)
  where
    pub keeps_part : (moved : RoomMove) (hold : Bool) (h : History) → v.owns
        ≡ h ∷ [] → CanGiveBack moved h (guest_purse v.purse).rooms
        → KeepsBookRule leaves ranges whole words (set seats id (after_part moved hold v) ++ part moved hold v ∷ [])
    keeps_part moved hold h owns_is can =
        let left = after_part moved hold v in
        let right = part moved hold v in
        let own : own_history v.owns ≡ h = ap own_history owns_is in
        let can' : CanGiveBack moved (own_history v.owns) (guest_purse v.purse).rooms
        = subst (λ g. CanGiveBack moved g (guest_purse v.purse).rooms) (sym own) can in
        let owned : (leaf : Leaf) → owns (of.Leaf leaf) v ≡ is_of leaf (own_history v.owns) = λ leaf.
        ap (sum_by (is_of leaf)) owns_is ∙ sum_one (is_of leaf) h ∙ ap (is_of leaf) (sym own) in
        let landless : (g : History) → owns g right ≡ 0 = λ g. refl in
        let none_held : (r : Range) → times_range r [] ≡ 0 = λ r. refl in
        let ranges_held : (r : Range) → hold_count r left + hold_count r right ≡ hold_count r v = λ r.
        let a = ranges_parted r hold (own_history v.owns) v.held (guest_purse v.purse).holds in
        let b = guest_ranges r v.purse in
        let c = none_held r in
        omega arith in
        let rooms : (leaf : Leaf) → times_room leaf (guest_purse v.purse).rooms ≡ has_room leaf v
        = λ leaf. guest_rooms leaf v.purse in
        let none_left : (leaf : Leaf) → has_room leaf left ≡ 0 = λ leaf. refl in
        keeps_cut leaves ranges whole words seats rule id v is left right (record {
          true_left = true_alike whole v left (was_true leaves ranges whole words seats rule id v is) refl
              (λ g o. o) (λ r o. let e = ranges_held r in omega arith) (λ kept g has. absurd (contains_none kept has))
              tt;
          true_right = true_alike whole v right (was_true leaves ranges whole words seats rule id v is) refl
              (λ g o. absurd (let n = landless g in omega arith)) (λ r o. let e = ranges_held r in omega arith)
              (λ kept g has. (was_true leaves ranges whole words seats rule id v is).exact kept g
              (subst (λ k. Contains k kept) (guest_kept v.purse) has)) tt;
          owned = λ g. let n = landless g in omega arith;
          numbers = λ n. let e = guest_number n v.purse in let none : has_number n left ≡ 0 = refl in omega arith;
          ranges_held = ranges_held;
          kept = λ kept has. inr (subst (λ k. Contains k kept) (sym (guest_kept v.purse)) has);
          rooms = λ n low none.
              let leaf = leaf_numbered n in
              let e = rooms_parted moved (own_history v.owns) leaf (guest_purse v.purse).rooms v.promised can' in
              let same = e.0 (sym (owned leaf) ∙ none) in
              let a = rooms leaf in let b = none_left leaf in
              omega arith;
          promised_left = λ n low o.
              let leaf = leaf_numbered n in
              let e = rooms_parted moved (own_history v.owns) leaf (guest_purse v.purse).rooms v.promised can' in
              let promise = rule.promised v n low (id, is) o in
              let most = part_of_sum (has_room leaf) seats id v is in
              let a = rooms leaf in let b = none_left leaf in
              let d = e.1 (subst (λ m. 0 < m) (owned leaf) o) (omega arith) in
              omega arith;
          promised_right = λ n low o. absurd (let e = landless (of.Leaf (leaf_numbered n)) in omega arith);
        })
