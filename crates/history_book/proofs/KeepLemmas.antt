-- Steps by which no history grows keep the book rule.
use Rattle.std.proofs.Common.{◌≡◌, ℕ, suc, ◌+◌, ◌<◌, ◌≤◌, ◌≢◌, inl, inr, Bool, true, false, List, [], ◌∷◌, ◌++◌, drop}
use Rattle.std.proofs.Common.{length, filter, set, take, refl, sym, ap, ◌∙◌, subst, arith, cond, not, nat_eq, nat_lt}
use Rattle.std.proofs.Common.{◌&&◌}
use Rattle.std.specs.Prelude.{Option, Some, None, IfSome, option_map}
use Rattle.std.specs.List.{Contains, sum_by}
use mathlib.Core.List.{IsPrefix}
use mathlib.Core.Option.{some, some-injective}
use mathlib.Core.Logic.{dite}
use native.Mathlib.Decide.{ℕ_discrete}
use lib.ListN.{get_elem?}
use Rattle.std.proofs.Math.Decide.{dec_lt}
use Rattle.std.proofs.lemmas.Bool.Decides.{nat_tests}
use Rattle.std.proofs.lemmas.List.Elements.{Contains-append_cases, Contains-append_left, Contains-append_right}
use Rattle.std.proofs.lemmas.List.Elements.{Contains-push_cases}
use Rattle.std.proofs.lemmas.List.Sums.{sum_by-append, sum_by-take-drop}
use Rattle.mon_value.specs.declared.positions.Leaf.{Leaf}
use Rattle.mon_value.specs.declared.positions.Range.{Range}
use Rattle.history_book.specs.declared.numbers.TheConstants.{NUMBER_END}
use Rattle.mon_value.specs.declared.histories.Histories.{Histories}
use Rattle.history_book.specs.declared.views.History.{History}
use Rattle.history_book.specs.declared.views.History.TheVariants as of
use Rattle.history_book.specs.declared.views.Joined.{Joined}
use Rattle.history_book.specs.declared.views.Kept.{Kept}
use Rattle.history_book.specs.declared.views.Purse.{Purse}
use Rattle.history_book.specs.declared.views.SeatView.{SeatView}
use Rattle.mon_value.specs.Histories.{longer, leaf_numbered, same_range}
use Rattle.history_book.specs.Histories.{entries, is_about, is_under, book_entry_pass, same_history}
use Rattle.history_book.specs.Numbers.{times_among}
use Rattle.history_book.specs.Seats.{first_handed, guest_purse, new_number, no_entries, with_note, times_number}
use Rattle.history_book.specs.Seats.{times_range, times_room, with_stock_handed}
use Rattle.history_book.specs.BookRule.{IsJoined, IsTrue, KeepsBookRule, has_number, has_room, hold_count, in_purse}
use Rattle.history_book.specs.BookRule.{kept_in_purse, owns}
use Rattle.history_book.specs.Steps.{after_deal, after_handed_number, dealt, handed_number, view_after_learning}
use Rattle.history_book.specs.Steps.{meeting, spent_view}
use Rattle.history_book.specs.Steps.{split_off}
use Rattle.history_book.proofs.ListLemmas.{filter_between, longer_first, longer_second, longer_whole, longer_within}
use Rattle.history_book.proofs.ListLemmas.{prefix_nil}
use Rattle.history_book.proofs.HistoryLemmas.{entries_longer}
use Rattle.history_book.proofs.SumLemmas.{part_of_sum, parts_of_sum}
use Rattle.history_book.proofs.PurseLemmas.{both_count, guest_ranges, kept_after_handing, kept_both}
use Rattle.history_book.proofs.PurseLemmas.{kept_counts, no_number, number_both, number_handed, ranges_both}
use Rattle.history_book.proofs.PurseLemmas.{rooms_both, stock_counts}
use Rattle.history_book.proofs.RuleLemmas.{keeps_change, keeps_cut, keeps_union}
use Rattle.mon_value.proofs.PlainLemmas.{contains_none}

filter_by : {X : Type 0} (p : X → Bool) (x : X) (xs : List X) (b : Bool) → p x ≡ b
    → ((y : X) → Contains (x ∷ xs) y → p y ≡ true → ⊥) → filter p xs ≡ [] → filter p (x ∷ xs) ≡ []
filter_by p x xs true e none rest = absurd (none x (0, omega arith, refl) e)
filter_by p x xs false e none rest = ap (λ b. cond b (x ∷ filter p xs) (filter p xs)) e ∙ rest

-- nothing passes
pub filter_none : {X : Type 0} (p : X → Bool) (xs : List X) → ((x : X) → Contains xs x → p x ≡ true → ⊥) → filter p xs
    ≡ []
filter_none p [] none = refl
filter_none p (x ∷ xs) none =
    filter_by p x xs (p x) refl none
    (filter_none p xs (λ y has. none y (suc has.0, (let h : has.0 < length xs = has.1 in omega arith), has.2)))

-- ---- views that see the same

-- what was joined is joined still, where a view owns and holds no more than before
joined_still : (whole : Histories) (v w : SeatView) (j : Option Joined) → w.seen ≡ v.seen
    → ((h : History) → 0 < owns h w → 0 < owns h v) → ((r : Range) → 0 < hold_count r w → 0 < hold_count r v)
    → IfSome j (IsJoined whole v) → IfSome j (IsJoined whole w)
joined_still whole v w None seen own held is = is
joined_still whole v w (Some j) seen own held is = record {
  mine = λ h. subst (λ s. IsPrefix (entries j.mine h) (entries s h)) (sym seen) (is.mine h);
  theirs = λ h. subst (λ s. IsPrefix (entries j.theirs h) (entries s h)) (sym seen) (is.theirs h);
  own = λ h o. is.own h (own h o) ∙ ap (λ s. entries s h) (sym seen);
  kept = λ r h l o. is.kept r h l (held r o);
  lent = λ r h l o. is.lent r h l (held r o);
}

pub true_alike : (whole : Histories) (v w : SeatView) → IsTrue whole v → w.seen ≡ v.seen
    → ((h : History) → 0 < owns h w → 0 < owns h v)
    → ((r : Range) → 0 < hold_count r w → 0 < hold_count r v)
    → ((kept : Kept) (h : History) → Contains (kept_in_purse w.purse) kept
    → filter (is_under kept.number) (entries whole h) ≡ entries kept.own h)
    → IfSome w.joined (IsJoined whole w)
    → IsTrue whole w
true_alike whole v w was seen own held exact joined = record {
  seen = λ h. subst (λ s. IsPrefix (entries s h) (entries whole h)) (sym seen) (was.seen h);
  own = λ h o. ap (λ s. entries s h) seen ∙ was.own h (own h o);
  exact = exact;
  held = λ r h o. was.held r h (held r o) ∙ ap (λ s. filter (is_about r) (entries s h)) (sym seen);
  joined = joined;
}

noted_number : (n h l : ℕ) (o : Option Purse) → in_purse (times_number n) (option_map (with_note h l) o)
    ≡ in_purse (times_number n) o
noted_number n h l None = refl
noted_number n h l (Some p) = refl

noted_ranges : (r : Range) (h l : ℕ) (o : Option Purse)
    → in_purse (λ p. times_range r p.holds) (option_map (with_note h l) o)
    ≡ in_purse
    (λ p. times_range r p.holds) o
noted_ranges r h l None = refl
noted_ranges r h l (Some p) = refl

noted_rooms : (leaf : Leaf) (h l : ℕ) (o : Option Purse) → in_purse
    (λ p. times_room leaf p.rooms) (option_map (with_note h l) o) ≡ in_purse (λ p. times_room leaf p.rooms) o
noted_rooms leaf h l None = refl
noted_rooms leaf h l (Some p) = refl

noted_kept : (h l : ℕ) (o : Option Purse) → kept_in_purse (option_map (with_note h l) o) ≡ kept_in_purse o
noted_kept h l None = refl
noted_kept h l (Some p) = refl

handed_ranges : (r : Range) (o : Option Purse) → in_purse (λ p. times_range r p.holds) (option_map with_stock_handed o)
    ≡ in_purse
    (λ p. times_range r p.holds) o
handed_ranges r None = refl
handed_ranges r (Some p) = refl

new_ranges : (r : Range) (o : Option Purse) → in_purse (λ p. times_range r p.holds) (option_map first_handed o) ≡ 0
new_ranges r None = refl
new_ranges r (Some p) = refl

handed_rooms : (leaf : Leaf) (o : Option Purse)
    → in_purse (λ p. times_room leaf p.rooms) (option_map with_stock_handed o)
    ≡ in_purse
    (λ p. times_room leaf p.rooms) o
handed_rooms leaf None = refl
handed_rooms leaf (Some p) = refl

new_rooms : (leaf : Leaf) (o : Option Purse) → in_purse (λ p. times_room leaf p.rooms) (option_map first_handed o) ≡ 0
new_rooms leaf None = refl
new_rooms leaf (Some p) = refl

new_kept : (kept : Kept) (o : Option Purse) → Contains (kept_in_purse (option_map first_handed o)) kept
    → kept ≡ new_number (guest_purse o).stock.from
new_kept kept None has = absurd (contains_none kept has)
new_kept kept (Some p) has =
    elim (Contains-push_cases [] (new_number p.stock.from) kept has) [
      | inl none ↦ absurd
          (contains_none kept none)
      | inr e ↦ sym e
    ]

pub no_entries_in : (h : History) → entries no_entries h ≡ []
no_entries_in (of.Leaf leaf) = refl
no_entries_in (of.Range range) = refl

first_in_stock : (o : Option Purse) → (guest_purse o).stock.from < (guest_purse o).stock.to
    → 0 < times_among (guest_purse o).stock.from (guest_purse o).stock
first_in_stock o more =
    let from : ℕ = (guest_purse o).stock.from in let to : ℕ = (guest_purse o).stock.to in
    let a : nat_lt from from ≡ false = grind (arith, nat_tests) in let b : nat_lt from to ≡ true =
    grind (arith, nat_tests) in
    let e : times_among (guest_purse o).stock.from (guest_purse o).stock ≡ 1 = (λ i. cond (not (a i) && b i) 1 0) in
    omega arith

module _ (leaves ranges : ℕ) (whole : Histories) (words : List ℕ) (seats : List SeatView)
    (rule : KeepsBookRule leaves ranges whole words seats) (id : ℕ) (v : SeatView) (is : get_elem? seats id ≡ some v)
  where
    pub was_true : IsTrue whole v
    was_true = rule.seats_true v (id, is)

    -- ---- a length is noted

    pub keeps_learned : (history length : ℕ) → KeepsBookRule leaves ranges whole words
        (set seats id (view_after_learning history length v))
    keeps_learned history length =
        let w = view_after_learning history length v in
        let same : (r : Range) → hold_count r w ≡ hold_count r v
        = λ r. let a : hold_count r w ≡ times_range r v.held + in_purse (λ p. times_range r p.holds) v.purse
        = ap (λ n. times_range r v.held + n) (noted_ranges r history length v.purse) in a in
        let still : (r : Range) → 0 < hold_count r w → 0 < hold_count r v = λ r o. let e = same r in omega arith in
        keeps_change leaves ranges whole words seats rule id v is w
        (true_alike whole v w was_true refl (λ h o. o) still
        (λ kept h has. was_true.exact kept h (subst (λ k. Contains k kept) (noted_kept history length v.purse) has))
        (joined_still whole v w v.joined refl (λ h o. o) still was_true.joined))
        (λ h. refl)
        (λ n. noted_number n history length v.purse)
        same
        (λ leaf. noted_rooms leaf history length v.purse)
        (λ kept has. subst (λ k. Contains k kept) (sym (noted_kept history length v.purse)) has)
        refl

    -- ---- a seat is split off that has nothing

    pub keeps_split_off : KeepsBookRule leaves ranges whole words (set seats id v ++ split_off v ∷ [])
    keeps_split_off =
        let right = split_off v in
        let landless : (h : History) → owns h right ≡ 0 = λ h. refl in
        let handless : (r : Range) → hold_count r right ≡ 0 = λ r. refl in
        keeps_cut leaves ranges whole words seats rule id v is v right (record {
          true_left = was_true;
          true_right = true_alike whole v right was_true refl
              (λ h o. absurd (let n = landless h in omega arith)) (λ r o. absurd (let n = handless r in omega arith))
              (λ kept h has. absurd (contains_none kept has)) tt;
          owned = λ h. let n = landless h in omega arith;
          numbers = λ n. let none : has_number n right ≡ 0 = no_number n in omega arith;
          ranges_held = λ r. let n = handless r in omega arith;
          kept = λ kept has. inl has;
          rooms = λ n low none. let e : has_room (leaf_numbered n) right ≡ 0 = refl in omega arith;
          promised_left = λ n low o. let e : has_room (leaf_numbered n) right ≡ 0 = refl in omega arith;
          promised_right = λ n low o. absurd (let e = landless (of.Leaf (leaf_numbered n)) in omega arith);
        })

    -- ---- a history is dealt out

    pub keeps_deal : (count : ℕ) → KeepsBookRule leaves ranges whole words (set seats id (after_deal count v)
        ++ dealt count v ∷ [])
    keeps_deal count =
        let left = after_deal count v in
        let right = dealt count v in
        let owned : (h : History) → owns h left + owns h right ≡ owns h v = λ h. let e : owns h right + owns h left
        ≡ owns h v
        = sum_by-take-drop (λ g. cond (same_history h g) 1 0) v.owns 1 in omega arith in
        let ranges_held : (r : Range) → hold_count r left + hold_count r right ≡ hold_count r v = λ r.
        let e : times_range r (take count v.held) + times_range r (drop count v.held) ≡ times_range r v.held
        = sum_by-take-drop (λ g. cond (same_range r g) 1 0) v.held count in
        let n : ℕ = in_purse (λ p. times_range r p.holds) v.purse in
        omega arith in
        keeps_cut leaves ranges whole words seats rule id v is left right (record {
          true_left = true_alike whole v left was_true refl
              (λ h o. let e = owned h in omega arith) (λ r o. let e = ranges_held r in
              omega arith) (λ kept h has. was_true.exact kept h has) tt;
          true_right = true_alike whole v right was_true refl
              (λ h o. let e = owned h in omega arith) (λ r o. let e = ranges_held r in
              omega arith) (λ kept h has. absurd (contains_none kept has)) tt;
          owned = owned;
          numbers = λ n. let none : has_number n right ≡ 0 = refl in let same : has_number n left ≡ has_number n v =
              refl in
              omega arith;
          ranges_held = ranges_held;
          kept = λ kept has. inl has;
          rooms = λ n low none. let e : has_room (leaf_numbered n) right ≡ 0 = refl in
              let f : has_room (leaf_numbered n) left ≡ has_room (leaf_numbered n) v = refl in omega arith;
          promised_left = λ n low o. let e : has_room (leaf_numbered n) right ≡ 0 = refl in
              let f : has_room (leaf_numbered n) left ≡ has_room (leaf_numbered n) v = refl in omega arith;
          promised_right = λ n low o. let e : has_room (leaf_numbered n) right ≡ 0 = refl in
              let f : has_room (leaf_numbered n) left ≡ has_room (leaf_numbered n) v = refl in omega arith;
        })

    -- ---- numbers

    -- no number stands in two places
    pub at_most_once : (n : ℕ) → sum_by (has_number n) seats ≤ 1
    at_most_once n =
        dite (dec_lt n NUMBER_END) (λ low. let e = rule.numbered n low in
        omega arith) (λ high. let e = rule.bounded n (let m : ℕ = NUMBER_END in omega arith) in omega arith)

    -- nobody keeps a number that stands in the stock
    not_kept : (n at : ℕ) (seat : SeatView) (kept : Kept) → 0 < times_among n (guest_purse v.purse).stock
        → get_elem? seats at ≡ some seat → Contains (kept_in_purse seat.purse) kept → kept.number ≡ n → ⊥
    not_kept n at seat kept in_stock there has under = dite (ℕ_discrete at id)
        (λ e.
        let same : seat ≡ v = some-injective seat v (sym there ∙ ap (get_elem? seats) e ∙ is) in
        let has' = subst (λ (s : SeatView). Contains (kept_in_purse s.purse) kept) same has in
        let twice : 1 < has_number n v
        = subst (λ m. 1 < has_number m v) under
        (both_count v.purse kept has' (subst (λ m. 0 < times_among m (guest_purse v.purse).stock) (sym under)
        in_stock)) in
        let most = part_of_sum (has_number n) seats id v is in
        let one = at_most_once n in
        omega arith)
        (λ apart.
        let two = parts_of_sum (has_number n) seats at id seat v apart there is in
        let mine : 0 < has_number n v = stock_counts v.purse n in_stock in
        let theirs : 0 < has_number n seat = subst (λ m. 0 < has_number m seat) under
        (kept_counts seat.purse kept has) in
        let one = at_most_once n in
        omega arith)

    -- so it has no entries
    pub unused_number : (n : ℕ) (h : History) → 0 < times_among n (guest_purse v.purse).stock
        → filter (is_under n) (entries whole h) ≡ []
    unused_number n h in_stock = filter_none (is_under n) (entries whole h) (λ e has under.
        let k = rule.kept h e has in
        not_kept n k.there.0 k.seat k.kept in_stock k.there.1 k.has
        (k.under ∙ (let p : ℕ = book_entry_pass e in let u : nat_eq p n ≡ true = under in grind (arith, nat_tests))))

    pub keeps_hand_out : (guest_purse v.purse).stock.from < (guest_purse v.purse).stock.to
        → KeepsBookRule leaves ranges whole words (set seats id (after_handed_number v) ++ handed_number v ∷ [])
    keeps_hand_out more =
        let left = after_handed_number v in
        let right = handed_number v in
        let landless : (h : History) → owns h right ≡ 0 = λ h. refl in
        let none_held : (r : Range) → times_range r [] ≡ 0 = λ r. refl in
        let handless : (r : Range) → hold_count r right ≡ 0
        = λ r. let a : in_purse (λ p. times_range r p.holds) (option_map first_handed v.purse)
        ≡ 0 = new_ranges r v.purse in
        let b = none_held r in omega arith in
        let same : (r : Range) → hold_count r left ≡ hold_count r v = λ r. ap (λ n. times_range r v.held + n)
        (handed_ranges r v.purse) in
        let still : (r : Range) → 0 < hold_count r left → 0 < hold_count r v = λ r o. let e = same r in omega arith in
        keeps_cut leaves ranges whole words seats rule id v is left right (record {
          true_left = true_alike whole v left was_true refl (λ h o. o) still
              (λ kept h has. was_true.exact kept h (subst (λ k. Contains k kept) (kept_after_handing v.purse) has))
              (joined_still whole v left v.joined refl (λ h o. o) still was_true.joined);
          true_right = true_alike whole v right was_true refl
              (λ h o. absurd (let n = landless h in omega arith)) (λ r o. absurd (let n = handless r in omega arith))
              (λ kept h has.
              let e = new_kept kept v.purse has in
              let first = (guest_purse v.purse).stock.from in
              subst (λ (k : Kept). filter (is_under k.number) (entries whole h) ≡ entries k.own h) (sym e)
              (unused_number first h
              (first_in_stock v.purse more) ∙ sym (no_entries_in h)))
              tt;
          owned = λ h. let n = landless h in omega arith;
          numbers = λ n. number_handed n v.purse more;
          ranges_held = λ r. let n = handless r in let e = same r in omega arith;
          kept = λ kept has. inl (subst (λ k. Contains k kept) (sym (kept_after_handing v.purse)) has);
          rooms = λ n low none. let a = handed_rooms (leaf_numbered n) v.purse in let b = new_rooms (leaf_numbered n)
              v.purse in
              omega arith;
          promised_left = λ n low o. let a = handed_rooms (leaf_numbered n) v.purse in
              let b = new_rooms (leaf_numbered n) v.purse in omega arith;
          promised_right = λ n low o. absurd (let e = landless (of.Leaf (leaf_numbered n)) in omega arith);
        })

    -- ---- two seats become one

    spent_is_true : IsTrue whole spent_view
    spent_is_true = record {
      seen = λ h. subst (λ xs. IsPrefix xs (entries whole h)) (sym (no_entries_in h)) (prefix_nil (entries whole h));
      own = λ h o. absurd (let none : owns h spent_view ≡ 0 = refl in omega arith);
      exact = λ kept h has. absurd (contains_none kept has);
      held = λ r h o. absurd (let none : hold_count r spent_view ≡ 0 = refl in omega arith);
      joined = tt;
    }

    pub keeps_meeting : (other : ℕ) (u : SeatView) → other ≢ id → get_elem? seats other ≡ some u
        → get_elem? (set seats id (meeting v u)) other ≡ some u → u.owns ≡ [] → u.held ≡ []
        → KeepsBookRule leaves ranges whole words (set (set seats id (meeting v u)) other spent_view)
    keeps_meeting other u apart there there' landless handless =
        let both = meeting v u in
        let theirs = rule.seats_true u (other, there) in
        let lands : (h : History) → owns h u ≡ 0 = λ h. ap (sum_by (λ g. cond (same_history h g) 1 0)) landless in
        let hands : (r : Range) → times_range r u.held ≡ 0 = λ r. ap (times_range r) handless in
        let held_both : (r : Range) → hold_count r both + hold_count r spent_view
        ≡ hold_count r v + hold_count r u = λ r.
        let a = ranges_both r v.purse u.purse in let b = hands r in let c : hold_count r spent_view
        ≡ 0 = refl in omega arith in
        let joins : (h : History) → longer (entries v.seen h) (entries u.seen h) ≡ entries both.seen h
        = λ h. sym (entries_longer v.seen u.seen h) in
        let mine : (h : History) → IsPrefix (entries v.seen h) (entries both.seen h) = λ h. subst
        (IsPrefix (entries v.seen h)) (joins h) (longer_first
        (entries v.seen h) (entries u.seen h) (entries whole h) (was_true.seen h) (theirs.seen h)) in
        let others : (h : History) → IsPrefix (entries u.seen h) (entries both.seen h) = λ h. subst
        (IsPrefix (entries u.seen h)) (joins h) (longer_second
        (entries v.seen h) (entries u.seen h) (entries whole h) (was_true.seen h) (theirs.seen h)) in
        let within : (h : History) → IsPrefix (entries both.seen h) (entries whole h) = λ h. subst
        (λ xs. IsPrefix xs (entries whole h)) (joins h) (longer_within
        (entries v.seen h) (entries u.seen h) (entries whole h) (was_true.seen h) (theirs.seen h)) in
        let own : (h : History) → 0 < owns h v → entries v.seen h ≡ entries both.seen h = λ h o.
        sym (longer_whole
        (entries v.seen h) (entries u.seen h) (subst (IsPrefix (entries u.seen h)) (sym (was_true.own h o))
        (theirs.seen h))) ∙
        joins h in
        keeps_union leaves ranges whole words seats rule id v is other u both spent_view apart there' (record {
          true_both = record {
            seen = within;
            own = λ h o. sym (own h o) ∙ was_true.own h o;
            exact = λ kept h has. elim
                (Contains-append_cases (kept_in_purse v.purse) (kept_in_purse u.purse) kept
                (subst (λ k. Contains k kept) (kept_both v.purse u.purse) has)) [
                  | inl m ↦ was_true.exact kept h m
                  | inr t ↦ theirs.exact kept h t
                ];
            held = λ r h o. dite (dec_lt 0 (hold_count r v))
                (λ m. filter_between
                (is_about r) (entries v.seen h) (entries both.seen h) (entries whole h) (mine h) (within h)
                (was_true.held r h m))
                (λ no_more. filter_between
                (is_about r) (entries u.seen h) (entries both.seen h) (entries whole h) (others h) (within h)
                (theirs.held r h
                (let e = held_both r in let c : hold_count r spent_view ≡ 0 = refl in omega arith)));
            joined = record {
              mine = mine;
              theirs = others;
              own = own;
              kept = λ r h l o. was_true.held r h
                  (let e = guest_ranges r v.purse in
                  let both' : times_range r (v.held ++ (guest_purse v.purse).holds)
                  ≡ times_range r v.held + times_range r (guest_purse v.purse).holds
                  = sum_by-append (λ other. cond (same_range r other) 1 0) v.held (guest_purse v.purse).holds in
                  omega arith);
              lent = λ r h l o. theirs.held r h (let e = guest_ranges r u.purse in let b = hands r in omega arith);
            };
          };
          true_gone = spent_is_true;
          owned = λ h. refl;
          landless = lands;
          gone_landless = λ h. refl;
          numbers = λ n. let e = number_both n v.purse u.purse in let c : has_number n spent_view
              ≡ 0 = refl in omega arith;
          ranges_held = held_both;
          rooms = λ leaf. let e = rooms_both leaf v.purse u.purse in let c : has_room leaf spent_view ≡ 0 = refl in
              omega arith;
          kept = λ kept has. subst (λ k. Contains k kept) (sym (kept_both v.purse u.purse)) (elim has [
            | inl m ↦ Contains-append_left (kept_in_purse v.purse) (kept_in_purse u.purse) kept m
            | inr t ↦ Contains-append_right (kept_in_purse v.purse) (kept_in_purse u.purse) kept t
          ]);
          promised = refl;
        })
