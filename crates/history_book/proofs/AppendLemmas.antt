-- An owner appends an entry: the book rule is kept.
use Rattle.std.proofs.Common.{◌≡◌, ℕ, ◌+◌, ◌<◌, ◌≤◌, ◌≢◌, ◌⊎◌, inl, inr, Bool, true, false, List, [], ◌∷◌, ◌++◌}
use Rattle.std.proofs.Common.{length, filter, get_or, set, refl, sym, ap, ◌∙◌, subst, arith, nat_eq, cond}
use Rattle.std.specs.Prelude.{Option, Some, None, IfSome, option_map, option_to_list}
use Rattle.std.specs.List.{Contains, sum_by}
use mathlib.Core.List.{IsPrefix}
use mathlib.Core.Option.{some}
use mathlib.Core.Logic.{dite}
use native.Mathlib.Decide.{ℕ_discrete}
use lib.ListN.{get_elem?}
use Rattle.std.proofs.Math.Decide.{dec_lt}
use Rattle.std.proofs.lemmas.Bool.Decides.{nat_tests}
use Rattle.std.proofs.lemmas.List.{append-nil, get_or-set_other, get_or-set_same, length-set, length_push}
use Rattle.std.proofs.lemmas.List.Elements.{Contains-append_cases, Contains-append_left, Contains-append_right}
use Rattle.std.proofs.lemmas.List.Elements.{Contains-push, Contains-push_cases, filter-append}
use Rattle.std.proofs.lemmas.List.Sums.{sum_by-cons}
use Rattle.mon_value.specs.declared.positions.Leaf.{Leaf}
use Rattle.mon_value.specs.declared.positions.Range.{Range}
use Rattle.history_book.specs.declared.views.BookEntry.{BookEntry}
use Rattle.mon_value.specs.declared.histories.Histories.{Histories}
use Rattle.history_book.specs.declared.views.History.{History}
use Rattle.history_book.specs.declared.views.History.TheVariants as of
use Rattle.history_book.specs.declared.views.Joined.{Joined}
use Rattle.history_book.specs.declared.views.Kept.{Kept}
use Rattle.history_book.specs.declared.views.Purse.{Purse}
use Rattle.history_book.specs.declared.views.SeatView.{SeatView}
use Rattle.mon_value.specs.Histories.{leaf_numbered, range_numbered}
use Rattle.history_book.specs.Histories.{IsFor, entries, history_numbered, is_about, is_under, book_entry_pass}
use Rattle.history_book.specs.Histories.{same_history, with_book_entry}
use Rattle.history_book.specs.Seats.{kept_in, kept_with, purse_with, times_number, times_range}
use Rattle.history_book.specs.Seats.{times_room}
use Rattle.history_book.specs.BookRule.{IsJoined, IsNumberKept, IsTrue, KeepsBookRule, has_number, has_room, hold_count}
use Rattle.history_book.specs.BookRule.{in_purse}
use Rattle.history_book.specs.BookRule.{kept_in_purse, owns}
use Rattle.history_book.specs.Steps.{view_after_append, own_history}
use Rattle.history_book.proofs.ListLemmas.{prefix_push, prefix_refl}
use Rattle.history_book.proofs.HistoryLemmas.{entries_added, entries_else, numbered_once, same_cases, same_history_refl}
use Rattle.history_book.proofs.SumLemmas.{part_of_sum, parts_of_sum, seat_cases, seat_changed, seat_stays, sum_changed}
use Rattle.history_book.proofs.PurseLemmas.{counted, kept_counts, sum_one, times_kept}
use Rattle.history_book.proofs.RuleLemmas.{no_other_owner}
use Rattle.history_book.proofs.KeepLemmas.{at_most_once}
use Rattle.mon_value.proofs.PlainLemmas.{contains_none}

filter_out : {X : Type 0} (p : X → Bool) (xs : List X) (x : X) → p x ≡ false → filter p (xs ++ x ∷ []) ≡ filter p xs
filter_out p xs x e = filter-append p xs (x ∷ []) ∙ ap (λ b. filter p xs ++ cond b (x ∷ []) []) e
    ∙ append-nil (filter p xs)

filter_in : {X : Type 0} (p : X → Bool) (xs : List X) (x : X) → p x ≡ true → filter p (xs ++ x ∷ []) ≡ filter p xs
    ++ x ∷ []
filter_in p xs x e = filter-append p xs (x ∷ []) ∙ ap (λ b. filter p xs ++ cond b (x ∷ []) []) e

kept_number : (n : ℕ) (h : History) (e : BookEntry) (o : Option Kept) (met : List Kept) → times_kept n
    (option_to_list (option_map (kept_with h e) o) ++ met) ≡ times_kept n (option_to_list o ++ met)
kept_number n h e None met = refl
kept_number n h e (Some kept) met = refl

is_or_not : (b : Bool) → (b ≡ true) ⊎ (b ≡ false)
is_or_not true = inl refl
is_or_not false = inr refl

module _ (leaves ranges : ℕ) (whole : Histories) (words : List ℕ) (seats : List SeatView)
    (rule : KeepsBookRule leaves ranges whole words seats) (id : ℕ) (v : SeatView) (is : get_elem? seats id ≡ some v)
    (n : ℕ) (low : n < leaves + ranges) (e : BookEntry) (fits : IsFor (history_numbered leaves n) e) (owns_is : v.owns
    ≡ history_numbered leaves n ∷ [])
    (p : Purse) (purse_is : v.purse ≡ Some p) (mine : Kept) (mine_is : p.own ≡ Some mine) (under : mine.number
    ≡ book_entry_pass e)
    (about : (r : Range) → is_about r e ≡ true → 0 < hold_count r v) where
  abbrev h : History
  h = history_numbered leaves n

  abbrev whole' : Histories
  whole' = with_book_entry h e whole

  abbrev w : SeatView
  w = record {
    seen = with_book_entry h e v.seen;
    joined = None;
    purse = Some (purse_with h e p);
    owns = v.owns;
    promised =
        v.promised;
    held = v.held;
    notes = v.notes;
  }

  owns_own : 0 < owns h v
  owns_own = let a : owns h v ≡ cond (same_history h h) 1 0
      = ap (sum_by (λ g. cond (same_history h g) 1 0)) owns_is ∙ sum_one (λ g. cond (same_history h g) 1 0) h in
      let b : owns h v ≡ 1 = a ∙ ap (λ c. cond c 1 0) (same_history_refl h) in omega arith

  -- ---- what stands in the grown history

  here : (a : Histories) → entries (with_book_entry h e a) h ≡ entries a h ++ e ∷ []
  here a = entries_added h e a fits

  -- what doesn't keep the entry keeps as much as before
  filter_later : (test : BookEntry → Bool) (g : History) → test e ≡ false
      → filter test (entries whole' g) ≡ filter test (entries whole g)
  filter_later test g off = elim (same_cases h g) [
    | inl same ↦ subst (λ x. filter test (entries whole' x) ≡ filter test (entries whole x)) same
        (ap (filter test) (here whole) ∙ filter_out test (entries whole h) e off)
    | inr apart ↦ ap (filter test) (entries_else h g e whole apart)
  ]

  front_later : (xs : List BookEntry) (g : History) → IsPrefix xs (entries whole g) → IsPrefix xs (entries whole' g)
  front_later xs g front = elim (same_cases h g) [
    | inl same ↦ subst (λ x. IsPrefix xs (entries whole x) → IsPrefix xs (entries whole' x)) same
        (λ f. subst (IsPrefix xs) (sym (here whole)) (prefix_push xs (entries whole h) e f)) front
    | inr apart ↦ subst (IsPrefix xs) (sym (entries_else h g e whole apart)) front
  ]

  -- ---- other seats

  no_owner : (at : ℕ) (u : SeatView) → at ≢ id → get_elem? seats at ≡ some u → 0 < owns h u → ⊥
  no_owner at u apart there o = no_other_owner leaves ranges whole words seats rule id v is n at u low apart there
      owns_own o

  has_mine : Contains (kept_in_purse v.purse) mine
  has_mine = subst (λ o. Contains (kept_in_purse o) mine) (sym purse_is) (subst
      (λ o. Contains (option_to_list o ++ p.met) mine) (sym mine_is) (Contains-append_left (mine ∷ []) p.met mine
      (Contains-push [] mine)))

  has_pass : 0 < has_number (book_entry_pass e) v
  has_pass = subst (λ m. 0 < has_number m v) under (kept_counts v.purse mine has_mine)

  no_keeper : (at : ℕ) (u : SeatView) (kept : Kept) → at ≢ id → get_elem? seats at ≡ some u
      → Contains (kept_in_purse u.purse) kept → kept.number ≡ book_entry_pass e → ⊥
  no_keeper at u kept apart there has same =
      let two = parts_of_sum (has_number (book_entry_pass e)) seats at id u v apart there is in
      let theirs : 0 < has_number (book_entry_pass e) u = subst (λ m. 0 < has_number m u) same
      (kept_counts u.purse kept has) in
      let one = at_most_once leaves ranges whole words seats rule id v is (book_entry_pass e) in
      let ours = has_pass in
      omega arith

  no_holder : (at : ℕ) (u : SeatView) (r : Range) → at ≢ id → get_elem? seats at ≡ some u → 0 < hold_count r u
      → is_about r e ≡ false
  no_holder at u r apart there o = elim (is_or_not (is_about r e)) [
    | inl yes' ↦
        let two = parts_of_sum (hold_count r) seats at id u v apart there is in
        let ours = about r yes' in
        absurd (dite (dec_lt r.0 ranges) (λ l. let one = rule.holders r.0 l in
        omega arith) (λ l. let none = rule.unheld r.0 (omega arith) in omega arith))
    | inr no' ↦ no'
  ]

  other_number : (kept : Kept) → (kept.number ≡ book_entry_pass e → ⊥) → is_under kept.number e ≡ false
  other_number kept apart = let a : ℕ = book_entry_pass e in let b : ℕ = kept.number in let d : b ≢ a = apart in
      let r : nat_eq a b ≡ false = grind (arith, nat_tests) in r

  joined_later : (at : ℕ) (u : SeatView) → at ≢ id → get_elem? seats at ≡ some u
      → (j : Option Joined) → IfSome j (IsJoined whole u) → IfSome j (IsJoined whole' u)
  joined_later at u apart there None was = was
  joined_later at u apart there (Some j) was = record {
    mine = was.mine;
    theirs = was.theirs;
    own = was.own;
    kept = λ r g l o. filter_later (is_about r) g (no_holder at u r apart there o) ∙ was.kept r g l o;
    lent = λ r g l o. filter_later (is_about r) g (no_holder at u r apart there o) ∙ was.lent r g l o;
  }

  true_later : (at : ℕ) (u : SeatView) → at ≢ id → get_elem? seats at ≡ some u → IsTrue whole' u
  true_later at u apart there = let was = rule.seats_true u (at, there) in record {
    seen = λ g. front_later (entries u.seen g) g (was.seen g);
    own = λ g o. elim (same_cases h g) [
      | inl same ↦ absurd (no_owner at u apart there (subst (λ x. 0 < owns x u) (sym same) o))
      | inr other ↦ was.own g o ∙ sym (entries_else h g e whole other)
    ];
    exact = λ kept g has. filter_later (is_under kept.number) g
        (other_number kept (no_keeper at u kept apart there has)) ∙ was.exact kept g has;
    held = λ r g o. filter_later (is_about r) g (no_holder at u r apart there o) ∙ was.held r g o;
    joined = joined_later at u apart there u.joined was.joined;
  }

  -- ---- the owner

  was : IsTrue whole v
  was = rule.seats_true v (id, is)

  own_later : entries w.seen h ≡ entries whole' h
  own_later = here v.seen ∙ ap (λ xs. xs ++ e ∷ []) (was.own h owns_own) ∙ sym (here whole)

  number_later : (m : ℕ) → has_number m w ≡ has_number m v
  number_later m =
      (let a = kept_number m h e p.own p.met in let b : has_number m w ≡ times_number m p = omega arith in b) ∙ ap
      (in_purse (times_number m)) (sym purse_is)

  holds_later : (r : Range) → hold_count r w ≡ hold_count r v
  holds_later r = ap (λ o. times_range r v.held + in_purse (λ q. times_range r q.holds) o) (sym purse_is)

  rooms_later : (leaf : Leaf) → has_room leaf w ≡ has_room leaf v
  rooms_later leaf = ap (in_purse (λ q. times_room leaf q.rooms)) (sym purse_is)

  kept_now : kept_in_purse w.purse ≡ kept_with h e mine ∷ p.met
  kept_now = ap (λ o. option_to_list (option_map (kept_with h e) o) ++ p.met) mine_is

  kept_was : kept_in_purse v.purse ≡ mine ∷ p.met
  kept_was = ap kept_in_purse purse_is ∙ ap (λ o. option_to_list o ++ p.met) mine_is

  -- a number that was met is another one
  met_apart : (kept : Kept) → Contains p.met kept → kept.number ≡ book_entry_pass e → ⊥
  met_apart kept has same =
      let m : ℕ = book_entry_pass e in
      let all : times_kept m (mine ∷ p.met) ≡ cond (nat_eq mine.number m) 1 0 + times_kept m p.met
      = sum_by-cons (λ k. cond (nat_eq k.number m) 1 0) mine p.met in
      let first : (let k : ℕ = cond (nat_eq mine.number m) 1 0 in k ≡ 1) = let a : ℕ = mine.number in let u : a ≡ m =
      under in
      let b : nat_eq a m ≡ true = grind (arith, nat_tests) in ap (λ c. cond c 1 0) b in
      let other : cond (nat_eq kept.number m) 1 0 ≤ times_kept m p.met
      = counted (λ k. cond (nat_eq k.number m) 1 0) p.met kept has in
      let second : (let k : ℕ = cond (nat_eq kept.number m) 1 0 in k ≡ 1) = let a : ℕ = kept.number in let u : a ≡ m =
      same in
      let b : nat_eq a m ≡ true = grind (arith, nat_tests) in ap (λ c. cond c 1 0) b in
      let kept_all : times_kept m (kept_in p) ≡ times_kept m (mine ∷ p.met) = ap
      (λ o. times_kept m (option_to_list o ++ p.met)) mine_is in
      let total : has_number m v ≡ times_number m p = ap (in_purse (times_number m)) purse_is in
      let one = at_most_once leaves ranges whole words seats rule id v is m in
      let part = part_of_sum (has_number m) seats id v is in
      omega arith

  exact_mine : (g : History) → filter (is_under mine.number) (entries whole' g)
      ≡ entries (with_book_entry h e mine.own) g
  exact_mine g = elim (same_cases h g) [
    | inl same ↦ subst (λ x. filter (is_under mine.number) (entries whole' x)
        ≡ entries (with_book_entry h e mine.own) x)
        same (
        ap (filter (is_under mine.number)) (here whole)
        ∙ filter_in (is_under mine.number) (entries whole h) e
        (let a : ℕ = mine.number in let b : ℕ = book_entry_pass e in let u : a ≡ b = under in
        let r : nat_eq b a ≡ true = grind (arith, nat_tests) in r)
        ∙ ap (λ xs. xs ++ e ∷ []) (was.exact mine h has_mine)
        ∙ sym (here mine.own))
    | inr apart ↦ ap (filter (is_under mine.number)) (entries_else h g e whole apart) ∙ was.exact mine g has_mine
        ∙ sym (entries_else h g e mine.own apart)
  ]

  exact_later : (kept : Kept) (g : History) → Contains (kept_in_purse w.purse) kept
      → filter (is_under kept.number) (entries whole' g) ≡ entries kept.own g
  exact_later kept g has =
      elim (Contains-append_cases (kept_with h e mine ∷ []) p.met kept (subst (λ k. Contains k kept) kept_now has)) [
        | inl own ↦ elim (Contains-push_cases [] (kept_with h e mine) kept own) [
          | inl none ↦ absurd (contains_none kept none)
          | inr same ↦ subst (λ (k : Kept). filter (is_under k.number) (entries whole' g) ≡ entries k.own g) same
              (exact_mine g)
        ]
        | inr met ↦ filter_later (is_under kept.number) g (other_number kept (met_apart kept met)) ∙ was.exact kept g
            (subst (λ k. Contains k kept) (sym kept_was) (Contains-append_right (mine ∷ []) p.met kept met))
      ]

  true_owner : IsTrue whole' w
  true_owner = record {
    seen = λ g. elim (same_cases h g) [
      | inl same ↦ subst (λ x. IsPrefix (entries w.seen x) (entries whole' x)) same
          (subst (IsPrefix (entries w.seen h)) own_later (prefix_refl (entries w.seen h)))
      | inr apart ↦ subst
          (λ xs. IsPrefix xs (entries whole' g)) (sym (entries_else h g e v.seen apart))
          (front_later (entries v.seen g) g
          (was.seen g))
    ];
    own = λ g o. elim (same_cases h g) [
      | inl same ↦ subst (λ x. entries w.seen x ≡ entries whole' x) same own_later
      | inr apart ↦ entries_else h g e v.seen apart ∙ was.own g o ∙ sym (entries_else h g e whole apart)
    ];
    exact = exact_later;
    held = λ r g o. elim (same_cases h g) [
      | inl same ↦ subst (λ x. filter (is_about r) (entries whole' x) ≡ filter (is_about r) (entries w.seen x)) same
          (ap (filter (is_about r)) (sym own_later))
      | inr apart ↦ ap (filter (is_about r)) (entries_else h g e whole apart) ∙ was.held r g
          (let s = holds_later r in omega arith) ∙ ap (filter (is_about r)) (sym (entries_else h g e v.seen apart))
    ];
    joined = tt;
  }

  -- ---- whose entry each is

  has_new : Contains (kept_in_purse w.purse) (kept_with h e mine)
  has_new = subst (λ k. Contains k (kept_with h e mine)) (sym kept_now) (Contains-append_left (kept_with h e mine ∷ [])
      p.met
      (kept_with h e mine) (Contains-push [] (kept_with h e mine)))

  kept_still : (kept : Kept) → Contains (kept_in_purse v.purse) kept
      → (kept' : Kept) × Contains (kept_in_purse w.purse) kept' × (kept'.number ≡ kept.number)
  kept_still kept has =
      elim (Contains-append_cases (mine ∷ []) p.met kept (subst (λ k. Contains k kept) kept_was has)) [
        | inl own ↦ elim (Contains-push_cases [] mine kept own) [
          | inl none ↦ absurd (contains_none kept none)
          | inr same ↦ (kept_with h e mine, has_new, ap (λ (k : Kept). k.number) same)
        ]
        | inr met ↦ (
          kept,
          subst (λ k. Contains k kept) (sym kept_now) (Contains-append_right (kept_with h e mine ∷ []) p.met kept met),
          refl,
        )
      ]

  still_kept : (x : BookEntry) → IsNumberKept seats x → IsNumberKept (set seats id w) x
  still_kept x k = elim (seat_stays seats id v w k.seat is k.there) [
    | inl same ↦ let s = kept_still k.kept (subst (λ (y : SeatView). Contains (kept_in_purse y.purse) k.kept)
        (sym same) k.has) in
        record { seat = w; there = seat_changed seats id v w is; kept = s.0; has = s.1; under = s.2 ∙ k.under }
    | inr there ↦ record { seat = k.seat; there = there; kept = k.kept; has = k.has; under = k.under }
  ]

  new_kept : IsNumberKept (set seats id w) e
  new_kept = record {
    seat = w;
    there = seat_changed seats id v w is;
    kept = kept_with h e mine;
    has = has_new;
    under =
        under;
  }

  -- ---- the whole

  length_later : (m : ℕ) (x : ℕ) → m < leaves + ranges → x ≡ length (entries whole h) + 1
      → get_or (set words (n + 1) x) (m + 1) 0 ≡ length (entries whole' (history_numbered leaves m))
  length_later m x low' grown = dite (ℕ_discrete m n)
      (λ same. subst (λ k. get_or (set words (n + 1) x) (k + 1) 0
      ≡ length (entries whole' (history_numbered leaves k))) (sym same)
      (get_or-set_same words (n + 1) x 0 (let s = rule.sized in omega arith) ∙ grown
      ∙ sym (ap length (here whole) ∙ length_push (entries whole h) e)))
      (λ apart.
      let other : same_history h (history_numbered leaves m) ≡ false
      = numbered_once leaves n m ∙ (let r : nat_eq n m ≡ false = grind (arith, nat_tests) in r) in
      get_or-set_other words (n + 1) (m + 1) x 0 (λ s. apart (omega arith)) ∙ rule.lengths m low'
      ∙ ap length (sym (entries_else h (history_numbered leaves m) e whole other)))

  keeps_grown : (x : ℕ) → x ≡ length (entries whole h) + 1
      → KeepsBookRule leaves ranges whole' (set words (n + 1) x) (set seats id w)
  keeps_grown x grown = record {
    sized = length-set words (n + 1) x ∙ rule.sized;
    lengths = λ m low'. length_later m x low' grown;
    seats_true = λ seat has. elim
        (seat_cases seats id w seat has) [
          | inl same ↦ subst
              (IsTrue whole') same true_owner
          | inr old ↦ true_later old.0 seat old.1 old.2
        ];
    owned = λ m low'.
        (let s = sum_changed (owns (history_numbered leaves m)) seats id v w is in
        let same : owns (history_numbered leaves m) w ≡ owns (history_numbered leaves m) v = refl in
        let o = rule.owned m low' in
        omega arith);
    numbered = λ m low'.
        (let s = sum_changed (has_number m) seats id v w is in let same = number_later m in
        let o = rule.numbered m low' in
        omega arith);
    bounded = λ m high.
        (let s = sum_changed (has_number m) seats id v w is in let same = number_later m in
        let o = rule.bounded m high in
        omega arith);
    kept = λ g y has. elim (same_cases h g) [
      | inl same ↦ elim
          (Contains-push_cases (entries whole h) e y
          (subst (λ xs. Contains xs y) (here whole) (subst (λ x. Contains (entries whole' x) y) (sym same) has))) [
            | inl old ↦ still_kept y (rule.kept h y old)
            | inr new ↦ subst (IsNumberKept (set seats id w)) new new_kept
          ]
      | inr apart ↦ still_kept y (rule.kept g y (subst (λ xs. Contains xs y) (entries_else h g e whole apart) has))
    ];
    promised = λ seat m low' has o.
        let s = sum_changed (has_room (leaf_numbered m)) seats id v w is in
        let same_rooms = rooms_later (leaf_numbered m) in
        elim (seat_cases seats id w seat has) [
          | inl same ↦
              let own' : 0 < owns (of.Leaf (leaf_numbered m)) v
              = subst (λ (y : SeatView). 0 < owns (of.Leaf (leaf_numbered m)) y) (sym same) o in
              let q : seat.promised ≡ v.promised = sym (ap (λ (y : SeatView). y.promised) same) in
              let o' = rule.promised v m low' (id, is) own' in
              omega arith
          | inr old ↦ let o' = rule.promised seat m low' (old.0, old.2) o in omega arith
        ];
    holders = λ m low'.
        (let s = sum_changed (hold_count (range_numbered m)) seats id v w is in
        let same = holds_later (range_numbered m) in
        let o = rule.holders m low' in omega arith);
    unheld = λ m high.
        (let s = sum_changed (hold_count (range_numbered m)) seats id v w is in
        let same = holds_later (range_numbered m) in
        let o = rule.unheld m high in omega arith);
  }

  appended_is : w ≡ view_after_append e v
  appended_is = λ i. record {
    seen = with_book_entry (own_history (sym owns_is i)) e v.seen;
    joined = None;
    purse = option_map (purse_with (own_history (sym owns_is i)) e) (sym purse_is i);
    owns = v.owns;
    promised = v.promised;
    held = v.held;
    notes = v.notes;
  }

  pub keeps_append : (x : ℕ) → x ≡ length (entries whole h) + 1
      → KeepsBookRule leaves ranges whole' (set words (n + 1) x) (set seats id (view_after_append e v))
  keeps_append x grown =
      subst (λ (y : SeatView). KeepsBookRule leaves ranges whole' (set words (n + 1) x) (set seats id y)) appended_is
      (keeps_grown x grown)
