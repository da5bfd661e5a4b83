-- The places of all entries under a number, from some length of each history on: a line's own, where it ran last.
use Rattle.std.proofs.Common.{◌≡◌, ℕ, zero, suc, ◌+◌, ◌<◌, ◌≤◌, nat_eq, nat_le, ◌&&◌, ◌||◌, Bool, true, false, List, []}
use Rattle.std.proofs.Common.{◌∷◌, ◌++◌, length, map, slice_get, Some, refl, sym, ap, ◌∙◌, subst, arith}
use Rattle.std.specs.List.{flat_map, list_any, slice_index_or}
use Rattle.std.proofs.lemmas.Bool.{and_from, and_parts, false≢true}
use Rattle.std.proofs.lemmas.Bool.Decides.{nat_tests}
use Rattle.std.proofs.lemmas.List.Concat.{flat_map-append}
use Rattle.history_book.specs.Histories.{book_entry_pass, entries, same_history}
use Rattle.history_book.specs.declared.views.BookEntry.{BookEntry}
use Rattle.history_book.specs.declared.views.BookEntry.TheVariants as one
use Rattle.history_book.specs.declared.views.History.{History}
use Rattle.history_book.specs.declared.views.History.TheVariants as of
use Rattle.mon_value.proofs.LeafHistoryLemmas.{ranges_same}
use Rattle.mon_value.proofs.PlainLemmas.{equal_means, get_within}
use Rattle.mon_value.specs.Histories.{leaf_numbered, range_numbered}
use Rattle.mon_value.specs.declared.histories.Histories.{Histories}
use Rattle.mon_value.specs.declared.positions.Leaf.{Leaf}
use Rattle.mon_value.specs.declared.positions.Range.{Range}
use Rattle.query_traces.proofs.LeafLemmas.{same_leaves}
use Rattle.run_theory.proofs.Stands.{same_to}
use Rattle.run_traces.specs.LineTrims.{AreOwn}
use Rattle.run_traces.specs.RanLines.{OwnPlace, is_own}
use Rattle.run_traces.proofs.Causes.{any_split}
use Rattle.run_traces.proofs.ListFacts.{no_item, or_either}

-- ---- the places

abbrev kept : Bool → OwnPlace → List OwnPlace → List OwnPlace
kept true place places = place ∷ places
kept false place places = places

-- so many of these histories
abbrev below : (ℕ → History) → ℕ → List History
below numbered zero = []
below numbered (suc n) = numbered n ∷ below numbered n

abbrev leaf_at : ℕ → History
leaf_at n = of.Leaf (leaf_numbered n)

abbrev range_at : ℕ → History
range_at n = of.Range (range_numbered n)

module _ (number : ℕ) where
  -- in one history, whose entries are numbered on from some place
  abbrev places_under : History → ℕ → ℕ → List BookEntry → List OwnPlace
  places_under h from at [] = []
  places_under h from at (e ∷ es) = kept (nat_le from at && nat_eq (book_entry_pass e) number)
      (record { history = h; place = at }) (places_under h from (at + 1) es)

  module _ (from : History → ℕ) (seen : Histories) where
    abbrev places_in : History → List OwnPlace
    places_in h = places_under h (from h) 0 (entries seen h)

    abbrev all_histories : List History
    all_histories = below leaf_at (length seen.leaves) ++ below range_at (length seen.ranges)

    abbrev pub own_places : List OwnPlace
    own_places = flat_map places_in all_histories

-- ---- which they are

module _ {X : Type 0} (test : X → Bool) where
  any_first : (xs ys : List X) → list_any test xs ≡ true → list_any test (xs ++ ys) ≡ true
  any_first [] ys is = absurd (false≢true is)
  any_first (x ∷ xs) ys is = by (test x) (any_first xs ys) is
    where
      by : (b : Bool) → (list_any test xs ≡ true → list_any test (xs ++ ys) ≡ true)
          → (b || list_any test xs) ≡ true → (b || list_any test (xs ++ ys)) ≡ true
      by true rest is = refl
      by false rest is = rest is

  any_last : (xs ys : List X) → list_any test ys ≡ true → list_any test (xs ++ ys) ≡ true
  any_last [] ys is = is
  any_last (x ∷ xs) ys is = by (test x) (any_last xs ys is)
    where
      by : (b : Bool) → list_any test (xs ++ ys) ≡ true → (b || list_any test (xs ++ ys)) ≡ true
      by true is = refl
      by false is = is

module _ {X : Type 0} (wrap : X → BookEntry) where
  get_some : (xss : List (List X)) (i k : ℕ) (e : BookEntry)
      → slice_get (map wrap (slice_index_or xss i [])) k ≡ Some e → i < length xss
  get_some [] zero k e there = absurd (no_item k e there)
  get_some [] (suc i) k e there = absurd (no_item k e there)
  get_some (xs ∷ xss) zero k e there = omega arith
  get_some (xs ∷ xss) (suc i) k e there = let less = get_some xss i k e there in omega arith

history_itself : (h : History) → same_history h h ≡ true
history_itself (of.Leaf leaf) = same_to leaf.0 leaf.0 refl
history_itself (of.Range range) = same_to range.0 range.0 refl

histories_same : (a b : History) → same_history a b ≡ true → a ≡ b
histories_same (of.Leaf a) (of.Leaf b) is = ap (λ (l : Leaf). of.Leaf l) (same_leaves a b is)
histories_same (of.Leaf a) (of.Range b) is = absurd (false≢true is)
histories_same (of.Range a) (of.Leaf b) is = absurd (false≢true is)
histories_same (of.Range a) (of.Range b) is = ap (λ (r : Range). of.Range r) (ranges_same a b is)

module _ (number : ℕ) (h : History) (k : ℕ) where
  abbrev is_here : OwnPlace → Bool
  is_here one = same_history one.history h && nat_eq one.place k

  -- an entry under the number stands there
  record Stands (from at : ℕ) (es : List BookEntry) : Type 0 where
    index : ℕ
    entry : BookEntry
    place_is : at + index ≡ k
    there : slice_get es index ≡ Some entry
    since : from ≤ k
    under : book_entry_pass entry ≡ number

  stands_on : (from at : ℕ) (e : BookEntry) (es : List BookEntry) → Stands from (at + 1) es → Stands from at (e ∷ es)
  stands_on from at e es stands = record {
    index = suc stands.index;
    entry = stands.entry;
    place_is = let p = stands.place_is in omega arith;
    there = stands.there;
    since = stands.since;
    under = stands.under;
  }

  -- what is among the places stands there
  found_by : (other : History) (from at : ℕ) (es : List BookEntry)
      → list_any is_here (places_under number other from at es) ≡ true
      → (same_history other h ≡ true) × Stands from at es
  found_by other from at [] is = absurd (false≢true is)
  found_by other from at (e ∷ es) is =
      by (nat_le from at && nat_eq (book_entry_pass e) number) (found_by other from (at + 1) es) refl is
    where
      further : (same_history other h ≡ true) × Stands from (at + 1) es
          → (same_history other h ≡ true) × Stands from at (e ∷ es)
      further found = (found.0, stands_on from at e es found.1)

      first : (nat_le from at && nat_eq (book_entry_pass e) number) ≡ true
          → (same_history other h && nat_eq at k) ≡ true → (same_history other h ≡ true) × Stands from at (e ∷ es)
      first lies here =
          let two = and_parts (same_history other h) (nat_eq at k) here in
          let under = and_parts (nat_le from at) (nat_eq (book_entry_pass e) number) lies in
          let place : at ≡ k = equal_means at k two.1 in
          let le = under.0 in (
            two.0,
            record {
              index = 0;
              entry = e;
              place_is = omega arith;
              there = refl;
              since = grind (arith, nat_tests);
              under = equal_means (book_entry_pass e) number under.1;
            },
          )

      by : (b : Bool)
          → (list_any is_here (places_under number other from (at + 1) es) ≡ true
          → (same_history other h ≡ true) × Stands from (at + 1) es)
          → (nat_le from at && nat_eq (book_entry_pass e) number) ≡ b
          → list_any is_here (kept b (record { history = other; place = at })
          (places_under number other from (at + 1) es)) ≡ true
          → (same_history other h ≡ true) × Stands from at (e ∷ es)
      by true rest lies is = or_either (same_history other h && nat_eq at k)
          (list_any is_here (places_under number other from (at + 1) es))
          ((same_history other h ≡ true) × Stands from at (e ∷ es)) is (first lies)
          (λ more. further (rest more))
      by false rest lies is = further (rest is)

  -- and what stands there is among them
  among : (from at j : ℕ) (es : List BookEntry) (e : BookEntry) → slice_get es j ≡ Some e → at + j ≡ k → from ≤ k
      → book_entry_pass e ≡ number → list_any is_here (places_under number h from at es) ≡ true
  among from at j [] e there place since under = absurd (no_item j e there)
  among from at zero (x ∷ es) e there place since under =
      let same : x ≡ e = cc in
      let here : at ≡ k = omega arith in
      let le : nat_le from at ≡ true = grind (arith, nat_tests) in
      subst (λ b. list_any is_here (kept b (record { history = h; place = at })
      (places_under number h from (at + 1) es)) ≡ true)
      (sym (and_from (nat_le from at) (nat_eq (book_entry_pass x) number) le
      (same_to (book_entry_pass x) number (ap book_entry_pass same ∙ under))))
      (ap (λ b. b || list_any is_here (places_under number h from (at + 1) es))
      (and_from (same_history h h) (nat_eq at k) (history_itself h) (same_to at k here)))
  among from at (suc j) (x ∷ es) e there place since under =
      by (nat_le from at && nat_eq (book_entry_pass x) number)
      (among from (at + 1) j es e there (omega arith) since under)
    where
      by : (b : Bool) → list_any is_here (places_under number h from (at + 1) es) ≡ true
          → list_any is_here (kept b (record { history = h; place = at })
          (places_under number h from (at + 1) es)) ≡ true
      by true is = any_last is_here (record { history = h; place = at } ∷ [])
          (places_under number h from (at + 1) es) is
      by false is = is

module _ {X Y : Type 0} (test : Y → Bool) (make : X → List Y) where
  of_some : (xs : List X) (C : Type 0) → list_any test (flat_map make xs) ≡ true
      → ((x : X) → list_any test (make x) ≡ true → C) → C
  of_some [] C is use_it = absurd (false≢true is)
  of_some (x ∷ xs) C is use_it = any_split test (make x) (flat_map make xs) C is (use_it x)
      (λ rest. of_some xs C rest use_it)

of_numbered : (test : OwnPlace → Bool) (make : History → List OwnPlace) (numbered : ℕ → History) (m n : ℕ) → n < m
    → list_any test (make (numbered n)) ≡ true → list_any test (flat_map make (below numbered m)) ≡ true
of_numbered test make numbered zero n less is = absurd (omega arith)
of_numbered test make numbered (suc m) n less is =
    by (nat_eq n m) (λ before. of_numbered test make numbered m n before is) refl
  where
    by : (b : Bool) → (n < m → list_any test (flat_map make (below numbered m)) ≡ true) → nat_eq n m ≡ b
        → list_any test (flat_map make (below numbered (suc m))) ≡ true
    by true rest same =
        let last : n ≡ m = equal_means n m same in
        any_first test (make (numbered m)) (flat_map make (below numbered m))
        (subst (λ i. list_any test (make (numbered i)) ≡ true) last is)
    by false rest other =
        let before : n < m = grind (arith, nat_tests) in
        any_last test (make (numbered m)) (flat_map make (below numbered m))
        (rest before)

both_flat : (test : OwnPlace → Bool) (make : History → List OwnPlace) (xs ys : List History)
    → (list_any test (flat_map make xs) ≡ true → list_any test (flat_map make (xs ++ ys)) ≡ true)
    × (list_any test (flat_map make ys) ≡ true → list_any test (flat_map make (xs ++ ys)) ≡ true)
both_flat test make xs ys = (
  (λ is. subst (λ w. list_any test w ≡ true) (sym (flat_map-append make xs ys))
      (any_first test (flat_map make xs) (flat_map make ys) is)),
  (λ is. subst (λ w. list_any test w ≡ true) (sym (flat_map-append make xs ys))
      (any_last test (flat_map make xs) (flat_map make ys) is)),
)

module _ (number : ℕ) (from : History → ℕ) (seen : Histories) where
  -- a place of a history that there is
  abbrev IsAmong : History → ℕ → Type 0
  IsAmong h k = is_own (own_places number from seen) h k ≡ true

  stands_there : (h : History) (k : ℕ) → IsAmong h k → Stands number h k (from h) 0 (entries seen h)
  stands_there h k mine = of_some (is_here number h k) (places_in number from seen) (all_histories number from seen)
      (Stands number h k (from h) 0 (entries seen h)) mine
      (λ other is.
      let found = found_by number h k other (from other) 0 (entries seen other) is in
      subst (λ w. Stands number h k (from w) 0 (entries seen w)) (histories_same other h found.0) found.1)

  stands_among : (h : History) (k : ℕ) (e : BookEntry) → slice_get (entries seen h) k ≡ Some e → from h ≤ k
      → book_entry_pass e ≡ number → list_any (is_here number h k) (places_in number from seen h) ≡ true
  stands_among h k e there since under =
      among number h k (from h) 0 k (entries seen h) e there (omega arith) since under

  is_among : (h : History) (k : ℕ) (e : BookEntry) → slice_get (entries seen h) k ≡ Some e → from h ≤ k
      → book_entry_pass e ≡ number → IsAmong h k
  is_among (of.Leaf leaf) k e there since under =
      (both_flat (is_here number (of.Leaf leaf) k) (places_in number from seen) (below leaf_at (length seen.leaves))
      (below range_at (length seen.ranges))).0
      (of_numbered (is_here number (of.Leaf leaf) k) (places_in number from seen) leaf_at (length seen.leaves) leaf.0
      (get_some (λ e. one.Leaf e) seen.leaves leaf.0 k e there)
      (stands_among (of.Leaf leaf) k e there since under))
  is_among (of.Range range) k e there since under =
      (both_flat (is_here number (of.Range range) k) (places_in number from seen) (below leaf_at (length seen.leaves))
      (below range_at (length seen.ranges))).1
      (of_numbered (is_here number (of.Range range) k) (places_in number from seen) range_at (length seen.ranges)
      range.0 (get_some (λ e. one.Range e) seen.ranges range.0 k e there)
      (stands_among (of.Range range) k e there since under))

  pub are_own_places : AreOwn seen from (λ h. length (entries seen h)) number (own_places number from seen)
  are_own_places = record {
    within = λ h k mine.
        let stands = stands_there h k mine in
        let place : stands.index ≡ k = let p = stands.place_is in omega arith in (
          stands.since,
          subst (λ n. n < length (entries seen h)) place
              (get_within (entries seen h) stands.index stands.entry stands.there),
        );
    under = λ h k e there mine.
        let stands = stands_there h k mine in
        let place : stands.index ≡ k = let p = stands.place_is in omega arith in
        let here = subst (λ n. slice_get (entries seen h) n ≡ Some stands.entry) place stands.there in
        let same : stands.entry ≡ e = cc in
        ap book_entry_pass (sym same) ∙ stands.under;
    all = λ h k e there low high under. is_among h k e there low under;
  }
