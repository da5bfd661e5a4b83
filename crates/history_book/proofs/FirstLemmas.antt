-- A new book keeps the book rule, and its owners are dealt out in order.
use Rattle.std.proofs.Common.{◌≡◌, ℕ, zero, suc, ◌+◌, ◌<◌, ◌≤◌, ◌≢◌, List, [], ◌∷◌, length, filter, get_or}
use Rattle.std.proofs.Common.{replicate, refl, sym, ap, ◌∙◌, subst, arith, nat_eq, true, false, cond, inl, inr}
use Rattle.std.specs.List.{Contains, sum_by}
use mathlib.Core.Logic.{dite}
use native.Mathlib.Decide.{ℕ_discrete}
use Rattle.std.proofs.Math.Decide.{dec_lt}
use Rattle.std.proofs.lemmas.Bool.Decides.{nat_tests}
use Rattle.std.proofs.lemmas.List.{length-replicate}
use Rattle.std.proofs.lemmas.List.Elements.{Contains-push_cases}
use Rattle.std.proofs.lemmas.List.Sums.{sum_by-cons}
use Rattle.history_book.specs.declared.numbers.TheConstants.{NUMBER_END}
use Rattle.mon_value.specs.declared.histories.Histories.{Histories}
use Rattle.history_book.specs.declared.views.Kept.{Kept}
use Rattle.history_book.specs.declared.views.SeatView.{SeatView}
use Rattle.history_book.specs.Books.{word_count}
use Rattle.history_book.specs.Histories.{empty_histories, entries, histories_in, history_numbered, is_under}
use Rattle.mon_value.specs.Histories.{range_numbered, same_range}
use Rattle.history_book.specs.Histories.{numbers_on, same_history}
use Rattle.history_book.specs.Numbers.{numbers_between, times_among}
use Rattle.history_book.specs.Seats.{new_number, times_range}
use Rattle.history_book.specs.BookRule.{BookHolds, IsTrue, has_number, hold_count, owns}
use Rattle.history_book.specs.Steps.{first_view, ranges_on}
use Rattle.history_book.proofs.ListLemmas.{prefix_refl}
use Rattle.history_book.proofs.HistoryLemmas.{no_entries_at, numbered_once}
use Rattle.history_book.proofs.SumLemmas.{seat_alone}
use Rattle.history_book.proofs.PurseLemmas.{among_high, among_yes, cut_among, none_among, one_if_same}
use Rattle.history_book.proofs.PurseLemmas.{sum_one}
use Rattle.history_book.proofs.KeepLemmas.{no_entries_in}
use Rattle.mon_value.proofs.PlainLemmas.{sum_by-map, contains_none}

-- ---- how often a number stands in a row of numbers

sum_alike : {X : Type 0} (f g : X → ℕ) → ((x : X) → f x ≡ g x) → (xs : List X) → sum_by f xs ≡ sum_by g xs
sum_alike f g same [] = refl
sum_alike f g same (x ∷ xs) = sum_by-cons f x xs ∙ (λ i. same x i + sum_alike f g same xs i) ∙ sym (sum_by-cons g x xs)

past_all : (n first count : ℕ) → n < first → sum_by (one_if_same n) (numbers_on first count) ≡ 0
past_all n first zero low = refl
past_all n first (suc count) low =
    let all : sum_by (one_if_same n) (numbers_on first (suc count)) ≡ one_if_same n first + sum_by
    (one_if_same n) (numbers_on (first + 1) count) = sum_by-cons (one_if_same n) first (numbers_on (first + 1) count) in
    let later : sum_by (one_if_same n) (numbers_on (first + 1) count) ≡ 0 = past_all n (first + 1) count
    (omega arith) in
    let here : one_if_same n first ≡ 0 = let b : nat_eq n first ≡ false = grind (arith, nat_tests) in
    ap (λ c. cond c 1 0) b in
    omega arith

behind_all : (n first count : ℕ) → first + count ≤ n → sum_by (one_if_same n) (numbers_on first count) ≡ 0
behind_all n first zero high = refl
behind_all n first (suc count) high =
    let all : sum_by (one_if_same n) (numbers_on first (suc count)) ≡ one_if_same n first + sum_by
    (one_if_same n) (numbers_on (first + 1) count) = sum_by-cons (one_if_same n) first (numbers_on (first + 1) count) in
    let later : sum_by (one_if_same n) (numbers_on (first + 1) count) ≡ 0 = behind_all n (first + 1) count
    (omega arith) in
    let here : one_if_same n first ≡ 0 = let b : nat_eq n first ≡ false = grind (arith, nat_tests) in
    ap (λ c. cond c 1 0) b in
    omega arith

beyond : (a n : ℕ) → a ≤ n → n ≢ a → a + 1 ≤ n
beyond a n l apart = dite (dec_lt a n) (λ h. omega arith) (λ h. absurd (apart (omega arith)))

once_among : (n first count : ℕ) → first ≤ n → n < first + count → sum_by (one_if_same n) (numbers_on first count) ≡ 1
once_among n first zero low high = absurd (omega arith)
once_among n first (suc count) low high =
    let all : sum_by (one_if_same n) (numbers_on first (suc count)) ≡ one_if_same n first + sum_by
    (one_if_same n) (numbers_on (first + 1) count) = sum_by-cons (one_if_same n) first (numbers_on (first + 1) count) in
    dite (ℕ_discrete n first)
    (λ e.
    let later : sum_by (one_if_same n) (numbers_on (first + 1) count) ≡ 0 = past_all n (first + 1) count
    (omega arith) in
    let here : one_if_same n first ≡ 1 = let b : nat_eq n first ≡ true = grind (arith, nat_tests) in
    ap (λ c. cond c 1 0) b in
    omega arith)
    (λ apart.
    let later : sum_by (one_if_same n) (numbers_on (first + 1) count) ≡ 1
    = once_among n (first + 1) count (beyond first n low apart) (omega arith) in
    let here : one_if_same n first ≡ 0 = let b : nat_eq n first ≡ false = grind (arith, nat_tests) in
    ap (λ c. cond c 1 0) b in
    omega arith)

histories_once : (leaves ranges n : ℕ) → n < leaves + ranges
    → sum_by (λ g. cond (same_history (history_numbered leaves n) g) 1 0) (histories_in leaves ranges) ≡ 1
histories_once leaves ranges n low =
    sum_by-map (λ g. cond (same_history (history_numbered leaves n) g) 1 0) (history_numbered leaves) (numbers_on 0
    (leaves + ranges))
    ∙ sum_alike (λ m. cond (same_history (history_numbered leaves n) (history_numbered leaves m)) 1 0) (one_if_same n)
    (λ m. ap
    (λ c. cond c 1 0) (numbered_once leaves n m)) (numbers_on 0 (leaves + ranges))
    ∙ once_among n 0 (leaves + ranges) (omega arith) (omega arith)

ranges_counted : (ranges n : ℕ) → times_range (range_numbered n) (ranges_on 0 ranges) ≡ sum_by
    (one_if_same n) (numbers_on 0 ranges)
ranges_counted ranges n = sum_by-map (λ r. cond (same_range (range_numbered n) r) 1 0) range_numbered
    (numbers_on 0 ranges)

-- ---- a new book

zeros_read : (n i : ℕ) → get_or (replicate n zero) i zero ≡ zero
zeros_read zero i = refl
zeros_read (suc n) zero = refl
zeros_read (suc n) (suc i) = zeros_read n i

pub first_numbers : (n leaves ranges : ℕ) → has_number n (first_view leaves ranges) ≡ times_among n
    (numbers_between 0 NUMBER_END)
first_numbers n leaves ranges =
    let all = cut_among n 0 1 NUMBER_END
    (let m : ℕ = NUMBER_END in omega arith) (omega arith) (let m : ℕ = NUMBER_END in omega arith) in
    let none = none_among n 1 in
    let one : sum_by (λ (k : Kept). one_if_same k.number n) (new_number 0 ∷ []) ≡ one_if_same 0 n
    = sum_one (λ k. one_if_same k.number n) (new_number 0) in
    let b : sum_by (times_among n) [] ≡ 0 = refl in
    omega arith

module _ (leaves ranges : ℕ) where
  abbrev whole : Histories
  whole = empty_histories leaves ranges

  abbrev v : SeatView
  v = first_view leaves ranges

  first_true : IsTrue whole v
  first_true = record {
    seen = λ h. prefix_refl (entries whole h);
    own = λ h o. refl;
    exact = λ kept h has. elim (Contains-push_cases [] (new_number 0) kept has) [
      | inl none ↦ absurd (contains_none kept none)
      | inr e ↦ subst (λ (k : Kept). filter (is_under k.number) (entries whole h) ≡ entries k.own h) e
          (ap (filter (is_under 0)) (no_entries_at leaves ranges h) ∙ sym (no_entries_in h))
    ];
    held = λ r h o. refl;
    joined = tt;
  }

  alone : (f : SeatView → ℕ) → sum_by f (v ∷ []) ≡ f v
  alone f = sum_one f v

  pub rule_at_first : (count : ℕ) → count ≡ word_count leaves ranges
      → BookHolds leaves ranges (replicate count 0) (first_view leaves ranges ∷ [])
  rule_at_first count e = (
    whole,
    record {
      sized = length-replicate count 0 ∙ e;
      lengths = λ n low. zeros_read count (n + 1)
          ∙ sym (ap length (no_entries_at leaves ranges (history_numbered leaves n)));
      seats_true = λ seat has. subst (IsTrue whole) (seat_alone v seat has) first_true;
      owned = λ n low. alone (owns (history_numbered leaves n)) ∙ histories_once leaves ranges n low;
      numbered = λ n low. alone (has_number n) ∙ first_numbers n leaves ranges ∙ among_yes n 0 NUMBER_END (omega arith)
          low;
      bounded = λ n high. alone (has_number n) ∙ first_numbers n leaves ranges
          ∙ among_high n 0 NUMBER_END (let m : ℕ = NUMBER_END in omega arith);
      kept = λ h x has. absurd (contains_none x (subst (λ xs. Contains xs x) (no_entries_at leaves ranges h) has));
      promised = λ seat n low has o. ap (λ (s : SeatView). s.promised) (sym (seat_alone v seat has));
      holders = λ n low. alone (hold_count (range_numbered n)) ∙
          (let a = ranges_counted ranges n in let b = once_among n 0 ranges (omega arith) (omega arith) in omega arith);
      unheld = λ n high. alone (hold_count (range_numbered n)) ∙
          (let a = ranges_counted ranges n in let b = behind_all n 0 ranges (omega arith) in omega arith);
    },
  )
