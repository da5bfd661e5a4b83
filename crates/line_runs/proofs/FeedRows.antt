-- Rows of histories: those that come later in a source are none of those before, and entries acknowledge them.
use Rattle.std.proofs.Common.{◌≡◌, ℕ, zero, suc, ◌<◌, ◌≤◌, nat_eq, ◌&&◌, ◌||◌, Bool, true, false, cond, List, []}
use Rattle.std.proofs.Common.{◌∷◌, ◌++◌, length, map, filter, take, drop, slice_get, Some, refl, sym, ap, ◌∙◌, subst}
use Rattle.std.proofs.Common.{arith}
use Rattle.std.specs.List.{AllByRecursion, flat_map, list_any}
use Rattle.std.specs.Ordering.{int_eq}
use Rattle.std.proofs.lemmas.Bool.{and_from, false≢true, false_from_ne_true}
use Rattle.std.proofs.lemmas.Int.{ints}
use Rattle.std.proofs.lemmas.List.{take-append-drop}
use Rattle.std.proofs.lemmas.List.Concat.{flat_map-append}
use mathlib.Core.List.{IsPrefix}
use Rattle.history_book.specs.declared.views.BookEntry.{BookEntry}
use Rattle.history_book.specs.declared.views.BookEntry.TheVariants as one
use Rattle.mon_topo.specs.RangeHistories.{acked_row, acknowledged_rows}
use Rattle.mon_value.proofs.SameLemmas.{same_series-Decides}
use Rattle.mon_value.specs.Same.{same_series}
use Rattle.mon_value.specs.LeafHistories.{EndsBefore, IsSource}
use Rattle.mon_value.specs.declared.histories.RangeEntry.{RangeEntry}
use Rattle.mon_value.specs.declared.rows.Row.{Row}
use Rattle.run_theory.proofs.Callers.{both_all}
use Rattle.run_traces.specs.LineClaims.{book_row}
use Rattle.run_traces.specs.LineSwitches.{is_row}
use Rattle.run_traces.proofs.ListFacts.{all_as, last_all}
use Rattle.run_traces.proofs.RowFacts.{row_key, row_end}
use Rattle.mon_value.proofs.PlainLemmas.{equal_itself}

-- ---- lists

module _ {X : Type 0} where
  pub each_of : (P : X → Type 0) → ((x : X) → P x) → (xs : List X) → AllByRecursion P xs
  each_of P f [] = tt
  each_of P f (x ∷ xs) = (f x, each_of P f xs)

  kept_by : (P : X → Type 0) (p : X → Bool) (x : X) (xs : List X) (b : Bool) → p x ≡ b
      → AllByRecursion P (cond b (x ∷ filter p xs) (filter p xs))
      → (p x ≡ true → P x) × AllByRecursion P (filter p xs)
  kept_by P p x xs true is all = (λ passes. all.0, all.1)
  kept_by P p x xs false is all = (λ passes. absurd (false≢true (sym is ∙ passes)), all)

  -- what holds of all that a test keeps holds of each that passes
  pub kept_all : (P : X → Type 0) (p : X → Bool) (xs : List X) → AllByRecursion P (filter p xs)
      → AllByRecursion (λ x. p x ≡ true → P x) xs
  kept_all P p [] all = tt
  kept_all P p (x ∷ xs) all =
      let two = kept_by P p x xs (p x) refl all in (two.0, kept_all P p xs two.1)

  -- what stands behind a length stands in what lies there
  pub behind_stands : (n : ℕ) (xs : List X) (k : ℕ) (y : X) → slice_get xs k ≡ Some y → n ≤ k
      → (j : ℕ) × (slice_get (drop n xs) j ≡ Some y)
  behind_stands zero xs k y there low = (k, there)
  behind_stands (suc n) [] k y there low = (k, there)
  behind_stands (suc n) (x ∷ xs) zero y there low = absurd (omega arith)
  behind_stands (suc n) (x ∷ xs) (suc k) y there low = behind_stands n xs k y there (omega arith)

  front_by : (front rest : List X) (k : ℕ) (y : X) → slice_get (front ++ rest) k ≡ Some y → k < length front
      → slice_get front k ≡ Some y
  front_by [] rest k y there less = absurd (omega arith)
  front_by (x ∷ front) rest zero y there less = there
  front_by (x ∷ front) rest (suc k) y there less = front_by front rest k y there (omega arith)

  -- what stands within a front stands in it
  pub front_stands : (front all : List X) (p : IsPrefix front all) (k : ℕ) (y : X) → slice_get all k ≡ Some y
      → k < length front → slice_get front k ≡ Some y
  front_stands front all p k y there less = front_by front p.0 k y (ap (λ w. slice_get w k) p.1 ∙ there) less

  pub at_end : (front : List X) (y : X) (rest : List X) → slice_get (front ++ y ∷ rest) (length front) ≡ Some y
  at_end [] y rest = refl
  at_end (x ∷ front) y rest = at_end front y rest

  pub any_first : (test : X → Bool) (xs ys : List X) → list_any test xs ≡ true → list_any test (xs ++ ys) ≡ true
  any_first test [] ys is = absurd (false≢true is)
  any_first test (x ∷ xs) ys is = more_of (test x) (list_any test xs) (list_any test (xs ++ ys)) is
      (any_first test xs ys)
    where
      more_of : (a b c : Bool) → (a || b) ≡ true → (b ≡ true → c ≡ true) → (a || c) ≡ true
      more_of true b c is more = refl
      more_of false b c is more = more is

  pub any_last : (test : X → Bool) (xs ys : List X) → list_any test ys ≡ true → list_any test (xs ++ ys) ≡ true
  any_last test [] ys is = is
  any_last test (x ∷ xs) ys is = or_last (test x) (list_any test (xs ++ ys)) (any_last test xs ys is)
    where
      or_last : (a b : Bool) → b ≡ true → (a || b) ≡ true
      or_last true b is = refl
      or_last false b is = is

-- ---- sources

-- none of these rows is of the row's series with its end
abbrev pub IsNone : Row → List Row → Type 0
IsNone row olds = AllByRecursion (λ old. is_row row old ≡ false) olds

ends_apart : (old row : Row) → EndsBefore old row → is_row row old ≡ false
ends_apart old row before = false_from_ne_true (is_row row old) (λ is.
    let less = before ((same_series-Decides old.key row.key).1 (sym (row_key row old is))) in
    let same = row_end row old is in omega (arith, ints))

-- what comes later in a source is nothing that came before
pub source_behind : (olds rows : List Row) → IsSource (olds ++ rows) → AllByRecursion (λ row. IsNone row olds) rows
source_behind [] rows source = each_of (λ row. IsNone row []) (λ row. tt) rows
source_behind (old ∷ olds) rows source =
    both_all (λ row. is_row row old ≡ false) (λ row. IsNone row olds) rows
    (all_as (EndsBefore old) (λ row. is_row row old ≡ false) (ends_apart old) rows
    (last_all (EndsBefore old) olds rows source.0))
    (source_behind olds rows source.1)

-- ---- rows of entries

pub book_rows : (xs : List RangeEntry) → flat_map book_row (map (λ e. one.Range e) xs) ≡ acknowledged_rows xs
book_rows [] = refl
book_rows (x ∷ xs) = ap (λ w. acked_row x ++ w) (book_rows xs)

pub rows_dropped : (P : Row → Type 0) (n : ℕ) (es : List BookEntry) → AllByRecursion P (flat_map book_row es)
    → AllByRecursion P (flat_map book_row (drop n es))
rows_dropped P n es all =
    last_all P (flat_map book_row (take n es)) (flat_map book_row (drop n es))
    (subst (AllByRecursion P) (ap (flat_map book_row) (sym (take-append-drop n es))
    ∙ flat_map-append book_row (take n es) (drop n es)) all)

-- ---- whose an entry is

pub row_itself : (row : Row) → is_row row row ≡ true
row_itself row = and_from (same_series row.key row.key) (int_eq row.point.end row.point.end)
    ((same_series-Decides row.key row.key).1 refl) (grind (arith, ints))

pub fed_itself : (pass : ℕ) (row : Row) → (nat_eq pass pass && list_any (is_row row) (row ∷ [])) ≡ true
fed_itself pass row = and_from (nat_eq pass pass) (list_any (is_row row) (row ∷ [])) (equal_itself pass)
    (ap (λ b. b || false) (row_itself row))
