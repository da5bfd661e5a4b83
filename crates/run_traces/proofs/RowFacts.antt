-- The rows that a feed accepted, among those that were acknowledged where it ran.
use Rattle.std.proofs.Common.{◌≡◌, ℕ, zero, suc, ◌≤◌, nat_eq, true, false, List, [], ◌∷◌, ◌++◌, Some, None}
use Rattle.std.proofs.Common.{map, filter, take, refl, sym, ap, ◌∙◌, subst, arith}
use Rattle.std.specs.List.{AllByRecursion, flat_map, list_any}
use Rattle.std.specs.Ordering.{int_eq}
use Rattle.std.proofs.lemmas.Bool.{and_from, and_parts, false≢true, eqb-true}
use Rattle.std.proofs.lemmas.Int.{ints}
use Rattle.history_book.specs.Histories.{book_entry_pass, entries}
use Rattle.history_book.specs.declared.views.BookEntry.{BookEntry}
use Rattle.history_book.specs.declared.views.BookEntry.TheVariants as one
use Rattle.history_book.specs.declared.views.History.{History}
use Rattle.history_book.specs.declared.views.History.TheVariants as of
use Rattle.mon_config.specs.Configs.{range_of_key}
use Rattle.mon_config.specs.declared.config.Config.{Config}
use Rattle.mon_topo.specs.RangeHistories.{acked_row, acknowledged_rows}
use Rattle.mon_value.proofs.SameLemmas.{same_series-Decides}
use Rattle.mon_value.specs.Histories.{range_history, same_range}
use Rattle.mon_value.specs.Same.{same_series}
use Rattle.mon_value.specs.declared.histories.Entry.TheVariants as entry
use Rattle.mon_value.specs.declared.histories.Histories.{Histories}
use Rattle.mon_value.specs.declared.histories.RangeEntry.{RangeEntry}
use Rattle.mon_value.specs.declared.histories.RangeEntry.TheVariants as range_entry
use Rattle.mon_value.specs.declared.positions.Range.{Range}
use Rattle.mon_value.specs.declared.rows.Row.{Row}
use Rattle.mon_value.specs.declared.rows.SeriesKey.{SeriesKey}
use Rattle.run_theory.specs.Parts.{between}
use Rattle.run_traces.specs.LineClaims.{FeedMade, book_row}
use Rattle.run_traces.specs.LineFeeds.{lies_in}
use Rattle.run_traces.specs.LineSwitches.{is_fed, is_row}
use Rattle.run_traces.proofs.ListFacts.{made_between, made_kept}

-- ---- acknowledgements as entries of the book

book_rows : (xs : List RangeEntry) (n : ℕ)
    → flat_map book_row (take n (map (λ e. one.Range e) xs)) ≡ acknowledged_rows (take n xs)
book_rows xs zero = refl
book_rows [] (suc n) = refl
book_rows (x ∷ xs) (suc n) = ap (λ w. acked_row x ++ w) (book_rows xs n)

module _ (config : Config) (whole : Histories) (from to : History → ℕ) (number pass : ℕ)
    (accepted : List Row) (made : History → List BookEntry) (is : FeedMade config pass accepted made)
    (exact : (h : History) → filter (λ e. nat_eq (book_entry_pass e) number) (between (from h) (to h) (entries whole h))
    ≡ made h) where
  -- what holds of all rows that a range had acknowledged by some time holds of those that the feed accepted before it
  pub rows_before : (P : Row → Type 0) (range : Range) (most : ℕ) → to (of.Range range) ≤ most
      → AllByRecursion P (acknowledged_rows (take most (range_history whole range)))
      → AllByRecursion P (filter (lies_in config range) accepted)
  rows_before P range most le all =
      let h = of.Range range in
      subst (AllByRecursion P) (ap (flat_map book_row) (exact h) ∙ is.acks range)
      (made_kept P book_row (λ e. nat_eq (book_entry_pass e) number) (between (from h) (to h) (entries whole h))
      (made_between P book_row (from h) (to h) (entries whole h) most le
      (subst (AllByRecursion P) (sym (book_rows (range_history whole range) most)) all)))

-- ---- rows

-- two rows that are one are of one series and end together
pub row_key : (row other : Row) → is_row row other ≡ true → row.key ≡ other.key
row_key row other is = (same_series-Decides row.key other.key).0
    (and_parts (same_series row.key other.key) (int_eq row.point.end other.point.end) is).0

pub row_end : (row other : Row) → is_row row other ≡ true → row.point.end ≡ other.point.end
row_end row other is =
    let e = (and_parts (same_series row.key other.key) (int_eq row.point.end other.point.end) is).1 in
    grind (arith, ints)

same_key : (a b : SeriesKey) → a ≡ b → same_series a b ≡ true
same_key a b e = (same_series-Decides a b).1 e

same_end : (row other : Row) → row.point.end ≡ other.point.end → int_eq row.point.end other.point.end ≡ true
same_end row other e = grind (arith, ints)

-- and so are two that are one with a third
pub row_joined : (w row other : Row) → is_row w row ≡ true → is_row w other ≡ true → is_row row other ≡ true
row_joined w row other a b = and_from (same_series row.key other.key) (int_eq row.point.end other.point.end)
    (same_key row.key other.key (sym (row_key w row a) ∙ row_key w other b))
    (same_end row other (sym (row_end w row a) ∙ row_end w other b))

pub lies_as : (config : Config) (range : Range) (row other : Row) → row.key ≡ other.key
    → lies_in config range row ≡ lies_in config range other
lies_as config range row other e =
    ap (λ (key : SeriesKey). lies_in config range (record { key = key; point = row.point })) e

-- a row lies in the range that its target has
pub lies_by : (config : Config) (range : Range) (row : Row) (other : Range) → range_of_key config row.key ≡ Some other
    → lies_in config range row ≡ same_range range other
lies_by config range row other is = rw is refl

pub lies_nowhere : (config : Config) (range : Range) (row : Row) → range_of_key config row.key ≡ None
    → lies_in config range row ≡ false
lies_nowhere config range row is = rw is refl

-- ---- entries

-- the row of an entry that is told to be a feed's
module _ (pass : ℕ) (accepted : List Row) (C : Type 0) where
  pub fed_row : (e : BookEntry) → is_fed pass accepted e ≡ true
      → ((w : Row) → list_any (is_row w) accepted ≡ true
      → ((other : ℕ) (rows : List Row) → is_fed other rows e ≡ true → list_any (is_row w) rows ≡ true) → C) → C
  fed_row (one.Leaf (entry.Opened by range slot held)) is use_it = absurd (false≢true is)
  fed_row (one.Leaf (entry.Put by range slot row)) is use_it =
      use_it row (and_parts (nat_eq by pass) (list_any (is_row row) accepted) is).1
      (λ other rows fed. (and_parts (nat_eq by other) (list_any (is_row row) rows) fed).1)
  fed_row (one.Leaf (entry.Trim by range slot before)) is use_it = absurd (false≢true is)
  fed_row (one.Leaf (entry.Down by)) is use_it = absurd (false≢true is)
  fed_row (one.Leaf (entry.Up by)) is use_it = absurd (false≢true is)
  fed_row (one.Range (range_entry.Opened by slot leaf)) is use_it = absurd (false≢true is)
  fed_row (one.Range (range_entry.Acked by row ack)) is use_it =
      use_it row (and_parts (nat_eq by pass) (list_any (is_row row) accepted) is).1
      (λ other rows fed. (and_parts (nat_eq by other) (list_any (is_row row) rows) fed).1)
  fed_row (one.Range (range_entry.Trimmed by before ack)) is use_it = absurd (false≢true is)
  fed_row (one.Range (range_entry.Retired by slot)) is use_it = absurd (false≢true is)

-- and its number
pub fed_pass : (pass : ℕ) (accepted : List Row) (e : BookEntry) → is_fed pass accepted e ≡ true
    → book_entry_pass e ≡ pass
fed_pass pass accepted (one.Leaf (entry.Opened by range slot held)) is = absurd (false≢true is)
fed_pass pass accepted (one.Leaf (entry.Put by range slot row)) is =
    eqb-true by pass (and_parts (nat_eq by pass) (list_any (is_row row) accepted) is).0
fed_pass pass accepted (one.Leaf (entry.Trim by range slot before)) is = absurd (false≢true is)
fed_pass pass accepted (one.Leaf (entry.Down by)) is = absurd (false≢true is)
fed_pass pass accepted (one.Leaf (entry.Up by)) is = absurd (false≢true is)
fed_pass pass accepted (one.Range (range_entry.Opened by slot leaf)) is = absurd (false≢true is)
fed_pass pass accepted (one.Range (range_entry.Acked by row ack)) is =
    eqb-true by pass (and_parts (nat_eq by pass) (list_any (is_row row) accepted) is).0
fed_pass pass accepted (one.Range (range_entry.Trimmed by before ack)) is = absurd (false≢true is)
fed_pass pass accepted (one.Range (range_entry.Retired by slot)) is = absurd (false≢true is)
