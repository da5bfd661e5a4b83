-- Ranges that are held and taken back, and a range's history in the words of the book.
use Rattle.std.proofs.Common.{◌≡◌, ℕ, ◌+◌, ◌<◌, Bool, true, false, not, List, [], ◌∷◌, ◌++◌, length, map, filter, refl}
use Rattle.std.proofs.Common.{sym, ap, ◌∙◌, arith, cond}
use Rattle.std.specs.List.{flat_map}
use Rattle.std.proofs.lemmas.List.{length-map}
use Rattle.std.proofs.lemmas.List.Elements.{filter-append}
use Rattle.std.proofs.lemmas.List.Sums.{sum_by-append, sum_by-cons}
use Rattle.history_book.specs.declared.views.BookEntry.{BookEntry}
use Rattle.history_book.specs.declared.views.BookEntry.TheVariants as one
use Rattle.history_book.specs.declared.views.History.TheVariants as of
use Rattle.history_book.specs.Histories.{entries}
use Rattle.history_book.specs.Seats.{times_range}
use Rattle.mon_value.specs.Histories.{range_history, same_range}
use Rattle.mon_value.specs.declared.histories.Histories.{Histories}
use Rattle.mon_value.specs.declared.histories.RangeEntry.{RangeEntry}
use Rattle.mon_value.specs.declared.positions.Range.{Range}
use Rattle.range_cell.specs.Rest.{others}

-- ---- held ranges

module _ (range : Range) where
  others_at : (x : Range) (rest : List Range) (b : Bool) → same_range range x ≡ b → others range rest ≡ []
      → others range (cond b (x ∷ rest) rest) ≡ []
  others_at x rest true is none = ap (λ b. cond (not b) (x ∷ others range rest) (others range rest)) is ∙ none
  others_at x rest false is none = none

  others_none : (xs : List Range) → others range (filter (same_range range) xs) ≡ []
  others_none [] = refl
  others_none (x ∷ xs) =
      others_at x (filter (same_range range) xs) (same_range range x) refl (others_none xs)

  -- a range that is taken back is no other
  pub others_rest : (held xs : List Range) → others range held ≡ []
      → others range (held ++ filter (same_range range) xs) ≡ []
  others_rest held xs none =
      filter-append (λ other. not (same_range range other)) held (filter (same_range range) xs)
      ∙ ap (λ ys. ys ++ others range (filter (same_range range) xs)) none ∙ others_none xs

  counted_more : (x : Range) (xs : List Range) → times_range range (x ∷ xs)
      ≡ cond {A = ℕ} (same_range range x) 1 0 + times_range range xs
  counted_more x xs = sum_by-cons (λ r. cond {A = ℕ} (same_range range r) 1 0) x xs

  taken_at : (x : Range) (xs rest : List Range) (b : Bool) → same_range range x ≡ b
      → times_range range rest ≡ times_range range xs
      → times_range range (cond b (x ∷ rest) rest) ≡ times_range range (x ∷ xs)
  taken_at x xs rest true is same =
      counted_more x rest ∙ ap (λ n. cond {A = ℕ} (same_range range x) 1 0 + n) same ∙ sym (counted_more x xs)
  taken_at x xs rest false is same =
      let more : times_range range (x ∷ xs) ≡ cond {A = ℕ} false 1 0 + times_range range xs =
      counted_more x xs ∙ ap (λ b. cond {A = ℕ} b 1 0 + times_range range xs) is in
      omega arith

  -- and it is taken back as often as it was held
  pub taken_back : (xs : List Range) → times_range range (filter (same_range range) xs) ≡ times_range range xs
  taken_back [] = refl
  taken_back (x ∷ xs) = taken_at x xs (filter (same_range range) xs) (same_range range x) refl (taken_back xs)

  pub more_held : (held xs : List Range) → 0 < times_range range held → 0 < times_range range (held ++ xs)
  more_held held xs some =
      let both : times_range range (held ++ xs) ≡ times_range range held + times_range range xs =
      sum_by-append (λ r. cond {A = ℕ} (same_range range r) 1 0) held xs in
      omega arith

-- ---- the book's entries

abbrev range_entry_of_book : BookEntry → List RangeEntry
range_entry_of_book (one.Leaf e) = []
range_entry_of_book (one.Range e) = e ∷ []

back : (h : List RangeEntry) → flat_map range_entry_of_book (map (λ e. one.Range e) h) ≡ h
back [] = refl
back (e ∷ h) = ap (λ rest. e ∷ rest) (back h)

-- the histories are the same where the book's entries are
pub unmapped_range : (r : Range) (a b : Histories) → entries a (of.Range r) ≡ entries b (of.Range r)
    → range_history a r ≡ range_history b r
unmapped_range r a b e = sym (back (range_history a r)) ∙ ap (flat_map range_entry_of_book) e ∙ back (range_history b r)

pub counted_range : (r : Range) (a : Histories) → length (entries a (of.Range r)) ≡ length (range_history a r)
counted_range r a = length-map (range_history a r) (λ (e : RangeEntry). one.Range e)
