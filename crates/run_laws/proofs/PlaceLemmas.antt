-- A line outside of blocks that made nothing stands at one length of each history: whatever lies before is of the lines
-- before it, and whatever lies behind of those behind it.
use Rattle.std.proofs.Common.{◌≡◌, ◌⊎◌, inl, inr, ℕ, zero, suc, ◌<◌, ◌≤◌, nat_le, Bool, true, false, ◌||◌, cond, List, []}
use Rattle.std.proofs.Common.{◌∷◌, ◌++◌, append_assoc, length, slice_get, Some, refl, sym, ◌∙◌, subst, arith}
use Rattle.std.specs.List.{list_any}
use Rattle.std.proofs.lemmas.Bool.{cases_lt, false≢true}
use Rattle.std.proofs.lemmas.Bool.Decides.{nat_tests}
use Rattle.std.proofs.lemmas.List.Folds.{list_any-append}
use Rattle.history_book.specs.Histories.{AreFronts, entries}
use Rattle.history_book.specs.declared.views.BookEntry.{BookEntry}
use Rattle.history_book.specs.declared.views.History.{History}
use Rattle.history_book.specs.declared.views.History.TheVariants as of
use Rattle.history_book.proofs.ListLemmas.{prefix_length}
use Rattle.mon_config.specs.declared.config.Config.{Config}
use Rattle.mon_topo.specs.HeldHistories.{first_histories}
use Rattle.mon_value.proofs.PlainLemmas.{get_within}
use Rattle.mon_value.specs.Histories.{leaf_history, range_history}
use Rattle.mon_value.specs.declared.histories.Histories.{Histories}
use Rattle.run_theory.proofs.Exact.{first_place_holds, first_place_within, last_end_holds}
use Rattle.run_theory.proofs.Lists.{first_place_behind, last_end_within}
use Rattle.run_theory.specs.InPlace as theory
use Rattle.run_theory.specs.Parts.{Alone, Beside, Each, Part, all_lines, lines_of}
use Rattle.run_traces.proofs.ListFacts.{all_at, any_at, or_either}
use Rattle.run_traces.proofs.RunFacts.{book_length, greater_by, range_length}
use Rattle.run_traces.specs.LineSwitches.{LineStands, first_length, high, is_entry_of, low}
use Rattle.run_traces.specs.RanLines.{RanLine}
use Rattle.run_laws.specs.Places.{EachAlone, LineIsExact, MadeNothing, PlacesAreExact}

-- ---- lists

stands_at : {X : Type 0} (xs : List X) (k : ℕ) → k < length xs → (x : X) × (slice_get xs k ≡ Some x)
stands_at [] k less = absurd (omega arith)
stands_at (x ∷ xs) zero less = (x, refl)
stands_at (x ∷ xs) (suc k) less = stands_at xs k (omega arith)

either_any : {X : Type 0} (test : X → Bool) (xs ys : List X) (C : Type 0) → list_any test (xs ++ ys) ≡ true
    → (list_any test xs ≡ true → C) → (list_any test ys ≡ true → C) → C
either_any test xs ys C is here there =
    or_either (list_any test xs) (list_any test ys) C (sym (list_any-append test xs ys) ∙ is) here there

or_more : (a b : Bool) → a ≡ true → (a || b) ≡ true
or_more true b is = refl
or_more false b is = absurd (false≢true is)

any_wider : {X : Type 0} (test : X → Bool) (xs ys : List X) → list_any test xs ≡ true → list_any test (xs ++ ys) ≡ true
any_wider test xs ys is =
    list_any-append test xs ys ∙ or_more (list_any test xs) (list_any test ys) is

less_by : (a b : ℕ) (test : Bool) → nat_le a b ≡ test → a ≤ cond test b a
less_by a b true is = grind (arith, nat_tests)
less_by a b false is = omega arith

more_by : (a b : ℕ) (test : Bool) → nat_le a b ≡ test → b ≤ cond test b a
more_by a b true is = omega arith
more_by a b false is = grind (arith, nat_tests)

module _ (config : Config) (ended : Histories) (h : History) where
  abbrev of_lines : List RanLine → ℕ → BookEntry → Bool
  of_lines lines k e = list_any (λ line. is_entry_of line h k e) lines

  abbrev history : List BookEntry
  history = entries ended h

  abbrev least : List RanLine → ℕ
  least seen = low config.topology ended seen h

  -- the place holds what came first, and every entry of the lines that were seen
  holds_first : (seen : List RanLine) → first_length config.topology ended h ≤ least seen
  holds_first seen = less_by (first_length config.topology ended h)
      (theory.low is_entry_of (entries ended) seen h) _ refl

  holds_last : (seen : List RanLine) → theory.low is_entry_of (entries ended) seen h ≤ least seen
  holds_last seen = more_by (first_length config.topology ended h)
      (theory.low is_entry_of (entries ended) seen h) _ refl

  -- more lines that were seen, no smaller a place
  least_grows : (seen more : List RanLine) → least seen ≤ least (seen ++ more)
  least_grows seen more =
      greater_by (first_length config.topology ended h) (theory.low is_entry_of (entries ended) seen h)
      (least (seen ++ more))
      (nat_le (first_length config.topology ended h) (theory.low is_entry_of (entries ended) seen h))
      (holds_first (seen ++ more))
      (last_end_within (of_lines seen) history (least (seen ++ more))
      (λ k e at mine.
      let l = last_end_holds (of_lines (seen ++ more)) history k e at
      (any_wider (λ line. is_entry_of line h k e) seen more mine) in
      let m = holds_last (seen ++ more) in omega arith))

  -- entries of the lines behind stand no sooner
  none_sooner : (n : ℕ) (seen : List RanLine) (parts : List (Part RanLine)) → n ≤ least seen
      → Each (LineStands config ended) seen parts → (k : ℕ) (e : BookEntry) → slice_get history k ≡ Some e
      → of_lines (all_lines parts) k e ≡ true → n ≤ k
  none_sooner n seen [] below stand k e at mine = absurd (false≢true mine)
  none_sooner n seen (part ∷ parts) below stand k e at mine =
      either_any (λ line. is_entry_of line h k e) (lines_of part) (all_lines parts) (n ≤ k) mine
      (λ some. any_at (λ line. is_entry_of line h k e) (lines_of part) (n ≤ k) some
      (λ j line there its.
      let s = (all_at (LineStands config ended seen (all_lines parts)) (lines_of part) j line stand.0 there) h k e at
      its in
      let l = s.0 in omega arith))
      (λ rest.
      let g = least_grows seen (lines_of part) in
      none_sooner n (seen ++ lines_of part) parts (omega arith) stand.1 k e at rest)

  -- a history has no less than its place says
  least_within : AreFronts (first_histories config.topology) ended → (seen : List RanLine) → least seen ≤ length history
  least_within fronts seen =
      greater_by (first_length config.topology ended h) (theory.low is_entry_of (entries ended) seen h) (length history)
      (nat_le (first_length config.topology ended h) (theory.low is_entry_of (entries ended) seen h))
      (first_within h fronts)
      (last_end_within (of_lines seen) history (length history) (λ k e at mine. get_within history k e at))
    where
      first_within : (h : History) → AreFronts (first_histories config.topology) ended
          → first_length config.topology ended h ≤ length (entries ended h)
      first_within (of.Leaf leaf) fronts =
          let p = prefix_length (leaf_history (first_histories config.topology) leaf) (leaf_history ended leaf)
          (fronts.0 leaf) in
          let a = book_length (first_histories config.topology) leaf in
          let b = book_length ended leaf in omega arith
      first_within (of.Range range) fronts =
          let p = prefix_length (range_history (first_histories config.topology) range) (range_history ended range)
          (fronts.1 range) in
          let a = range_length (first_histories config.topology) range in
          let b = range_length ended range in omega arith

  -- a place that ends before what is behind it begins holds nothing more
  abbrev AreOf : List RanLine → Type 0
  AreOf lines = (k : ℕ) (e : BookEntry) → slice_get history k ≡ Some e → first_length config.topology ended h ≤ k
      → of_lines lines k e ≡ true

  never_between : (seen later : List RanLine) (line : RanLine) → MadeNothing ended line
      → AreOf (seen ++ line ∷ later) → least seen < high config.topology ended later h → ⊥
  never_between seen later line nothing covers less =
      let within = first_place_within (of_lines later) history in
      let at = stands_at history (least seen) (omega arith) in
      let k = least seen in
      either_any (λ one. is_entry_of one h k at.0) seen (line ∷ later) ⊥ (covers k at.0 at.1 (holds_first seen))
      (λ mine.
      let l = last_end_holds (of_lines seen) history k at.0 at.1 mine in
      let m = holds_last seen in absurd (omega arith))
      (λ rest. or_either (is_entry_of line h k at.0) (of_lines later k at.0) ⊥ rest
      (λ own. false≢true (sym (nothing h k at.0 at.1) ∙ own))
      (λ its.
      let f = first_place_holds (of_lines later) history k at.0 at.1 its in absurd (omega arith)))

  is_exact : (seen : List RanLine) (line : RanLine) (parts : List (Part RanLine))
      → AreFronts (first_histories config.topology) ended → MadeNothing ended line
      → AreOf (seen ++ line ∷ all_lines parts) → Each (LineStands config ended) (seen ++ line ∷ []) parts
      → least seen ≡ high config.topology ended (all_lines parts) h
  is_exact seen line parts fronts nothing covers stand =
      let g = least_grows seen (line ∷ []) in
      let below = first_place_behind (of_lines (all_lines parts)) history (least seen) (least_within fronts seen)
      (none_sooner (least seen) (seen ++ line ∷ []) parts g stand) in
      by_order (cases_lt (least seen) (high config.topology ended (all_lines parts) h)) below
    where
      by_order : (least seen < high config.topology ended (all_lines parts) h)
          ⊎ (high config.topology ended (all_lines parts) h ≤ least seen)
          → least seen ≤ high config.topology ended (all_lines parts) h
          → least seen ≡ high config.topology ended (all_lines parts) h
      by_order (inl less) below = absurd (never_between seen (all_lines parts) line nothing covers less)
      by_order (inr more) below = omega arith

-- ---- all lines of a run

module _ (config : Config) (ended : Histories) (fronts : AreFronts (first_histories config.topology) ended) where
  -- every entry past the first replicas is of one of these lines
  abbrev Covers : List RanLine → Type 0
  Covers lines = (h : History) → AreOf config ended h lines

  each_exact : (seen : List RanLine) (parts : List (Part RanLine)) → Covers (seen ++ all_lines parts)
      → Each (LineStands config ended) seen parts → EachAlone (LineIsExact config ended) seen parts
  each_exact seen [] covers stand = tt
  each_exact seen (Alone line ∷ parts) covers stand = (
    λ nothing h. is_exact config ended h seen line parts fronts nothing (covers h) stand.1,
    each_exact (seen ++ line ∷ []) parts
        (subst Covers (sym (append_assoc seen (line ∷ []) (all_lines parts))) covers) stand.1,
  )
  each_exact seen (Beside lines ∷ parts) covers stand =
      each_exact (seen ++ lines) parts (subst Covers (sym (append_assoc seen lines (all_lines parts))) covers) stand.1

pub places_exact : PlacesAreExact
places_exact config ended parts holds =
    each_exact config ended holds.made.begun [] parts holds.made.made holds.stands
