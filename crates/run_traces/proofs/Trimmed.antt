-- Ranges that were trimmed and replicas that were retired: their entries stand at places that are their lines' own.
use Rattle.std.proofs.Common.{◌≡◌, ℕ, zero, suc, ◌<◌, ◌≤◌, nat_eq, ◌&&◌, Bool, true, false, List, [], ◌∷◌, length, filter}
use Rattle.std.proofs.Common.{slice_get, Option, Some, None, refl, sym, ap, ◌∙◌, subst, arith}
use Rattle.std.specs.Prelude.{ℤ, Contains}
use Rattle.std.specs.List.{list_any}
use Rattle.std.specs.Ordering.{int_eq}
use Rattle.std.proofs.lemmas.Bool.{and_parts, false≢true}
use Rattle.std.proofs.lemmas.Int.{ints}
use Rattle.std.proofs.lemmas.List.Concat.{flat_map-append}
use Rattle.std.proofs.lemmas.List.Elements.{Contains-append_left}
use mathlib.Core.List.{IsPrefix}
use Rattle.history_book.specs.Histories.{book_entry_pass, entries}
use Rattle.history_book.specs.declared.views.BookEntry.{BookEntry}
use Rattle.history_book.specs.declared.views.BookEntry.TheVariants as one
use Rattle.history_book.specs.declared.views.History.{History}
use Rattle.history_book.specs.declared.views.History.TheVariants as of
use Rattle.mon_script.specs.declared.forms.LineForm.{LineForm}
use Rattle.mon_topo.proofs.FirstLemmas.{get_contains}
use Rattle.mon_topo.specs.RangeHistories.{opened_slot, opened_slots}
use Rattle.mon_value.proofs.LeafHistoryLemmas.{ranges_same}
use Rattle.mon_value.proofs.PlainLemmas.{prefix_map}
use Rattle.mon_value.specs.Histories.{leaf_history, range_history, same_range, same_slot}
use Rattle.mon_value.specs.declared.histories.Ack.{Ack}
use Rattle.mon_value.specs.declared.histories.Entry.TheVariants as entry
use Rattle.mon_value.specs.declared.histories.Histories.{Histories}
use Rattle.mon_value.specs.declared.histories.RangeEntry.TheVariants as range_entry
use Rattle.mon_value.specs.declared.positions.Leaf.{Leaf}
use Rattle.mon_value.specs.declared.positions.Range.{Range}
use Rattle.mon_value.specs.declared.positions.Slot.{Slot}
use Rattle.mon_value.specs.declared.positions.SlotLeaf.{SlotLeaf}
use Rattle.mon_value.specs.declared.rows.Row.{Row}
use Rattle.run_theory.specs.Parts.{AreBelow, IsWithin, between}
use Rattle.run_theory.proofs.Stands.{same_to}
use Rattle.run_traces.specs.LineAsks.{Bound, bound_of, Withdrawal}
use Rattle.run_traces.specs.LineClaims.{book_row}
use Rattle.run_traces.specs.LineFeeds.{HasItsAck}
use Rattle.run_traces.specs.LineSwitches.{is_fed}
use Rattle.run_traces.specs.LineTrims.{AreOwn, HasOnePlace, HasTrim, hides, IsRetiredBetween}
use Rattle.run_traces.specs.LineTrims.{IsTrimmedBetween, MadeOnly, StandsOwn, retires, trims, withdraws_in}
use Rattle.run_traces.specs.RanLines.{OwnPlace, is_own}
use Rattle.run_traces.proofs.ListFacts.{any_at}
use Rattle.run_traces.proofs.Switched.{IsTheirs, get_front, lone_between, slots_same}

-- ---- their entries are none of a feed

module _ (pass : ℕ) (rows : List Row) where
  not_hiding : (bound : Bound) (ack : Ack) (h : History) (e : BookEntry) → hides bound ack h e ≡ true
      → is_fed pass rows e ≡ true → ⊥
  not_hiding bound ack (of.Leaf leaf) (one.Leaf (entry.Opened by range slot held)) is fed = false≢true fed
  not_hiding bound ack (of.Leaf leaf) (one.Leaf (entry.Put by range slot row)) is fed = false≢true is
  not_hiding bound ack (of.Leaf leaf) (one.Leaf (entry.Trim by range slot before)) is fed = false≢true fed
  not_hiding bound ack (of.Leaf leaf) (one.Leaf (entry.Down by)) is fed = false≢true fed
  not_hiding bound ack (of.Leaf leaf) (one.Leaf (entry.Up by)) is fed = false≢true fed
  not_hiding bound ack (of.Leaf leaf) (one.Range e) is fed = false≢true is
  not_hiding bound ack (of.Range range) (one.Leaf e) is fed = false≢true is
  not_hiding bound ack (of.Range range) (one.Range (range_entry.Opened by slot leaf)) is fed = false≢true fed
  not_hiding bound ack (of.Range range) (one.Range (range_entry.Acked by row told)) is fed =
      false≢true (and_parts (same_range bound.range range) false is).1
  not_hiding bound ack (of.Range range) (one.Range (range_entry.Trimmed by before told)) is fed = false≢true fed
  not_hiding bound ack (of.Range range) (one.Range (range_entry.Retired by slot)) is fed = false≢true fed

  pub not_trimming : (bound : Option Bound) (ack : Ack) (h : History) (e : BookEntry) → trims bound ack h e ≡ true
      → is_fed pass rows e ≡ true → ⊥
  not_trimming None ack h e is fed = false≢true is
  not_trimming (Some bound) ack h e is fed = not_hiding bound ack h e is fed

  not_withdrawing : (range : Range) (slot : Slot) (h : History) (e : BookEntry) → withdraws_in range slot h e ≡ true
      → is_fed pass rows e ≡ true → ⊥
  not_withdrawing range slot (of.Leaf leaf) e is fed = false≢true is
  not_withdrawing range slot (of.Range other) (one.Leaf e) is fed = false≢true is
  not_withdrawing range slot (of.Range other) (one.Range (range_entry.Opened by place leaf)) is fed = false≢true fed
  not_withdrawing range slot (of.Range other) (one.Range (range_entry.Acked by row ack)) is fed =
      false≢true (and_parts (same_range range other) false is).1
  not_withdrawing range slot (of.Range other) (one.Range (range_entry.Trimmed by before ack)) is fed = false≢true fed
  not_withdrawing range slot (of.Range other) (one.Range (range_entry.Retired by place)) is fed = false≢true fed

  pub not_retiring : (withdrawal : Option Withdrawal) (slot : Slot) (h : History) (e : BookEntry)
      → retires withdrawal slot h e ≡ true → is_fed pass rows e ≡ true → ⊥
  not_retiring None slot h e is fed = false≢true is
  not_retiring (Some withdrawal) slot h e is fed = not_withdrawing withdrawal.range slot h e is fed

-- ---- they acknowledge no row

hiding_tells : (bound : Bound) (ack : Ack) (h : History) (e : BookEntry) → hides bound ack h e ≡ true → book_row e ≡ []
hiding_tells bound ack h (one.Leaf e) is = refl
hiding_tells bound ack h (one.Range (range_entry.Opened by slot leaf)) is = refl
hiding_tells bound ack (of.Leaf leaf) (one.Range (range_entry.Acked by row told)) is = absurd (false≢true is)
hiding_tells bound ack (of.Range range) (one.Range (range_entry.Acked by row told)) is =
    absurd (false≢true (and_parts (same_range bound.range range) false is).1)
hiding_tells bound ack h (one.Range (range_entry.Trimmed by before told)) is = refl
hiding_tells bound ack h (one.Range (range_entry.Retired by slot)) is = refl

pub trimmed_tells : (bound : Option Bound) (ack : Ack) (h : History) (e : BookEntry) → trims bound ack h e ≡ true
    → book_row e ≡ []
trimmed_tells None ack h e is = absurd (false≢true is)
trimmed_tells (Some bound) ack h e is = hiding_tells bound ack h e is

withdrawing_tells : (range : Range) (slot : Slot) (h : History) (e : BookEntry) → withdraws_in range slot h e ≡ true
    → book_row e ≡ []
withdrawing_tells range slot h (one.Leaf e) is = refl
withdrawing_tells range slot h (one.Range (range_entry.Opened by place leaf)) is = refl
withdrawing_tells range slot (of.Leaf leaf) (one.Range (range_entry.Acked by row ack)) is = absurd (false≢true is)
withdrawing_tells range slot (of.Range other) (one.Range (range_entry.Acked by row ack)) is =
    absurd (false≢true (and_parts (same_range range other) false is).1)
withdrawing_tells range slot h (one.Range (range_entry.Trimmed by before ack)) is = refl
withdrawing_tells range slot h (one.Range (range_entry.Retired by place)) is = refl

pub retired_tells : (withdrawal : Option Withdrawal) (slot : Slot) (h : History) (e : BookEntry)
    → retires withdrawal slot h e ≡ true → book_row e ≡ []
retired_tells None slot h e is = absurd (false≢true is)
retired_tells (Some withdrawal) slot h e is = withdrawing_tells withdrawal.range slot h e is

-- ---- a trim is acknowledged, as one that its slot took; a retirement has nothing to acknowledge

slot_among : (slot : Slot) (took : List Slot) → list_any (same_slot slot) took ≡ true → Contains took slot
slot_among slot took is = any_at (same_slot slot) took (Contains took slot) is
    (λ k other there same. subst (λ (s : Slot). Contains took s) (sym (slots_same slot other same))
    (get_contains took k other there))

pub bounds_same : (a b : ℤ) → int_eq a b ≡ true → a ≡ b
bounds_same a b is = grind (arith, ints)

module _ (ended : Histories) (from to : History → ℕ) (number : ℕ) (what : LineForm) (own : List OwnPlace) where
  module _ (ack : Ack) (found : IsTrimmedBetween ended from to number what own ack) where
    -- the acknowledgement stands there, under the number, for the range and the bound
    told_there : (range : Range) (before : ℤ) (by : ℕ) → found.bound.range ≡ range → found.bound.before ≡ before
        → number ≡ by → Contains (entries ended (of.Range range)) (one.Range (range_entry.Trimmed by before ack))
    told_there range before by range_is before_is by_is =
        subst (λ n. Contains (entries ended (of.Range range)) (one.Range (range_entry.Trimmed n before ack))) by_is
        (subst (λ b. Contains (entries ended (of.Range range)) (one.Range (range_entry.Trimmed number b ack))) before_is
        (subst (λ (r : Range). Contains (entries ended (of.Range r))
        (one.Range (range_entry.Trimmed number found.bound.before ack))) range_is
        (get_contains (entries ended (of.Range found.bound.range)) found.told.place
        (one.Range (range_entry.Trimmed number found.bound.before ack)) found.told.there)))

    hidden_paired : (h : History) (e : BookEntry) → hides found.bound ack h e ≡ true → book_entry_pass e ≡ number
        → HasItsAck (entries ended) e
    hidden_paired h (one.Leaf (entry.Opened by range slot held)) is under = tt
    hidden_paired (of.Leaf leaf) (one.Leaf (entry.Put by range slot row)) is under = absurd (false≢true is)
    hidden_paired (of.Range other) (one.Leaf (entry.Put by range slot row)) is under = absurd (false≢true is)
    hidden_paired (of.Leaf leaf) (one.Leaf (entry.Trim by range slot before)) is under =
        let both = and_parts (same_range found.bound.range range && int_eq found.bound.before before)
        (list_any (same_slot slot) ack.took) is in
        let two = and_parts (same_range found.bound.range range) (int_eq found.bound.before before) both.0 in
        record {
          ack = ack;
          told = told_there range before by (ranges_same found.bound.range range two.0)
              (bounds_same found.bound.before before two.1) (sym under);
          took = slot_among slot ack.took both.1;
        }
    hidden_paired (of.Range other) (one.Leaf (entry.Trim by range slot before)) is under = absurd (false≢true is)
    hidden_paired h (one.Leaf (entry.Down by)) is under = tt
    hidden_paired h (one.Leaf (entry.Up by)) is under = tt
    hidden_paired h (one.Range e) is under = tt

    pub trim_paired : (h : History) (e : BookEntry) → trims (bound_of what) ack h e ≡ true
        → book_entry_pass e ≡ number → HasItsAck (entries ended) e
    trim_paired h e is under = hidden_paired h e (subst (λ o. trims o ack h e ≡ true) found.asked is) under

pub retirement_paired : (made : History → List BookEntry) (withdrawal : Option Withdrawal) (slot : Slot) (h : History)
    (e : BookEntry) → retires withdrawal slot h e ≡ true → HasItsAck made e
retirement_paired made None slot h e is = absurd (false≢true is)
retirement_paired made (Some withdrawal) slot (of.Leaf leaf) e is = absurd (false≢true is)
retirement_paired made (Some withdrawal) slot (of.Range other) (one.Leaf e) is = absurd (false≢true is)
retirement_paired made (Some withdrawal) slot (of.Range other) (one.Range e) is = tt

-- ---- what stands at a line's own places

module _ (seen : Histories) (from to : History → ℕ) (number : ℕ) (own : List OwnPlace)
    (owns : AreOwn seen from to number own) where
  -- is the line's, as far as it is such an entry as the line makes
  pub own_there : (is : Bool) (h : History) (k : ℕ) (e : BookEntry) → slice_get (entries seen h) k ≡ Some e
      → (is_own own h k && is) ≡ true → IsTheirs from to number h k e
  own_there is h k e there mine =
      let two = and_parts (is_own own h k) is mine in
      let lies = owns.within h k two.0 in
      record { low = lies.0; high = lies.1; under = owns.under h k e there two.0 }

  -- and in a range's history that is one entry, where the line made one at most
  pub one_place : (test : History → BookEntry → Bool) (made : History → List BookEntry) → MadeOnly test made
      → ((h : History) → filter (λ e. nat_eq (book_entry_pass e) number) (between (from h) (to h) (entries seen h))
      ≡ made h)
      → IsWithin entries to seen → HasOnePlace own
  one_place test made makes exact within range j k first second =
      let h = of.Range range in
      let a = owns.within h j first in
      let b = owns.within h k second in
      let most = within h in
      let here = some_at (entries seen h) j (let c = a.1 in omega arith) in
      let there = some_at (entries seen h) k (let c = b.1 in omega arith) in
      lone_between (λ e. nat_eq (book_entry_pass e) number) (from h) (to h) (entries seen h) j k here.0 there.0
      (subst (λ w. length w ≤ 1) (sym (exact h)) (makes.few range)) here.1 a.0 a.1
      (same_to (book_entry_pass here.0) number (owns.under h j here.0 here.1 first)) there.1 b.0 b.1
      (same_to (book_entry_pass there.0) number (owns.under h k there.0 there.1 second))
    where
      some_at : {X : Type 0} (xs : List X) (n : ℕ) → n < length xs → (x : X) × (slice_get xs n ≡ Some x)
      some_at [] n less = absurd (omega arith)
      some_at (x ∷ xs) zero less = (x, refl)
      some_at (x ∷ xs) (suc n) less = some_at xs n (omega arith)

-- ---- between wider marks, and as histories grow

module _ (seen more : Histories) (from to first last : History → ℕ) (low : AreBelow first from) (high : AreBelow to last)
    (leaves : (leaf : Leaf) → IsPrefix (leaf_history seen leaf) (leaf_history more leaf))
    (ranges : (range : Range) → IsPrefix (range_history seen range) (range_history more range))
    (number : ℕ) (what : LineForm) (own : List OwnPlace) where
  entries_on : (h : History) → IsPrefix (entries seen h) (entries more h)
  entries_on (of.Leaf leaf) =
      prefix_map (λ e. one.Leaf e) (leaf_history seen leaf) (leaf_history more leaf) (leaves leaf)
  entries_on (of.Range range) =
      prefix_map (λ e. one.Range e) (range_history seen range) (range_history more range) (ranges range)

  own_wider : (h : History) (e : BookEntry) → StandsOwn seen from to own h e → StandsOwn more first last own h e
  own_wider h e stands = record {
    place = stands.place;
    since = let a = stands.since in let b = low h in omega arith;
    until = let a = stands.until in let b = high h in omega arith;
    there = get_front (entries seen h) (entries more h) stands.place e (entries_on h) stands.there;
    mine = stands.mine;
  }

  still_opened : (range : Range) (replica : SlotLeaf) → Contains (opened_slots (range_history seen range)) replica
      → Contains (opened_slots (range_history more range)) replica
  still_opened range replica there =
      let goes = ranges range in
      subst (λ (xs : List SlotLeaf). Contains xs replica)
      (sym (flat_map-append opened_slot (range_history seen range) goes.0) ∙ ap opened_slots goes.1)
      (Contains-append_left (opened_slots (range_history seen range)) (opened_slots goes.0) replica there)

  trim_wider : (bound : Bound) (slot : Slot) → HasTrim seen from to number what own bound slot
      → HasTrim more first last number what own bound slot
  trim_wider bound slot has = record {
    leaf = has.leaf;
    on = still_opened bound.range (record { slot = slot; leaf = has.leaf }) has.on;
    stands = own_wider (of.Leaf has.leaf) (one.Leaf (entry.Trim number bound.range slot bound.before)) has.stands;
  }

  pub trimmed_wider : (ack : Ack) → IsTrimmedBetween seen from to number what own ack
      → IsTrimmedBetween more first last number what own ack
  trimmed_wider ack found = record {
    bound = found.bound;
    asked = found.asked;
    range_is = found.range_is;
    told = own_wider (of.Range found.bound.range) (one.Range (range_entry.Trimmed number found.bound.before ack))
        found.told;
    each = λ slot took. trim_wider found.bound slot (found.each slot took);
  }

  pub retired_wider : (slot : Slot) → IsRetiredBetween seen from to number what own slot
      → IsRetiredBetween more first last number what own slot
  retired_wider slot found = record {
    withdrawal = found.withdrawal;
    asked = found.asked;
    told = own_wider (of.Range found.withdrawal.range) (one.Range (range_entry.Retired number slot)) found.told;
    on = still_opened found.withdrawal.range (record { slot = slot; leaf = found.withdrawal.leaf }) found.on;
  }
