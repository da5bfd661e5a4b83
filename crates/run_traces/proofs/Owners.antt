-- Whose the entries of a run are: those that are told to be a line's were made by it alone.
use Rattle.std.proofs.Common.{◌≡◌, ℕ, zero, suc, ◌<◌, ◌≤◌, nat_eq, Bool, true, false, List, [], ◌∷◌, ◌++◌, length}
use Rattle.std.proofs.Common.{map, filter, slice_get, Some, refl, sym, ap, ◌∙◌, subst, arith, ◌+◌, if◌then◌else◌}
use Rattle.std.specs.List.{AllByRecursion, flat_map, list_any, range_with_len, slice_index_or}
use Rattle.std.proofs.lemmas.Bool.{false≢true}
use mathlib.Core.List.{IsPrefix}
use Rattle.history_book.specs.Histories.{AreFronts, book_entry_pass, entries}
use Rattle.history_book.specs.declared.views.BookEntry.{BookEntry}
use Rattle.history_book.specs.declared.views.BookEntry.TheVariants as one
use Rattle.history_book.specs.declared.views.History.{History}
use Rattle.history_book.specs.declared.views.History.TheVariants as of
use Rattle.mon_config.specs.declared.config.Config.{Config}
use Rattle.mon_topo.specs.HeldHistories.{first_histories, first_leaf_history, first_range_history, opened_here}
use Rattle.mon_topo.specs.HeldHistories.{openings_from, opened_of, opening, slot_numbered, AreHeld}
use Rattle.mon_topo.specs.Zones.{first_replicas, leaves_in, ranges_in}
use Rattle.mon_topo.specs.declared.zones.ZoneSpec.{ZoneSpec}
use Rattle.mon_value.specs.Histories.{leaf_history, range_history, leaf_numbered, range_numbered, same_leaf}
use Rattle.mon_value.specs.declared.histories.Entry.{Entry}
use Rattle.mon_value.specs.declared.histories.Histories.{Histories}
use Rattle.mon_value.specs.declared.histories.RangeEntry.{RangeEntry}
use Rattle.mon_value.specs.declared.histories.RangeEntry.TheVariants as range_entry
use Rattle.mon_value.specs.declared.positions.Leaf.{Leaf}
use Rattle.mon_value.specs.declared.positions.Range.{Range}
use Rattle.mon_value.specs.declared.rows.Row.{Row}
use Rattle.run_theory.specs.InPlace.{AreDistinct, AreNotFirst, AreTheirs, AreUnder}
use Rattle.run_theory.specs.Parts.{AreBelow, Ran, between}
use Rattle.run_theory.proofs.Stands.{between_stands, kept_stands, same_to}
use Rattle.run_traces.specs.LineClaims.{AreNew, FeedMade, Finds, HasFound, HasMade, HasRange, IsNewIn, Makes}
use Rattle.run_traces.specs.LineFeeds.{lies_in}
use Rattle.run_traces.specs.LineSwitches.{first_length, is_entry_of, is_fed, is_row, is_traced}
use Rattle.run_traces.specs.RanLines.{RanLine}
use Rattle.run_traces.specs.declared.traces.ControlDone.{ControlDone}
use Rattle.run_traces.specs.declared.traces.LineTrace.{LineTrace}
use Rattle.run_traces.specs.declared.traces.LineTrace.TheVariants as came
use Rattle.run_traces.proofs.ListFacts.{all_at, any_at, both_all, no_item}
use Rattle.run_traces.proofs.Controls.{done_made, done_not_fed, done_place}
use Rattle.run_traces.proofs.Switched.{IsTheirs}
use Rattle.run_traces.proofs.RowFacts.{fed_pass, fed_row, lies_as, row_joined, row_key, rows_before}
use Rattle.mon_value.proofs.PlainLemmas.{prefix_map}

-- what a line that neither feeds nor switches nor recovers made is nothing
none_made : (made : History → List BookEntry) (h : History) (j : ℕ) (e : BookEntry)
    → ((history : History) → made history ≡ []) → slice_get (made h) j ≡ Some e → ⊥
none_made made h j e none there = no_item j e (ap (λ w. slice_get w j) (sym (none h)) ∙ there)

module _ (config : Config) (ended : Histories)
    (whole : Histories) (fronts : AreFronts ended whole)
    (held : AreHeld config.schemas config.topology config.range_points whole) where
  abbrev LineRan : (History → ℕ) → (History → ℕ) → ℕ → RanLine → Type 0
  LineRan = Ran entries book_entry_pass (Makes config) (Finds config) ended

  control_place : (from to : History → ℕ) (number : ℕ) (line : RanLine) (done : ControlDone) (h : History) (k : ℕ)
      (e : BookEntry) → HasFound config ended from to number line (came.Controlled done)
      → slice_get (entries ended h) k ≡ Some e → is_traced line.what line.own (came.Controlled done) h k e ≡ true
      → IsTheirs from to number h k e
  control_place from to number line done h k e found there is =
      done_place config ended whole fronts held from to number line.what line.own done h k e found there is

  -- ---- numbers

  under_by : (from to : History → ℕ) (number : ℕ) (line : RanLine) (h : History) (k : ℕ) (e : BookEntry)
      (trace : LineTrace) (made : History → List BookEntry) → HasMade config number line.what trace made
      → HasFound config ended from to number line trace → slice_get (entries ended h) k ≡ Some e
      → is_traced line.what line.own trace h k e ≡ true → book_entry_pass e ≡ number
  under_by from to number line h k e (came.Fed pass accepted refused) made makes found there is =
      fed_pass pass accepted e is ∙ makes.0
  under_by from to number line h k e (came.Poured pass ends) made makes found there is =
      fed_pass pass ends.accepted e is ∙ makes.0
  under_by from to number line h k e (came.Asked moment trace) made makes found there is = absurd (false≢true is)
  under_by from to number line h k e (came.Followed moment trace) made makes found there is = absurd (false≢true is)
  under_by from to number line h k e (came.Controlled done) made makes found there is =
      (control_place from to number line done h k e found there is).under
  under_by from to number line h k e (came.Refused why) made makes found there is = absurd (false≢true is)
  under_by from to number line h k e (came.Ticked dues) made makes found there is = absurd (false≢true is)
  under_by from to number line h k e came.Done made makes found there is = absurd (false≢true is)

  pub are_under : AreUnder entries book_entry_pass (Makes config) (Finds config) is_entry_of ended
  are_under from to number line h k e ran there low high is =
      under_by from to number line h k e line.trace ran.made ran.makes ran.found.found there is

  -- ---- what was made

  made_by : (from to : History → ℕ) (number : ℕ) (line : RanLine) (trace : LineTrace) (made : History → List BookEntry)
      (h : History) (k j : ℕ) (e : BookEntry) → HasMade config number line.what trace made
      → HasFound config ended from to number line trace
      → filter (λ x. nat_eq (book_entry_pass x) number) (between (from h) (to h) (entries ended h)) ≡ made h
      → slice_get (entries ended h) k ≡ Some e → from h ≤ k → k < to h → book_entry_pass e ≡ number
      → slice_get (made h) j ≡ Some e → is_traced line.what line.own trace h k e ≡ true
  made_by from to number line (came.Fed pass accepted refused) made h k j e makes found exact there low high mine at =
      all_at (λ x. is_fed pass accepted x ≡ true) (made h) j e (makes.1.own h) at
  made_by from to number line (came.Poured pass ends) made h k j e makes found exact there low high mine at =
      all_at (λ x. is_fed pass ends.accepted x ≡ true) (made h) j e (makes.1.own h) at
  made_by from to number line (came.Asked moment trace) made h k j e makes found exact there low high mine at =
      absurd (none_made made h j e makes at)
  made_by from to number line (came.Followed moment trace) made h k j e makes found exact there low high mine at =
      absurd (none_made made h j e makes at)
  made_by from to number line (came.Controlled done) made h k j e makes found exact there low high mine at =
      done_made config ended whole fronts held from to number line.what line.own done h k j e made makes found exact there low
      high mine at
  made_by from to number line (came.Refused why) made h k j e makes found exact there low high mine at =
      absurd (none_made made h j e makes at)
  made_by from to number line (came.Ticked dues) made h k j e makes found exact there low high mine at =
      absurd (none_made made h j e makes at)
  made_by from to number line came.Done made h k j e makes found exact there low high mine at =
      absurd (none_made made h j e makes at)

  -- what stands where a line ran, under its number, is the line's
  pub are_theirs : AreTheirs entries book_entry_pass (Makes config) (Finds config) is_entry_of ended
  are_theirs from to number line h k e ran there low high mine =
      let at = between_stands (from h) (to h) (entries ended h) k e there low high in
      let kept = kept_stands (λ x. nat_eq (book_entry_pass x) number) (between (from h) (to h) (entries ended h)) at.0 e
      at.1 (same_to (book_entry_pass e) number mine) in
      made_by from to number line line.trace ran.made h k kept.0 e ran.makes ran.found.found (ran.exact h) there low high
      mine (ap (λ w. slice_get w kept.0) (sym (ran.exact h)) ∙ kept.1)

  -- ---- no line has an entry that another made

  module _ (a b c d : History → ℕ) (n m : ℕ) (sooner later : RanLine) (one : LineRan a b n sooner)
      (other : LineRan c d m later) (behind : AreBelow b c) where
    -- no row is one of both
    two_rows : (pass : ℕ) (rows rows' : List Row) (made : FeedMade config pass rows one.made)
        (found : AreNew config ended a b rows) (found' : AreNew config ended c d rows') (w : Row)
        → list_any (is_row w) rows ≡ true → list_any (is_row w) rows' ≡ true → ⊥
    two_rows pass rows rows' made found found' w first second = any_at (is_row w) rows ⊥ first
        (λ k row there is. any_at (is_row w) rows' ⊥ second
        (λ k' row' there' is'.
        let ranged = all_at (HasRange config ended a b) rows k row found.ranged there in
        let r = ranged.range in
        let new = all_at (IsNewIn config ended c d r) rows' k' row' (found'.new r) there' in
        let same : is_row row' row ≡ true = row_joined w row' row is' is in
        let lies : lies_in config r row' ≡ true = lies_as config r row' row (row_key row' row same) ∙ ranged.lies in
        let none = rows_before config ended a b n pass rows one.made made one.exact
        (λ (old : Row). is_row row' old ≡ false) r (c (of.Range r)) (behind (of.Range r)) (new lies) in
        let kept = kept_stands (lies_in config r) rows k row there ranged.lies in
        false≢true (sym (all_at (λ (old : Row). is_row row' old ≡ false) (filter (lies_in config r) rows) kept.0 row
        none kept.1) ∙ same)))

    -- and no entry
    two_feeds : (pass pass' : ℕ) (rows rows' : List Row) (e : BookEntry) → FeedMade config pass rows one.made
        → AreNew config ended a b rows → AreNew config ended c d rows' → is_fed pass rows e ≡ true
        → is_fed pass' rows' e ≡ true → ⊥
    two_feeds pass pass' rows rows' e makes found found' is is' = fed_row pass rows ⊥ e is
        (λ w first more. two_rows pass rows rows' makes found found' w first (more pass' rows' is'))

    -- what the sooner one made is none of what the later one accepted
    made_sooner : (trace : LineTrace) (pass : ℕ) (rows : List Row) (h : History) (j : ℕ) (e : BookEntry)
        → HasMade config n sooner.what trace one.made → HasFound config ended a b n sooner trace
        → AreNew config ended c d rows → slice_get (one.made h) j ≡ Some e → is_fed pass rows e ≡ true → ⊥
    made_sooner (came.Fed pass' rows' refused') pass rows h j e makes found found' at is =
        two_feeds pass' pass rows' rows e makes.1 found.rows found'
        (all_at (λ x. is_fed pass' rows' x ≡ true) (one.made h) j e (makes.1.own h) at) is
    made_sooner (came.Poured pass' ends) pass rows h j e makes found found' at is =
        two_feeds pass' pass ends.accepted rows e makes.1 found.rows found'
        (all_at (λ x. is_fed pass' ends.accepted x ≡ true) (one.made h) j e (makes.1.own h) at) is
    made_sooner (came.Asked moment trace) pass rows h j e makes found found' at is = none_made one.made h j e makes at
    made_sooner (came.Followed moment trace) pass rows h j e makes found found' at is = none_made one.made h j e makes at
    made_sooner (came.Controlled done) pass rows h j e makes found found' at is =
        done_not_fed config pass rows sooner.what done h j e one.made makes at is
    made_sooner (came.Refused why) pass rows h j e makes found found' at is = none_made one.made h j e makes at
    made_sooner (came.Ticked dues) pass rows h j e makes found found' at is = none_made one.made h j e makes at
    made_sooner came.Done pass rows h j e makes found found' at is = none_made one.made h j e makes at

    -- and what the later one made is none of what the sooner one accepted
    made_later : (trace : LineTrace) (pass : ℕ) (rows : List Row) (h : History) (j : ℕ) (e : BookEntry)
        → HasMade config m later.what trace other.made → HasFound config ended c d m later trace
        → FeedMade config pass rows one.made → AreNew config ended a b rows → slice_get (other.made h) j ≡ Some e
        → is_fed pass rows e ≡ true → ⊥
    made_later (came.Fed pass' rows' refused') pass rows h j e makes found makes' found' at is =
        two_feeds pass pass' rows rows' e makes' found' found.rows is
        (all_at (λ x. is_fed pass' rows' x ≡ true) (other.made h) j e (makes.1.own h) at)
    made_later (came.Poured pass' ends) pass rows h j e makes found makes' found' at is =
        two_feeds pass pass' rows ends.accepted e makes' found' found.rows is
        (all_at (λ x. is_fed pass' ends.accepted x ≡ true) (other.made h) j e (makes.1.own h) at)
    made_later (came.Asked moment trace) pass rows h j e makes found makes' found' at is =
        none_made other.made h j e makes at
    made_later (came.Followed moment trace) pass rows h j e makes found makes' found' at is =
        none_made other.made h j e makes at
    made_later (came.Controlled done) pass rows h j e makes found makes' found' at is =
        done_not_fed config pass rows later.what done h j e other.made makes at is
    made_later (came.Refused why) pass rows h j e makes found makes' found' at is = none_made other.made h j e makes at
    made_later (came.Ticked dues) pass rows h j e makes found makes' found' at is = none_made other.made h j e makes at
    made_later came.Done pass rows h j e makes found makes' found' at is = none_made other.made h j e makes at

    -- nothing that the sooner one made where it ran is the later one's
    not_later : (trace : LineTrace) (h : History) (j k : ℕ) (e : BookEntry) → HasFound config ended c d m later trace
        → slice_get (entries ended h) k ≡ Some e → slice_get (one.made h) j ≡ Some e → k < b h
        → is_traced later.what later.own trace h k e ≡ true → ⊥
    not_later (came.Fed pass rows refused) h j k e found there at less is =
        made_sooner sooner.trace pass rows h j e one.makes one.found.found found.rows at is
    not_later (came.Poured pass ends) h j k e found there at less is =
        made_sooner sooner.trace pass ends.accepted h j e one.makes one.found.found found.rows at is
    not_later (came.Asked moment trace) h j k e found there at less is = false≢true is
    not_later (came.Followed moment trace) h j k e found there at less is = false≢true is
    not_later (came.Controlled done) h j k e found there at less is =
        let theirs = control_place c d m later done h k e found there is in
        let low = theirs.low in let apart = behind h in omega arith
    not_later (came.Refused why) h j k e found there at less is = false≢true is
    not_later (came.Ticked dues) h j k e found there at less is = false≢true is
    not_later came.Done h j k e found there at less is = false≢true is

    -- and nothing that the later one made where it ran is the sooner one's
    not_sooner : (trace : LineTrace) (h : History) (j k : ℕ) (e : BookEntry)
        → HasMade config n sooner.what trace one.made → HasFound config ended a b n sooner trace
        → slice_get (entries ended h) k ≡ Some e → slice_get (other.made h) j ≡ Some e → c h ≤ k
        → is_traced sooner.what sooner.own trace h k e ≡ true → ⊥
    not_sooner (came.Fed pass rows refused) h j k e makes found there at more is =
        made_later later.trace pass rows h j e other.makes other.found.found makes.1 found.rows at is
    not_sooner (came.Poured pass ends) h j k e makes found there at more is =
        made_later later.trace pass ends.accepted h j e other.makes other.found.found makes.1 found.rows at is
    not_sooner (came.Asked moment trace) h j k e makes found there at more is = false≢true is
    not_sooner (came.Followed moment trace) h j k e makes found there at more is = false≢true is
    not_sooner (came.Controlled done) h j k e makes found there at more is =
        let theirs = control_place a b n sooner done h k e found there is in
        let high = theirs.high in let apart = behind h in omega arith
    not_sooner (came.Refused why) h j k e makes found there at more is = false≢true is
    not_sooner (came.Ticked dues) h j k e makes found there at more is = false≢true is
    not_sooner came.Done h j k e makes found there at more is = false≢true is

  -- no entry that a line made is one of a line that ran before it or behind it
  pub are_distinct : AreDistinct entries book_entry_pass (Makes config) (Finds config) is_entry_of ended
  are_distinct a b c d n m sooner later h j k e one other behind there = (
    (λ at less is. not_later a b c d n m sooner later one other behind later.trace h j k e other.found.found there at
        less is),
    (λ at more is. not_sooner a b c d n m sooner later one other behind sooner.trace h j k e one.makes one.found.found
        there at more is),
  )

-- ---- what stands there at first

module _ {X Y : Type 0} (P : Y → Type 0) where
  pub all_flat : (f : X → List Y) → ((x : X) → AllByRecursion P (f x)) → (xs : List X)
      → AllByRecursion P (flat_map f xs)
  all_flat f each [] = tt
  all_flat f each (x ∷ xs) = both_all P (f x) (flat_map f xs) (each x) (all_flat f each xs)

  pub all_chosen : (f : X → List Y) → ((x : X) → AllByRecursion P (f x)) → (xs : List X) (i : ℕ)
      → AllByRecursion P (slice_index_or (map f xs) i [])
  all_chosen f each [] zero = tt
  all_chosen f each [] (suc i) = tt
  all_chosen f each (x ∷ xs) zero = each x
  all_chosen f each (x ∷ xs) (suc i) = all_chosen f each xs i

-- what holds of each entry that opens a replica without rows
module _ (P : BookEntry → Type 0) (on_leaf : (range : Range) (k : ℕ) → P (one.Leaf (opening range k)))
    (in_range : (k : ℕ) (leaf : Leaf) → P (one.Range (range_entry.Opened 0 (slot_numbered k) leaf))) where
  abbrev LeafOpens : List Entry → Type 0
  LeafOpens = AllByRecursion (λ e. P (one.Leaf e))

  abbrev RangeOpens : List RangeEntry → Type 0
  RangeOpens = AllByRecursion (λ e. P (one.Range e))

  ranges_open : (k : ℕ) (leaves : List Leaf) → RangeOpens (openings_from k leaves)
  ranges_open k [] = tt
  ranges_open k (leaf ∷ leaves) = (in_range k leaf, ranges_open (k + 1) leaves)

  opened_if : (b : Bool) (range : Range) (k : ℕ) → LeafOpens (if b then opening range k ∷ [] else [])
  opened_if true range k = (on_leaf range k, tt)
  opened_if false range k = tt

  leaves_open : (leaf : Leaf) (range : Range) (k : ℕ) (leaves : List Leaf) → LeafOpens (opened_here leaf range k leaves)
  leaves_open leaf range k [] = tt
  leaves_open leaf range k (other ∷ leaves) =
      both_all (λ e. P (one.Leaf e)) (if same_leaf leaf other then opening range k ∷ [] else [])
      (opened_here leaf range (k + 1) leaves) (opened_if (same_leaf leaf other) range k)
      (leaves_open leaf range (k + 1) leaves)

  all_seen : {X : Type 0} (f : X → BookEntry) (xs : List X) → AllByRecursion (λ x. P (f x)) xs
      → AllByRecursion P (map f xs)
  all_seen f [] all = tt
  all_seen f (x ∷ xs) all = (all.0, all_seen f xs all.1)

  pub all_first : (zones : List ZoneSpec) (h : History) → AllByRecursion P (entries (first_histories zones) h)
  all_first zones (of.Leaf leaf) = all_seen (λ e. one.Leaf e) (leaf_history (first_histories zones) leaf)
      (all_chosen (λ e. P (one.Leaf e)) (first_leaf_history zones)
      (λ n. all_flat (λ e. P (one.Leaf e)) (opened_of zones (leaf_numbered n))
      (λ range. leaves_open (leaf_numbered n) (range_numbered range) 0 (first_replicas zones range))
      (range_with_len 0 (length (ranges_in zones))))
      (range_with_len 0 (length (leaves_in zones))) leaf.0)
  all_first zones (of.Range range) = all_seen (λ e. one.Range e) (range_history (first_histories zones) range)
      (all_chosen (λ e. P (one.Range e)) (first_range_history zones)
      (λ n. ranges_open 0 (first_replicas zones n)) (range_with_len 0 (length (ranges_in zones))) range.0)

-- it is none of a feed
abbrev IsOpening : BookEntry → Type 0
IsOpening e = (pass : ℕ) (rows : List Row) → is_fed pass rows e ≡ false

firsts_open : (zones : List ZoneSpec) (h : History) → AllByRecursion IsOpening (entries (first_histories zones) h)
firsts_open = all_first IsOpening (λ range k pass rows. refl) (λ k leaf pass rows. refl)

pub in_front : {X : Type 0} (P : X → Type 0) (front rest : List X) (k : ℕ) (x : X) → AllByRecursion P front
    → slice_get (front ++ rest) k ≡ Some x → k < length front → P x
in_front P [] rest k x all there less = absurd (omega arith)
in_front P (y ∷ front) rest zero x all there less = let same : y ≡ x = cc in subst P same all.0
in_front P (y ∷ front) rest (suc k) x all there less = in_front P front rest k x all.1 there (omega arith)

-- each history begins with its first entries
pub begins : (zones : List ZoneSpec) (ended : Histories) (h : History) → AreFronts (first_histories zones) ended
    → IsPrefix (entries (first_histories zones) h) (entries ended h)
begins zones ended (of.Leaf leaf) begun =
    prefix_map (λ e. one.Leaf e) (leaf_history (first_histories zones) leaf) (leaf_history ended leaf) (begun.0 leaf)
begins zones ended (of.Range range) begun =
    prefix_map (λ e. one.Range e) (range_history (first_histories zones) range) (range_history ended range)
    (begun.1 range)

-- nothing that stands there at first is a line's
module _ (config : Config) (ended : Histories) (begun : AreFronts (first_histories config.topology) ended)
    (whole : Histories) (fronts : AreFronts ended whole)
    (held : AreHeld config.schemas config.topology config.range_points whole) where
  not_first : (from to : History → ℕ) (number : ℕ) (line : RanLine) (trace : LineTrace) (h : History) (k : ℕ)
      (e : BookEntry) → HasFound config ended from to number line trace
      → AreBelow (first_length config.topology ended) from → slice_get (entries ended h) k ≡ Some e
      → k < first_length config.topology ended h → is_traced line.what line.own trace h k e ≡ true → ⊥
  not_first from to number line (came.Fed pass rows refused) h k e found low there less is =
      let p = begins config.topology ended h begun in
      let opens = in_front IsOpening (entries (first_histories config.topology) h) p.0 k e
      (firsts_open config.topology h) (ap (λ w. slice_get w k) p.1 ∙ there) less in
      false≢true (sym (opens pass rows) ∙ is)
  not_first from to number line (came.Poured pass ends) h k e found low there less is =
      let p = begins config.topology ended h begun in
      let opens = in_front IsOpening (entries (first_histories config.topology) h) p.0 k e
      (firsts_open config.topology h) (ap (λ w. slice_get w k) p.1 ∙ there) less in
      false≢true (sym (opens pass ends.accepted) ∙ is)
  not_first from to number line (came.Asked moment trace) h k e found low there less is = false≢true is
  not_first from to number line (came.Followed moment trace) h k e found low there less is = false≢true is
  not_first from to number line (came.Controlled done) h k e found low there less is =
      let theirs = control_place config ended whole fronts held from to number line done h k e found there is in
      let a = theirs.low in let b = low h in omega arith
  not_first from to number line (came.Refused why) h k e found low there less is = false≢true is
  not_first from to number line (came.Ticked dues) h k e found low there less is = false≢true is
  not_first from to number line came.Done h k e found low there less is = false≢true is

  pub are_not_first : AreNotFirst entries book_entry_pass (Makes config) (Finds config) is_entry_of ended
      (first_length config.topology ended)
  are_not_first from to number line h k e ran low there less is =
      not_first from to number line line.trace h k e ran.found.found low there less is
