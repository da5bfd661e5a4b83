-- What hides a row in a run is a trim of its range that a line made, with a bound above the row's end; the first histories
-- have none.
use Rattle.std.proofs.Common.{◌≡◌, ◌⊎◌, inl, inr, ℕ, suc, ◌+◌, ◌<◌, ◌≤◌, nat_eq, ◌&&◌, ◌||◌, Bool, true, false}
use Rattle.std.proofs.Common.{cond, List, [], ◌∷◌, take, drop, slice_get, Option, Some, None, refl, sym, ap, ◌∙◌, subst}
use Rattle.std.specs.Prelude.{Contains, ℤ}
use Rattle.std.specs.List.{AllByRecursion, flat_map, list_any}
use Rattle.std.specs.Ordering.{int_eq}
use Rattle.std.proofs.lemmas.Bool.{and_parts, cases_lt, false≢true}
use Rattle.std.proofs.lemmas.List.{take-append-drop}
use Rattle.history_book.specs.Histories.{entries}
use Rattle.history_book.specs.declared.views.BookEntry.{BookEntry}
use Rattle.history_book.specs.declared.views.BookEntry.TheVariants as one
use Rattle.history_book.specs.declared.views.History.{History}
use Rattle.history_book.specs.declared.views.History.TheVariants as of
use Rattle.mon_config.specs.Configs.{range_of_key}
use Rattle.mon_config.specs.declared.config.Config.{Config}
use Rattle.mon_script.specs.declared.forms.LineForm.{LineForm}
use Rattle.mon_topo.specs.HeldHistories.{first_histories}
use Rattle.mon_topo.specs.RangeHistories.{range_turn, range_turns}
use Rattle.mon_value.proofs.LeafHistoryLemmas.{ranges_same}
use Rattle.mon_value.specs.Histories.{leaf_history, range_history, same_leaf, same_range, same_slot}
use Rattle.mon_value.specs.LeafHistories.{entry_turns, same_replica}
use Rattle.mon_value.specs.Turns.{Turn, Adds, Hides, ends_before, hides, is_hidden_by, StandsOrIsHidden}
use Rattle.mon_value.specs.declared.histories.Ack.{Ack}
use Rattle.mon_value.specs.declared.histories.Entry.{Entry}
use Rattle.mon_value.specs.declared.histories.Entry.TheVariants as entry
use Rattle.mon_value.specs.declared.histories.Histories.{Histories}
use Rattle.mon_value.specs.declared.histories.RangeEntry.{RangeEntry}
use Rattle.mon_value.specs.declared.histories.RangeEntry.TheVariants as range_entry
use Rattle.mon_value.specs.declared.positions.Leaf.{Leaf}
use Rattle.mon_value.specs.declared.positions.Range.{Range}
use Rattle.mon_value.specs.declared.positions.Slot.{Slot}
use Rattle.mon_value.specs.declared.rows.Row.{Row}
use Rattle.mon_value.proofs.PlainLemmas as plain
use Rattle.query_traces.specs.Traces.{looked_at, resolved_turns, source_of, turns_over}
use Rattle.query_traces.specs.declared.answers.Resolved.{Resolved}
use Rattle.query_traces.specs.declared.answers.Trace.{Trace}
use Rattle.run_theory.specs.Parts.{Part, all_lines}
use Rattle.run_traces.proofs.ListFacts.{all_as, all_at, any_at, both_all, first_all}
use Rattle.run_traces.proofs.Owners.{all_first, all_flat, begins, in_front}
use Rattle.run_traces.proofs.RunFacts.{each_as}
use Rattle.run_traces.proofs.Switched.{get_mapped}
use Rattle.run_traces.proofs.Trimmed.{bounds_same}
use Rattle.run_traces.specs.Headline.{RunHolds}
use Rattle.run_traces.specs.LineAsks.{Bound, bound_of, Recovery, recovery_of, Switch, switch_of, Withdrawal, withdrawal_of}
use Rattle.run_traces.specs.LineSwitches.{first_length, is_entry_of, is_fed, is_traced, recovers, switches}
use Rattle.run_traces.specs.LineTables.{HoldsRows, LineIsFresh, StandsOnRows, turns_for}
use Rattle.run_traces.specs.LineTrims.{retires, trims}
use Rattle.run_traces.specs.RanLines.{OwnPlace, RanLine, accepted_rows, is_own}
use Rattle.run_traces.specs.declared.traces.ControlDone.TheVariants as did
use Rattle.run_traces.specs.declared.traces.LineTrace.{LineTrace}
use Rattle.run_traces.specs.declared.traces.LineTrace.TheVariants as came
use Rattle.run_laws.specs.Hidings.{HoldsSpared, LineHoldsSpared, NoSparedRowIsHidden, Spares, StandsOnSpared, trimmed_bound}

-- ---- whose a trim is

and_none : (b : Bool) → (b && false) ≡ false
and_none true = refl
and_none false = refl

-- an entry that is of no feed, no switch, no recovery and no retirement is of a line that trimmed
module _ (e : BookEntry) (not_fed : (pass : ℕ) (rows : List Row) → is_fed pass rows e ≡ false)
    (not_switched : (switch : Option Switch) (h : History) → switches switch h e ≡ false)
    (not_opened : (recovery : Option Recovery) (slot : Slot) (h : History) → recovers recovery slot h e ≡ false)
    (not_retired : (withdrawal : Option Withdrawal) (slot : Slot) (h : History) → retires withdrawal slot h e ≡ false)
  where
    by_trim : (what : LineForm) (own : List OwnPlace) (trace : LineTrace) (h : History) (k : ℕ)
        → is_traced what own trace h k e ≡ true
        → (ack : Ack) × (trace ≡ came.Controlled (did.Trimmed ack)) × (trims (bound_of what) ack h e ≡ true)
    by_trim what own (came.Fed pass accepted refused) h k is = absurd (false≢true (sym (not_fed pass accepted) ∙ is))
    by_trim what own (came.Poured pass ends) h k is = absurd (false≢true (sym (not_fed pass ends.accepted) ∙ is))
    by_trim what own (came.Controlled (did.Switched cut)) h k is = absurd (false≢true (sym (not_switched (switch_of what) h)
        ∙ (and_parts (switches (switch_of what) h e) (nat_eq (k + 1) cut) is).0))
    by_trim what own (came.Controlled (did.Recovered slot)) h k is =
        absurd (false≢true (sym (not_opened (recovery_of what) slot h) ∙ is))
    by_trim what own (came.Controlled (did.Trimmed ack)) h k is =
        (ack, refl, (and_parts (is_own own h k) (trims (bound_of what) ack h e) is).1)
    by_trim what own (came.Controlled (did.Retired slot)) h k is =
        absurd (false≢true (sym (not_retired (withdrawal_of what) slot h)
        ∙ (and_parts (is_own own h k) (retires (withdrawal_of what) slot h e) is).1))
    by_trim what own (came.Asked moment trace) h k is = absurd (false≢true is)
    by_trim what own (came.Followed moment trace) h k is = absurd (false≢true is)
    by_trim what own (came.Refused fault) h k is = absurd (false≢true is)
    by_trim what own (came.Ticked dues) h k is = absurd (false≢true is)
    by_trim what own came.Done h k is = absurd (false≢true is)

module _ (pass : ℕ) (range : Range) (slot : Slot) (before : ℤ) where
  abbrev trim : BookEntry
  trim = one.Leaf (entry.Trim pass range slot before)

  trim_switched : (switch : Option Switch) (h : History) → switches switch h trim ≡ false
  trim_switched None h = refl
  trim_switched (Some switch) h = and_none _

  trim_opened : (recovery : Option Recovery) (place : Slot) (h : History) → recovers recovery place h trim ≡ false
  trim_opened None place h = refl
  trim_opened (Some recovery) place (of.Leaf leaf) = and_none (same_leaf recovery.leaf leaf)
  trim_opened (Some recovery) place (of.Range other) = refl

  trim_retired : (withdrawal : Option Withdrawal) (place : Slot) (h : History) → retires withdrawal place h trim ≡ false
  trim_retired None place h = refl
  trim_retired (Some withdrawal) place (of.Leaf leaf) = refl
  trim_retired (Some withdrawal) place (of.Range other) = refl

  -- a line that trims so has this range and this bound
  trim_bound : (asked : Option Bound) (ack : Ack) (h : History) → trims asked ack h trim ≡ true
      → (bound : Bound) × (asked ≡ Some bound) × (bound.range ≡ range) × (bound.before ≡ before)
  trim_bound None ack h is = absurd (false≢true is)
  trim_bound (Some bound) ack (of.Leaf leaf) is =
      let both = and_parts (same_range bound.range range && int_eq bound.before before)
      (list_any (same_slot slot) ack.took) is in
      let two = and_parts (same_range bound.range range) (int_eq bound.before before) both.0 in
      (bound, refl, ranges_same bound.range range two.0, bounds_same bound.before before two.1)
  trim_bound (Some bound) ack (of.Range other) is = absurd (false≢true is)

module _ (pass : ℕ) (before : ℤ) (told : Ack) where
  abbrev trimmed : BookEntry
  trimmed = one.Range (range_entry.Trimmed pass before told)

  trimmed_switched : (switch : Option Switch) (h : History) → switches switch h trimmed ≡ false
  trimmed_switched None h = refl
  trimmed_switched (Some switch) h = and_none _

  trimmed_opened : (recovery : Option Recovery) (place : Slot) (h : History) → recovers recovery place h trimmed ≡ false
  trimmed_opened None place h = refl
  trimmed_opened (Some recovery) place (of.Leaf leaf) = refl
  trimmed_opened (Some recovery) place (of.Range other) = and_none (same_range recovery.range other)

  trimmed_retired : (withdrawal : Option Withdrawal) (place : Slot) (h : History)
      → retires withdrawal place h trimmed ≡ false
  trimmed_retired None place h = refl
  trimmed_retired (Some withdrawal) place (of.Leaf leaf) = refl
  trimmed_retired (Some withdrawal) place (of.Range other) = and_none (same_range withdrawal.range other)

  trimmed_as : (asked : Option Bound) (ack : Ack) (h : History) → trims asked ack h trimmed ≡ true
      → (bound : Bound) × (asked ≡ Some bound) × (of.Range bound.range ≡ h) × (bound.before ≡ before)
  trimmed_as None ack h is = absurd (false≢true is)
  trimmed_as (Some bound) ack (of.Leaf leaf) is = absurd (false≢true is)
  trimmed_as (Some bound) ack (of.Range other) is =
      let two = and_parts (same_range bound.range other) (int_eq bound.before before) is in (
        bound,
        refl,
        ap (λ (r : Range). of.Range r) (ranges_same bound.range other two.0),
        bounds_same bound.before before two.1,
      )

-- ---- turns that hide nothing of a row that is spared in its range

module _ (row : Row) (range : Range) where
  -- an entry of a history is no trim of the range with a bound above the row's end
  abbrev Shows : History → BookEntry → Type 0
  Shows h (one.Leaf (entry.Trim pass other slot before)) = other ≡ range → ends_before before row ≡ false
  Shows h (one.Range (range_entry.Trimmed pass before ack)) = h ≡ of.Range range → ends_before before row ≡ false
  Shows h other = Unit {0}

  abbrev IsShown : Turn → Type 0
  IsShown turn = hides row turn ≡ false

  shown_if : (b : Bool) (turns : List Turn) → (b ≡ true → AllByRecursion IsShown turns)
      → AllByRecursion IsShown (cond b turns [])
  shown_if true turns all = all refl
  shown_if false turns all = tt

  entry_shows : (leaf : Leaf) (slot : Slot) (e : Entry) → Shows (of.Leaf leaf) (one.Leaf e)
      → AllByRecursion IsShown (entry_turns range slot e)
  entry_shows leaf slot (entry.Opened pass other place rows) shows = tt
  entry_shows leaf slot (entry.Put pass other place own) shows =
      shown_if (same_replica range slot other place) (Adds own ∷ []) (λ same. (refl, tt))
  entry_shows leaf slot (entry.Trim pass other place before) shows =
      shown_if (same_replica range slot other place) (Hides before ∷ [])
      (λ same. (
        shows (sym (ranges_same range other
            (and_parts (nat_eq range.0 other.0) (nat_eq slot.0 place.0) same).0)),
        tt,
      ))
  entry_shows leaf slot (entry.Down pass) shows = tt
  entry_shows leaf slot (entry.Up pass) shows = tt

  ack_shows : (e : RangeEntry) → Shows (of.Range range) (one.Range e) → AllByRecursion IsShown (range_turn e)
  ack_shows (range_entry.Opened pass slot leaf) shows = tt
  ack_shows (range_entry.Acked pass own ack) shows = (refl, tt)
  ack_shows (range_entry.Trimmed pass before ack) shows = (shows refl, tt)
  ack_shows (range_entry.Retired pass slot) shows = tt

  none_hides : (turns : List Turn) → AllByRecursion IsShown turns → is_hidden_by turns row ≡ false
  none_hides [] all = refl
  none_hides (turn ∷ turns) all = λ i. all.0 i || none_hides turns all.1 i

  -- what stands there at first shows it
  firsts_show : (config : Config) (h : History)
      → AllByRecursion (Shows h) (entries (first_histories config.topology) h)
  firsts_show config h = all_first (Shows h) (λ at n. tt) (λ n leaf. tt) config.topology h

  -- and so does every entry of a line that spares it
  line_shows : (config : Config) → range_of_key config row.key ≡ Some range → (line : RanLine) → Spares config row line
      → (h : History) (k : ℕ) (e : BookEntry) → is_entry_of line h k e ≡ true → Shows h e
  line_shows config in_range line spares h k (one.Leaf (entry.Opened pass other slot rows)) is = tt
  line_shows config in_range line spares h k (one.Leaf (entry.Put pass other slot own)) is = tt
  line_shows config in_range line spares h k (one.Leaf (entry.Trim pass other slot before)) is = λ same.
      let by = by_trim (one.Leaf (entry.Trim pass other slot before)) (λ n rows. refl)
      (trim_switched pass other slot before) (trim_opened pass other slot before) (trim_retired pass other slot before)
      line.what line.own line.trace h k is in
      let asked = trim_bound pass other slot before (bound_of line.what) by.0 h by.2 in
      subst (λ b. ends_before b row ≡ false) asked.3
      (spares asked.0 (ap (trimmed_bound line.what) by.1 ∙ asked.1)
      (in_range ∙ ap (λ (r : Range). Some r) (sym (asked.2 ∙ same))))
  line_shows config in_range line spares h k (one.Leaf (entry.Down pass)) is = tt
  line_shows config in_range line spares h k (one.Leaf (entry.Up pass)) is = tt
  line_shows config in_range line spares h k (one.Range (range_entry.Opened pass slot leaf)) is = tt
  line_shows config in_range line spares h k (one.Range (range_entry.Acked pass own ack)) is = tt
  line_shows config in_range line spares h k (one.Range (range_entry.Trimmed pass before told)) is = λ same.
      let by = by_trim (one.Range (range_entry.Trimmed pass before told)) (λ n rows. refl)
      (trimmed_switched pass before told) (trimmed_opened pass before told) (trimmed_retired pass before told)
      line.what line.own line.trace h k is in
      let asked = trimmed_as pass before told (bound_of line.what) by.0 h by.2 in
      let range_is : asked.0.range ≡ range = range_in asked.0.range (asked.2 ∙ same) in
      subst (λ b. ends_before b row ≡ false) asked.3
      (spares asked.0 (ap (trimmed_bound line.what) by.1 ∙ asked.1)
      (in_range ∙ ap (λ (r : Range). Some r) (sym range_is)))
    where
      range_in : (other : Range) → of.Range other ≡ of.Range range → other ≡ range
      range_in other same = cc
  line_shows config in_range line spares h k (one.Range (range_entry.Retired pass slot)) is = tt

-- ---- a run

all_places : {X : Type 0} (P : X → Type 0) (xs : List X) → ((k : ℕ) (x : X) → slice_get xs k ≡ Some x → P x)
    → AllByRecursion P xs
all_places P [] each = tt
all_places P (x ∷ xs) each = (each 0 x refl, all_places P xs (λ k y there. each (suc k) y there))

front_all : {X : Type 0} (P : X → Type 0) (n : ℕ) (xs : List X) → AllByRecursion P xs → AllByRecursion P (take n xs)
front_all P n xs all =
    first_all P (take n xs) (drop n xs) (subst (AllByRecursion P) (sym (take-append-drop n xs)) all)

module _ (config : Config) (ended : Histories) (parts : List (Part RanLine)) (holds : RunHolds config ended parts) where
  -- of a row that all lines spare, in its range
  module _ (row : Row) (range : Range) (in_range : range_of_key config row.key ≡ Some range)
      (spared : AllByRecursion (Spares config row) (all_lines parts)) where
    all_show : (h : History) (k : ℕ) (e : BookEntry) → slice_get (entries ended h) k ≡ Some e → Shows row range h e
    all_show h k e there = by (cases_lt k (first_length config.topology ended h))
      where
        by : (k < first_length config.topology ended h) ⊎ (first_length config.topology ended h ≤ k)
            → Shows row range h e
        by (inl less) =
            let p = begins config.topology ended h holds.made.begun in
            in_front (Shows row range h) (entries (first_histories config.topology) h) p.0 k e
            (firsts_show row range config h) (ap (λ w. slice_get w k) p.1 ∙ there) less
        by (inr more) = any_at (λ line. is_entry_of line h k e) (all_lines parts) (Shows row range h e)
            (holds.made.made h k e there more)
            (λ j line at own. line_shows row range config in_range line
            (all_at (Spares config row) (all_lines parts) j line spared at) h k e own)

    leaf_shows : (leaf : Leaf)
        → AllByRecursion (λ e. Shows row range (of.Leaf leaf) (one.Leaf e)) (leaf_history ended leaf)
    leaf_shows leaf = all_places (λ e. Shows row range (of.Leaf leaf) (one.Leaf e)) (leaf_history ended leaf)
        (λ k e there. all_show (of.Leaf leaf) k (one.Leaf e)
        (get_mapped (λ x. one.Leaf x) (leaf_history ended leaf) k e there))

    range_shows : AllByRecursion (λ e. Shows row range (of.Range range) (one.Range e)) (range_history ended range)
    range_shows = all_places (λ e. Shows row range (of.Range range) (one.Range e)) (range_history ended range)
        (λ k e there. all_show (of.Range range) k (one.Range e)
        (get_mapped (λ x. one.Range x) (range_history ended range) k e there))

    module _ (trace : Trace) where
      replica_shows : (slot : Slot) (leaf : Leaf)
          → AllByRecursion (IsShown row range) (flat_map (entry_turns range slot) (looked_at ended trace leaf))
      replica_shows slot leaf =
          plain.all_flat (IsShown row range) (entry_turns range slot) (looked_at ended trace leaf)
          (all_as (λ e. Shows row range (of.Leaf leaf) (one.Leaf e))
          (λ e. AllByRecursion (IsShown row range) (entry_turns range slot e))
          (entry_shows row range leaf slot) (looked_at ended trace leaf)
          (front_all (λ e. Shows row range (of.Leaf leaf) (one.Leaf e)) _ (leaf_history ended leaf) (leaf_shows leaf)))

      resolved_shows : (at : Resolved) → same_range at.range range ≡ true
          → AllByRecursion (IsShown row range) (resolved_turns ended trace at)
      resolved_shows at same = subst
          (λ (r : Range). AllByRecursion (IsShown row range)
          (flat_map (entry_turns r at.slot) (looked_at ended trace at.leaf)))
          (sym (ranges_same at.range range same)) (replica_shows at.slot at.leaf)

      acked_show : (upto : ℕ)
          → AllByRecursion (IsShown row range) (range_turns (take upto (range_history ended range)))
      acked_show upto = plain.all_flat (IsShown row range) range_turn (take upto (range_history ended range))
          (all_as (λ e. Shows row range (of.Range range) (one.Range e))
          (λ e. AllByRecursion (IsShown row range) (range_turn e)) (ack_shows row range)
          (take upto (range_history ended range))
          (front_all (λ e. Shows row range (of.Range range) (one.Range e)) upto (range_history ended range) range_shows))

      over_show : (upto : ℕ) → AllByRecursion (IsShown row range) (turns_over ended upto trace range)
      over_show upto = both_all (IsShown row range)
          (flat_map (λ (at : Resolved). cond (same_range at.range range) (resolved_turns ended trace at) [])
          trace.resolved)
          (range_turns (take upto (range_history ended range)))
          (all_flat (IsShown row range)
          (λ (at : Resolved). cond (same_range at.range range) (resolved_turns ended trace at) [])
          (λ at. shown_if row range (same_range at.range range) (resolved_turns ended trace at) (resolved_shows at))
          trace.resolved)
          (acked_show upto)

  row_stands : (row : Row) (trace : Trace) (later : List RanLine) (found : Option Range)
      → range_of_key config row.key ≡ found
      → StandsOrIsHidden (source_of ended trace) (turns_for config ended later trace found) row
      → AllByRecursion (Spares config row) (all_lines parts) → Contains (source_of ended trace) row
  row_stands row trace later found is (inl stands) spared = stands
  row_stands row trace later None is (inr hidden) spared = absurd (false≢true hidden)
  row_stands row trace later (Some range) is (inr hidden) spared = absurd (false≢true
      (sym (none_hides row range (turns_for config ended later trace (Some range))
      (over_show row range is spared trace _)) ∙ hidden))

  spared_stand : (seen later : List RanLine) (trace : Trace) → StandsOnRows config ended seen later trace
      → StandsOnSpared config ended (all_lines parts) seen trace
  spared_stand seen later trace stand = all_as _ _
      (λ line. all_as _ _ (λ row stands. row_stands row trace later (range_of_key config row.key) refl stands)
      (accepted_rows line)) seen stand

  holds_spared : (seen later : List RanLine) (trace : LineTrace) → HoldsRows config ended seen later trace
      → HoldsSpared config ended (all_lines parts) seen trace
  holds_spared seen later (came.Asked moment trace) stand = spared_stand seen later trace stand
  holds_spared seen later (came.Followed moment trace) stand = spared_stand seen later trace stand
  holds_spared seen later (came.Fed pass accepted refused) stand = tt
  holds_spared seen later (came.Poured pass ends) stand = tt
  holds_spared seen later (came.Controlled done) stand = tt
  holds_spared seen later (came.Refused fault) stand = tt
  holds_spared seen later (came.Ticked dues) stand = tt
  holds_spared seen later came.Done stand = tt

pub no_row_is_hidden : NoSparedRowIsHidden
no_row_is_hidden config ended parts holds = each_as (LineIsFresh config ended)
    (LineHoldsSpared config ended (all_lines parts))
    (λ seen later line fresh. holds_spared config ended parts holds seen later line.trace fresh.0) [] parts holds.fresh
