-- The rows that a query stands on, divided: what it means over those of some leaves, where the rows of the others
-- meet no fetch, is what it means over all of them.
use Rattle.std.proofs.Common.{◌≡◌, ◌∙◌, ◌<◌, ◌≤ℤ◌, ◌+◌, ◌&&◌, ℕ, ℤ, pos, Bool, true, false, cond, List, [], ◌∷◌, ◌++◌}
use Rattle.std.proofs.Common.{map, nat_eq, refl, sym, ap, subst, arith}
use Rattle.std.specs.Prelude.{Contains, IsPermutation}
use Rattle.std.specs.List.{AllByRecursion, filter, flat_map, list_any}
use Rattle.std.proofs.lemmas.Bool.Decides.{nat_tests}
use Rattle.std.proofs.lemmas.List.Sorted.{IsPermutation-sym, IsPermutation-trans}
use Rattle.mon_value.proofs.SameLemmas.{same_series-Decides}
use Rattle.mon_value.specs.LeafHistories.{entry_rows, kept_rows, same_replica, points_by_series, points_of}
use Rattle.mon_value.specs.Same.{same_series}
use Rattle.mon_value.specs.declared.histories.Entry.{Entry}
use Rattle.mon_value.specs.declared.histories.Entry.TheVariants as entry
use Rattle.mon_value.specs.declared.positions.Leaf.{Leaf}
use Rattle.mon_value.specs.declared.positions.Range.{Range}
use Rattle.mon_value.specs.declared.positions.Slot.{Slot}
use Rattle.mon_value.specs.declared.rows.Row.{Row}
use Rattle.mon_value.specs.declared.rows.SeriesKey.{SeriesKey}
use Rattle.mon_value.specs.declared.tables.Table.{Table}
use Rattle.mon_schema.specs.Fits.{fits}
use Rattle.mon_schema.specs.Names.{SchemaLists}
use Rattle.mon_topo.proofs.RangeHistoryLemmas.{all_from}
use Rattle.mon_value.specs.Histories.{leaf_history, same_leaf}
use Rattle.mon_value.specs.declared.histories.Histories.{Histories}
use Rattle.mon_topo.specs.HeldHistories.{AreAtHome, AreHeld, IsAtHome}
use Rattle.mon_topo.specs.RangeHistories.{IsInZoneOf}
use Rattle.mon_topo.specs.Settings.{Setting}
use Rattle.mon_topo.specs.declared.zones.ZoneSpec.{ZoneSpec}
use Rattle.mon_meaning.proofs.FilterLemmas.{filter_twice}
use Rattle.mon_meaning.specs.Central.{IsMeant, IsOver}
use Rattle.mon_meaning.specs.declared.meter.OverLimit.{OverLimit}
use Rattle.mixer.specs.Divisions.{IsDivided, all_rows}
use Rattle.typed_rows.proofs.JoinedRows.{all-map}
use Rattle.typed_rows.proofs.KeptRows.{all-take}
use Rattle.typed_trees.specs.Meaning.{load, meets, meaning}
use Rattle.typed_trees.specs.Nodes.{TypedTree}
use Rattle.typed_trees.specs.Plans.{fetches}
use Rattle.typed_trees.specs.Soundness.{IsTyped}
use Rattle.query_traces.specs.Askings.{IsAskedOf}
use Rattle.query_traces.specs.declared.answers.Resolved.{Resolved}
use Rattle.query_traces.specs.declared.answers.Trace.{Trace}
use Rattle.query_traces.specs.Rounds.{typed_of, slot_of, slots_on, QuerySetting}
use Rattle.query_traces.specs.Traces as trace
use Rattle.query_traces.specs.Traces.{is_wanted, looked_at, rows_on, source_of}
use Rattle.mon_meaning.specs.ReadableSlots.{slot_rows}
use Rattle.query_core.proofs.DividedRows.{AreLeavesOf, AreOtherLeaves, AreOthers, AreResolvedIn, IsOther, SomeLeaves}
use Rattle.query_core.proofs.DividedRows.{all_leaves, all_leaves_apart, divided_points, divided_rows}
use Rattle.query_core.proofs.DividedRows.{fit_in_all, rows_at, zones_apart}
use Rattle.mon_meaning.proofs.MeaningOrderLemmas.{load_in_order, meaning_in_order}
use Rattle.query_core.proofs.SegmentFacts.{RangesFrom}
use Rattle.mon_meaning.proofs.SeriesOrderLemmas.{series_in_order}
use Rattle.query_traces.proofs.WantedRows.{filter_alike, filter_empty, load_of_wanted, meaning_of_wanted, wanted}
use Rattle.query_traces.proofs.HiddenRows.{kept_among}
use Rattle.query_traces.proofs.LeafLemmas.{same_leaves}
use Rattle.mon_value.proofs.PlainLemmas.{all_flat}

-- ---- ranges in their order stand once

later_other : (one : Resolved) (n m : ℕ) (some : List Resolved) → one.range.0 ≡ n → n < m → RangesFrom m some
    → AllByRecursion (IsOther one) some
later_other one n m [] is below all = tt
later_other one n m (other ∷ some) is below all =
    let differ : nat_eq one.range.0 other.range.0 ≡ false =
    let first : one.range.0 ≡ n = is in let second : other.range.0 ≡ m = all.0 in grind (arith, nat_tests) in
    (differ, later_other one n (m + 1) some is (omega (arith, below)) all.1)

pub ranges_once : (n : ℕ) (resolved : List Resolved) → RangesFrom n resolved → AreOthers resolved
ranges_once n [] all = tt
ranges_once n (one ∷ resolved) all =
    (later_other one n (n + 1) resolved all.0 (omega arith) all.1, ranges_once (n + 1) resolved all.1)

-- ---- the rows that a replica keeps lie in its range

module _ (held : SchemaLists) (zones : List ZoneSpec) (range : Range) (slot : Slot) where
  one_range : (a b : Range) (c : Bool) → (nat_eq a.0 b.0 && c) ≡ true → a ≡ b
  one_range a b c same = number_same (nat_eq a.0 b.0) refl same
    where
      number_same : (d : Bool) → nat_eq a.0 b.0 ≡ d → (d && c) ≡ true → a ≡ b
      number_same true e both =
          let number : a.0 ≡ b.0 = let test : nat_eq a.0 b.0 ≡ true = e in grind (arith, nat_tests) in
          ap (λ (n : ℕ). (let range : Range = record { 0 = n } in range)) number
      number_same false e both = absurd cc

  if_at_home : (b : Bool) (rows : List Row) → (b ≡ true → AllByRecursion (IsAtHome held zones range) rows)
      → AllByRecursion (IsAtHome held zones range) (cond b rows [])
  if_at_home true rows h = h refl
  if_at_home false rows h = tt

  entry_at_home : (one : Entry) → AreAtHome held zones one → AllByRecursion (IsAtHome held zones range)
      (entry_rows range slot one)
  entry_at_home (entry.Opened pass other place rows) home =
      if_at_home (same_replica range slot other place) rows
      (λ same. all_from (IsAtHome held zones range) rows
      (subst (λ (r : Range). (row : Row) → Contains rows row → IsAtHome held zones r row)
      (sym (one_range range other (nat_eq slot.0 place.0) same)) home))
  entry_at_home (entry.Put pass other place row) home =
      if_at_home (same_replica range slot other place) (row ∷ [])
      (λ same. (
        subst (λ (r : Range). IsAtHome held zones r row)
            (sym (one_range range other (nat_eq slot.0 place.0) same)) home,
        tt,
      ))
  entry_at_home (entry.Trim pass other place before) home = tt
  entry_at_home (entry.Down pass) home = tt
  entry_at_home (entry.Up pass) home = tt

  pub kept_at_home : (history : List Entry) → AllByRecursion (AreAtHome held zones) history
      → AllByRecursion (IsAtHome held zones range) (kept_rows range slot history)
  kept_at_home history home =
      kept_among (IsAtHome held zones range) range slot history
      (all_flat (IsAtHome held zones range) (entry_rows range slot) history
      (all-map (AreAtHome held zones) (λ one. AllByRecursion (IsAtHome held zones range) (entry_rows range slot one))
      history
      entry_at_home home))

-- ---- the rows of a trace

module _ (exit : Histories) (of : Trace) where
  abbrev pub own_rows : Resolved → List Row
  own_rows one = trace.resolved_rows exit of one

  slots_by : (leaf : Leaf) (one : Resolved) (rest : List Resolved) (b : Bool) → (b ≡ true → one.leaf ≡ leaf)
      → flat_map own_rows rest ≡ slot_rows (looked_at exit of leaf) (map slot_of rest)
      → flat_map own_rows (cond b (one ∷ rest) rest) ≡ slot_rows (looked_at exit of leaf)
      (map slot_of (cond b (one ∷ rest) rest))
  slots_by leaf one rest true is same =
      λ i. kept_rows one.range one.slot (looked_at exit of (is refl i)) ++ same i
  slots_by leaf one rest false is same = same

  slots_alike : (leaf : Leaf) (resolved : List Resolved)
      → rows_at own_rows resolved leaf ≡ slot_rows (looked_at exit of leaf) (slots_on leaf resolved)
  slots_alike leaf [] = refl
  slots_alike leaf (one ∷ resolved) =
      slots_by leaf one (filter (λ one. same_leaf one.leaf leaf) resolved) (same_leaf one.leaf leaf)
      (same_leaves one.leaf leaf) (slots_alike leaf resolved)

  -- the rows on a leaf
  pub on_leaf : (leaf : Leaf) → rows_at own_rows of.resolved leaf ≡ rows_on exit of leaf
  on_leaf leaf = slots_alike leaf of.resolved

-- a range whose leaf is not among some has no row there that is wanted
abbrev pub IsLeftOut : TypedTree → Histories → Trace → List SomeLeaves → Resolved → Type 0
IsLeftOut typed exit of chosen one = list_any (same_leaf one.leaf) (all_leaves chosen) ≡ false
    → AllByRecursion (λ row. is_wanted typed row ≡ false) (own_rows exit of one)

-- a query has its type over all rows that fit
abbrev pub typed_for : (store : Setting) (setting : QuerySetting) → IsAskedOf store setting → (rows : List Row)
    → AllByRecursion (λ row. fits store.held row ≡ true) rows → IsTyped (typed_of setting) rows
typed_for store setting asked rows fit = record {
  held = store.held;
  query = asked.query;
  metrics = asked.metrics;
  spelled = asked.spelled;
  durations = asked.durations;
  is = asked.typed;
  fit = fit;
}

module _ (store : Setting) (setting : QuerySetting) (asked : IsAskedOf store setting) (moment : ℤ)
    (from : pos 0 ≤ℤ moment) (exit : Histories) (held : AreHeld store.held store.zones store.points exit) (of : Trace)
    (ranges : RangesFrom 0 of.resolved)
    (zoned : AllByRecursion (λ (one : Resolved). IsInZoneOf store.zones one.range one.leaf) of.resolved) where
  homes : (some : List Resolved)
      → AllByRecursion (λ (one : Resolved). AllByRecursion (IsAtHome store.held store.zones one.range)
      (own_rows exit of one)) some
  homes [] = tt
  homes (one ∷ some) = (
    kept_at_home store.held store.zones one.range one.slot (looked_at exit of one.leaf)
        (all-take (AreAtHome store.held store.zones) (trace.cut_of of one.leaf) (leaf_history exit one.leaf)
        (all_from (AreAtHome store.held store.zones) (leaf_history exit one.leaf) (held.at_home one.leaf))),
    homes some,
  )

  pub are_resolved : AreResolvedIn store.held store.zones (own_rows exit of) of.resolved
  are_resolved = record { once = ranges_once 0 of.resolved ranges; zoned = zoned; home = homes of.resolved }

  source_fits : AllByRecursion (λ row. fits store.held row ≡ true) (source_of exit of)
  source_fits =
      all_flat (λ row. fits store.held row ≡ true) (own_rows exit of) of.resolved
      (all-map (λ (one : Resolved). AllByRecursion (IsAtHome store.held store.zones one.range) (own_rows exit of one))
      (λ one. AllByRecursion (λ row. fits store.held row ≡ true) (own_rows exit of one)) of.resolved
      (λ one home. all-map (IsAtHome store.held store.zones one.range) (λ row. fits store.held row ≡ true)
      (own_rows exit of one)
      (λ row at. at.0) home) (homes of.resolved))

  -- rows of some leaves
  pub is_divided : (chosen : List SomeLeaves) → AreLeavesOf store.zones chosen
      → IsDivided (typed_of setting) (divided_rows (own_rows exit of) of.resolved chosen)
  is_divided chosen leaves = record {
    of = typed_for store setting asked (all_rows (divided_rows (own_rows exit of) of.resolved chosen))
        (fit_in_all store.held store.zones (own_rows exit of) of.resolved are_resolved chosen);
    located = asked.targets;
    leaves_apart = all_leaves_apart store.held store.zones (own_rows exit of) of.resolved are_resolved chosen leaves;
    zones_apart = zones_apart store.held store.zones (own_rows exit of) of.resolved are_resolved chosen leaves;
  }

  -- ---- what is wanted of a series

  abbrev wants : SeriesKey → Bool
  wants key = list_any (λ fetch. meets fetch key) (fetches (typed_of setting).tree)

  module _ (key : SeriesKey) where
    abbrev is_own : Row → Bool
    is_own row = same_series key row.key

    wants_same : (row : Row) (b : Bool) → is_own row ≡ b → wants key ≡ true → (b && is_wanted (typed_of setting) row)
        ≡ b
    wants_same row true e want =
        sym (ap wants ((same_series-Decides key row.key).0 e)) ∙ want
    wants_same row false e want = refl

    unwanted_same : (row : Row) (b : Bool) → is_own row ≡ b → wants key ≡ false
        → (b && is_wanted (typed_of setting) row) ≡ false
    unwanted_same row true e none = sym (ap wants ((same_series-Decides key row.key).0 e)) ∙ none
    unwanted_same row false e none = refl

    every : (P : Row → Type 0) → ((row : Row) → P row) → (rows : List Row) → AllByRecursion P rows
    every P each [] = tt
    every P each (row ∷ rows) = (each row, every P each rows)

    points_wanted : (rows : List Row) → wants key ≡ true → points_of key (wanted (typed_of setting) rows)
        ≡ points_of key rows
    points_wanted rows want =
        ap (map (λ (row : Row). row.point))
        (filter_twice (is_wanted (typed_of setting)) is_own rows
        ∙ filter_alike (λ row. is_own row && is_wanted (typed_of setting) row) is_own rows
        (every (λ row. (is_own row && is_wanted (typed_of setting) row) ≡ is_own row)
        (λ row. wants_same row (is_own row) refl want) rows))

    points_unwanted : (rows : List Row) → wants key ≡ false → points_of key (wanted (typed_of setting) rows) ≡ []
    points_unwanted rows none =
        ap (map (λ (row : Row). row.point))
        (filter_twice (is_wanted (typed_of setting)) is_own rows
        ∙ filter_empty (λ row. is_own row && is_wanted (typed_of setting) row) rows
        (every (λ row. (is_own row && is_wanted (typed_of setting) row) ≡ false)
        (λ row. unwanted_same row (is_own row) refl none) rows))

    not_own : (row : Row) (b : Bool) → is_own row ≡ b → wants key ≡ true → is_wanted (typed_of setting) row ≡ false
        → b ≡ false
    not_own row true e want none =
        let clash : is_wanted (typed_of setting) row ≡ true =
        sym (ap wants ((same_series-Decides key row.key).0 e)) ∙ want in
        absurd cc
    not_own row false e want none = refl

    -- rows that aren't wanted have no points of a series that is
    none_there : (rows : List Row) → wants key ≡ true
        → AllByRecursion (λ row. is_wanted (typed_of setting) row ≡ false) rows → points_of key rows ≡ []
    none_there rows want all =
        ap (map (λ (row : Row). row.point))
        (filter_empty is_own rows
        (all-map (λ row. is_wanted (typed_of setting) row ≡ false) (λ row. is_own row ≡ false) rows
        (λ row none. not_own row (is_own row) refl want none) all))

  -- ---- the rows of leaves, of which the others have none that is wanted

  module _ (chosen : List SomeLeaves) (leaves : AreLeavesOf store.zones chosen)
      (once : AreOtherLeaves (all_leaves chosen))
      (left_out : AllByRecursion (IsLeftOut (typed_of setting) exit of chosen) of.resolved) where
    abbrev some : List Row
    some = all_rows (divided_rows (own_rows exit of) of.resolved chosen)

    abbrev source : List Row
    source = source_of exit of

    points_by : (key : SeriesKey) (b : Bool) → wants key ≡ b
        → points_of key (wanted (typed_of setting) some) ≡ points_of key (wanted (typed_of setting) source)
    points_by key true want =
        points_wanted key some want
        ∙ divided_points store.held store.zones (own_rows exit of) of.resolved are_resolved key chosen once
        (all-map (IsLeftOut (typed_of setting) exit of chosen)
        (λ one. list_any (same_leaf one.leaf) (all_leaves chosen) ≡ false → points_of key (own_rows exit of one) ≡ [])
        of.resolved
        (λ one out lacks. none_there key (own_rows exit of one) want (out lacks)) left_out)
        ∙ sym (points_wanted key source want)
    points_by key false none = points_unwanted key some none ∙ sym (points_unwanted key source none)

    same_series_there : IsPermutation (points_by_series (wanted (typed_of setting) some))
        (points_by_series (wanted (typed_of setting) source))
    same_series_there =
        series_in_order (wanted (typed_of setting) some) (wanted (typed_of setting) source)
        (λ key. points_by key (wants key) refl)

    some_typed : IsTyped (typed_of setting) some
    some_typed =
        typed_for store setting asked some (fit_in_all store.held store.zones (own_rows exit of) of.resolved
        are_resolved chosen)

    source_typed : IsTyped (typed_of setting) source
    source_typed = typed_for store setting asked source source_fits

    pub same_load : load (typed_of setting) some moment ≡ load (typed_of setting) source moment
    same_load =
        sym (load_of_wanted (typed_of setting) some moment some_typed)
        ∙ load_in_order (typed_of setting) (wanted (typed_of setting) some) (wanted (typed_of setting) source) moment
        same_series_there
        ∙ load_of_wanted (typed_of setting) source moment source_typed

    same_meaning : IsPermutation (meaning (typed_of setting) some moment) (meaning (typed_of setting) source moment)
    same_meaning =
        subst (λ rows. IsPermutation rows (meaning (typed_of setting) source moment))
        (meaning_of_wanted (typed_of setting) some moment some_typed)
        (subst (IsPermutation (meaning (typed_of setting) (wanted (typed_of setting) some) moment))
        (meaning_of_wanted (typed_of setting) source moment source_typed)
        (meaning_in_order (typed_of setting) (wanted (typed_of setting) some) (wanted (typed_of setting) source) moment
        same_series_there))

    pub meant : (limit : ℕ) (table : Table) → IsMeant (typed_of setting) some moment limit table
        → IsMeant (typed_of setting) source moment limit table
    meant limit table is = record {
      columns = is.columns;
      rows = IsPermutation-trans _ _ _
          (IsPermutation-sym (meaning (typed_of setting) some moment) (meaning (typed_of setting) source moment)
          same_meaning)
          is.rows;
      within = omega (arith, is.within, same_load);
    }

    pub over_load : (limit : ℕ) (over : OverLimit) → IsOver (typed_of setting) some moment limit over
        → limit < load (typed_of setting) source moment
    over_load limit over is = omega (arith, is.above, is.most, same_load)
