-- What is known of ranges that resolve, and of zones that stand as they had been seen.
use Rattle.std.proofs.lemmas.Option.{same_Some}
use Rattle.std.proofs.Common.{◌≡◌, ◌∙◌, ℕ, zero, suc, ◌+◌, ◌-◌, ◌<◌, ◌≤◌, Bool, true, false, not, cond, List, [], ◌∷◌}
use Rattle.std.proofs.Common.{◌++◌, length, map, take, drop, filter, get_or, slice_get, Some, Contains, ◌⊎◌, inl, inr}
use Rattle.std.proofs.Common.{refl, sym, ap, subst, arith}
use Rattle.std.specs.List.{AllByRecursion as All, range_with_len}
use Rattle.std.proofs.lemmas.List.{get_or-drop, get_or-map, get_or-take, length-drop, length-map, length-take-le}
use Rattle.std.proofs.lemmas.List.{drop-map, take-append-drop, take-map, take-take, take_all}
use Rattle.std.proofs.lemmas.List.Elements.{Contains-append_right}
use Rattle.std.proofs.lemmas.List.FromFn.{length-map-range_with_len}
use Rattle.mon_hints.specs.Hints.{history_buckets}
use Rattle.mon_schema.specs.Fits.{fits}
use Rattle.mon_schema.specs.Names.{SchemaLists}
use Rattle.mon_topo.proofs.FrontLemmas.{begins-flat_map, begins_from, begins_length, begins_to}
use Rattle.mon_topo.proofs.RangeHistoryLemmas.{all_at, all_back, all_from, all_front, all_on}
use Rattle.mon_topo.specs.Replicas.{HasReplicas}
use Rattle.mon_value.specs.Histories.{leaf_history, range_history, range_numbered}
use Rattle.mon_value.specs.declared.histories.Histories.{Histories}
use Rattle.mon_topo.specs.HeldHistories.{AreAtHome, AreHeld, BeginsWith, AreWithin}
use Rattle.mon_topo.specs.RangeHistories.{acknowledged_rows, acked_row, first_serving, is_avoided, range_turns, serving}
use Rattle.mon_topo.specs.Zones.{first_leaf, first_range, no_zone, ranges_in}
use Rattle.mon_topo.specs.declared.zones.ZoneSpec.{ZoneSpec}
use Rattle.mon_value.specs.LeafHistories.{brought_rows, entry_rows, kept_rows, leaf_rows, replica_rows, same_replica}
use Rattle.mon_value.specs.Turns.{StandsOrIsHidden}
use Rattle.mon_value.specs.declared.histories.Entry.{Entry}
use Rattle.mon_value.specs.declared.histories.Entry.TheVariants as entry
use Rattle.mon_value.specs.declared.histories.RangeEntry.{RangeEntry}
use Rattle.mon_value.specs.declared.positions.Leaf.{Leaf}
use Rattle.mon_value.specs.declared.positions.Range.{Range}
use Rattle.mon_value.specs.declared.positions.RangeSlot.{RangeSlot}
use Rattle.mon_value.specs.declared.positions.Slot.{Slot}
use Rattle.mon_value.specs.declared.positions.SlotLeaf.{SlotLeaf}
use Rattle.mon_value.specs.declared.rows.Row.{Row}
use Rattle.mon_value.specs.declared.rows.SeriesKey.{SeriesKey}
use Rattle.query_traces.proofs.AckedRows.{HasRows, serve_at}
use Rattle.query_traces.proofs.HiddenRows.{hidden_on, kept_among, shown_on}
use Rattle.query_traces.proofs.Spans.{IsLookedAt, ResolvedSo, SpanSo, StandsAt, StandsIn, Tells, look_at, more_avoided}
use Rattle.query_traces.proofs.Spans.{outside, range_of, resolved_on, stands_later, up_to}
use Rattle.mon_topo.proofs.SizeLemmas.{parts_so_far}
use Rattle.query_traces.proofs.ZoneFacts.{leaf_zoned, leaves_next, ranges_next}
use Rattle.query_traces.specs.Rounds.{area_of, unread_look, slots_on}
use Rattle.query_traces.specs.Traces.{IsFirstServing, replica_of}
use Rattle.mon_meaning.specs.ReadableSlots.{slot_rows}
use Rattle.query_traces.specs.declared.answers.Resolved.{Resolved}
use Rattle.query_traces.specs.declared.looks.Look.{Look}

-- ---- lists

all_taken : {X : Type 0} (P : X → Type 0) (n : ℕ) (xs : List X) → All P xs → All P (take n xs)
all_taken P zero [] all = record {}
all_taken P zero (x ∷ xs) all = record {}
all_taken P (suc n) [] all = record {}
all_taken P (suc n) (x ∷ xs) all = (all.0, all_taken P n xs all.1)

all_left : {X : Type 0} (P : X → Type 0) (n : ℕ) (xs : List X) → All P xs → All P (drop n xs)
all_left P zero xs all = all
all_left P (suc n) [] all = record {}
all_left P (suc n) (x ∷ xs) all = all_left P n xs all.1

take_numbers : (base m n : ℕ) → m ≤ n → take m (range_with_len base n) ≡ range_with_len base m
take_numbers base zero n few = refl
take_numbers base (suc m) zero few = absurd (omega (arith, few))
take_numbers base (suc m) (suc n) few = ap (λ rest. base ∷ rest) (take_numbers (base + 1) m n (omega (arith, few)))

numbers_between : (base a m n : ℕ) → a + m ≤ n → take m (drop a (range_with_len base n)) ≡ range_with_len (base + a) m
numbers_between base zero m n few =
    let same : base ≡ base + 0 = omega arith in
    take_numbers base m n (omega (arith, few)) ∙ ap (λ b. range_with_len b m) same
numbers_between base (suc a) m zero few = absurd (omega (arith, few))
numbers_between base (suc a) m (suc n) few =
    let on : base + 1 + a ≡ base + suc a = omega arith in
    numbers_between (base + 1) a m n (omega (arith, few)) ∙ ap (λ b. range_with_len b m) on

numbers_of : (xs : List Resolved) (a m : ℕ) → map range_of xs ≡ map range_numbered (range_with_len a m)
    → All (λ (one : Resolved). (a ≤ one.range.0) × (one.range.0 < a + m)) xs
numbers_of [] a m e = record {}
numbers_of (x ∷ xs) a zero e = absurd (cc)
numbers_of (x ∷ xs) a (suc m) e =
    let head : x.range ≡ range_numbered a = cc in
    let rest : map range_of xs ≡ map range_numbered (range_with_len (a + 1) m) = cc in
    let number : x.range.0 ≡ a = ap (λ (range : Range). range.0) head in (
      (omega (arith, number), omega (arith, number)),
      all_on (λ (one : Resolved). (a + 1 ≤ one.range.0) × (one.range.0 < a + 1 + m))
          (λ (one : Resolved). (a ≤ one.range.0) × (one.range.0 < a + suc m))
          (λ one within. (omega (arith, within.0), omega (arith, within.1))) xs (numbers_of xs (a + 1) m rest),
    )

begins_before : {X : Type 0} (all was : List X) (n : ℕ) → BeginsWith all was → length was ≤ n → BeginsWith (take n all)
    was
begins_before all was n h short = take-take (length was) n all short ∙ h

-- ---- rows of a history

module _ (P : Row → Type 0) where
  brought_by : (b : Bool) (rows : List Row) → All P rows → All P (cond b rows [])
  brought_by true rows all = all
  brought_by false rows all = record {}

  entry_among : (r : Range) (slot : Slot) (e : Entry) → All P (brought_rows e) → All P (entry_rows r slot e)
  entry_among r slot (entry.Opened pass other place rows) all = brought_by (same_replica r slot other place) rows all
  entry_among r slot (entry.Put pass other place row) all = brought_by (same_replica r slot other place) (row ∷ []) all
  entry_among r slot (entry.Trim pass other place before) all = record {}
  entry_among r slot (entry.Down pass) all = record {}
  entry_among r slot (entry.Up pass) all = record {}

  all_join : (xs ys : List Row) → All P xs → All P ys → All P (xs ++ ys)
  all_join [] ys all more = more
  all_join (x ∷ xs) ys all more = (all.0, all_join xs ys all.1 more)

  replica_among : (r : Range) (slot : Slot) (history : List Entry) → All P (leaf_rows history)
      → All P (replica_rows r slot history)
  replica_among r slot [] all = record {}
  replica_among r slot (e ∷ history) all =
      all_join (entry_rows r slot e) (replica_rows r slot history)
      (entry_among r slot e (all_front P (brought_rows e) (leaf_rows history) all))
      (replica_among r slot history (all_back P (brought_rows e) (leaf_rows history) all))

  pub slots_among : (history : List Entry) (slots : List RangeSlot) → All P (leaf_rows history)
      → All P (slot_rows history slots)
  slots_among history [] all = record {}
  slots_among history (one ∷ slots) all =
      all_join (kept_rows one.range one.slot history) (slot_rows history slots)
      (kept_among P one.range one.slot history (replica_among one.range one.slot history all))
      (slots_among history slots all)

module _ (held : SchemaLists) (zones : List ZoneSpec) where
  home_entry : (e : Entry) → AreAtHome held zones e → All (λ row. fits held row ≡ true) (brought_rows e)
  home_entry (entry.Opened pass range slot rows) home =
      all_from (λ row. fits held row ≡ true) rows (λ row there. (home row there).0)
  home_entry (entry.Put pass range slot row) home = (home.0, record {})
  home_entry (entry.Trim pass range slot before) home = record {}
  home_entry (entry.Down pass) home = record {}
  home_entry (entry.Up pass) home = record {}

  pub home_rows : (history : List Entry) → ((e : Entry) → Contains history e → AreAtHome held zones e)
      → All (λ row. fits held row ≡ true) (leaf_rows history)
  home_rows [] home = record {}
  home_rows (e ∷ history) home =
      all_join (λ row. fits held row ≡ true) (brought_rows e) (leaf_rows history)
      (home_entry e (home e (zero, omega arith, refl)))
      (home_rows history (λ other there. home other (Contains-append_right (e ∷ []) history other there)))

-- ---- the first replica

abbrev free : List Leaf → List SlotLeaf → List SlotLeaf
free avoided replicas = filter (λ replica. not (is_avoided avoided replica)) replicas

free_by : (avoided : List Leaf) (replica one : SlotLeaf) (replicas : List SlotLeaf) (b : Bool)
    → (slice_get (free avoided replicas) 0 ≡ Some one → Contains replicas one)
    → slice_get (cond b (replica ∷ free avoided replicas) (free avoided replicas)) 0 ≡ Some one
    → Contains (replica ∷ replicas) one
free_by avoided replica one replicas true rest e = (zero, omega arith, same_Some replica one e)
free_by avoided replica one replicas false rest e = Contains-append_right (replica ∷ []) replicas one (rest e)

first_there : (avoided : List Leaf) (one : SlotLeaf) (replicas : List SlotLeaf)
    → slice_get (free avoided replicas) 0 ≡ Some one → Contains replicas one
first_there avoided one [] e = absurd (cc)
first_there avoided one (replica ∷ replicas) e =
    free_by avoided replica one replicas (not (is_avoided avoided replica)) (first_there avoided one replicas) e

module _ (held : SchemaLists) (zones : List ZoneSpec) (points : ℕ)
    (replicated : (r : ℕ) → r < length (ranges_in zones) → HasReplicas zones (range_numbered r))
    (at_entry seen : Histories)
    (holds : AreHeld held zones points seen) (since : AreWithin at_entry seen) (k : ℕ) (there : k < length zones) where
  ranges_within : first_range zones k + (area_of zones k).ranges ≤ length seen.ranges
  ranges_within =
      omega (arith, parts_so_far (λ (zone : ZoneSpec). zone.ranges) zones k no_zone there, holds.all_ranges)

  abbrev IsOfZone : Range → Type 0
  IsOfZone range = (first_range zones k ≤ range.0) × (range.0 < first_range zones k + (area_of zones k).ranges)

  abbrev AreNear : List SlotLeaf → Type 0
  AreNear = All (λ (replica : SlotLeaf). (first_leaf zones k ≤ replica.leaf.0)
      × (replica.leaf.0 < first_leaf zones (k + 1)))

  serve_near : (range : Range) → IsOfZone range → (n : ℕ)
      → All (HasRows zones seen range (take n (range_history seen range))) (serving (take n (range_history seen range)))
  serve_near range in_zone n =
      let within : range.0 < length seen.ranges = omega (arith, in_zone.1, ranges_within) in
      serve_at zones seen range held points (replicated range.0 (omega (arith, within, holds.all_ranges)))
      (range_history seen range) n (holds.legal range within) (holds.borne_out range within).borne_out

  pub near_at : (range : Range) → IsOfZone range → (n : ℕ) → AreNear (serving (take n (range_history seen range)))
  near_at range in_zone n =
      all_on (HasRows zones seen range (take n (range_history seen range)))
      (λ (replica : SlotLeaf). (first_leaf zones k ≤ replica.leaf.0) × (replica.leaf.0 < first_leaf zones (k + 1)))
      (λ replica has.
      (let bounds = leaf_zoned zones k range replica.leaf there in_zone.0 in_zone.1 has.zoned in
      (bounds.0, omega (arith, bounds.1, leaves_next zones k there))))
      (serving (take n (range_history seen range))) (serve_near range in_zone n)

  -- a range of a zone that resolves does so to a leaf of the zone, which has the rows that were acknowledged, but for those
  -- that the range trimmed
  pub record ResolvesSo (avoided : List Leaf) (one : Resolved) : Type 0 where
    pub resolved : ResolvedSo at_entry seen avoided (first_leaf zones k) (first_leaf zones (k + 1)) one
    pub stands : StandsIn at_entry seen (leaf_history seen one.leaf) one

  pub resolves_so : (avoided : List Leaf) (one : Resolved) → IsOfZone one.range
      → IsFirstServing at_entry seen avoided one → ResolvesSo avoided one
  resolves_so avoided one in_zone is =
      let history = range_history seen one.range in
      let front = take is.found history in
      let was = range_history at_entry one.range in
      let own = replica_rows one.range one.slot (leaf_history seen one.leaf) in
      let serves : Contains (serving front) (replica_of one) = first_there avoided (replica_of one) (serving front)
      is.first in
      let near = all_at (λ (replica : SlotLeaf). (first_leaf zones k ≤ replica.leaf.0)
      × (replica.leaf.0 < first_leaf zones (k + 1)))
      (serving front) (replica_of one) (near_at one.range in_zone is.found) serves in
      let has = all_at (HasRows zones seen one.range front) (serving front) (replica_of one)
      (serve_near one.range in_zone is.found) serves in
      let begins : BeginsWith front was = begins_before history was is.found (since.ranges one.range) is.between.from in
      record {
        resolved = record { first = is; near = near_at one.range in_zone is.found; from = near.0; to = near.1 };
        stands = record {
          opened = has.opened;
          rows = all_on (StandsOrIsHidden own (range_turns front)) (StandsOrIsHidden own (range_turns history))
              (λ row. shown_on own own (range_turns front) (range_turns history) row (λ there. there)
              (hidden_on history front row
              (begins_from history front (drop is.found history) (sym (take-append-drop is.found history)))))
              (acknowledged_rows was)
              (all_front (StandsOrIsHidden own (range_turns front)) (acknowledged_rows was)
              (drop (length (acknowledged_rows was)) (acknowledged_rows front))
              (subst (All (StandsOrIsHidden own (range_turns front)))
              (begins_to (acknowledged_rows front) (acknowledged_rows was)
              (begins-flat_map acked_row front was begins)) has.rows));
        };
      }

-- ---- a zone that stands as it had been seen

module _ (held : SchemaLists) (zones : List ZoneSpec) (points : ℕ)
    (replicated : (r : ℕ) → r < length (ranges_in zones) → HasReplicas zones (range_numbered r)) (wanted : Row → Bool)
    (met : List ℕ → Bool) (buckets_of : SeriesKey → List ℕ)
    (unmet : (history : List Entry) → All (λ row. fits held row ≡ true) (leaf_rows history)
    → met (history_buckets buckets_of history) ≡ false → All (λ row. wanted row ≡ false) (leaf_rows history)) where
  -- where no formula holds, a leaf that was not read has nothing that is wanted
  pub tells_unmet : (history : List Entry) (slots : List RangeSlot) (look : Look)
      → ((e : Entry) → Contains history e → AreAtHome held zones e) → look.read ≡ false
      → met (history_buckets buckets_of history) ≡ false → Tells wanted met buckets_of history slots look
  tells_unmet history slots look home left out = record {
    unread = λ e. slots_among (λ row. wanted row ≡ false) history slots
        (unmet history (home_rows held zones history home) out);
    read = λ e. absurd (cc);
    up = λ e. absurd (cc);
  }

  module _ (at_entry seen now : Histories) (holds : AreHeld held zones points seen) (since : AreWithin at_entry seen)
      (until : AreWithin seen now) (avoided : List Leaf) (k : ℕ) (there : k < length zones)
      (below : All (λ (leaf : Leaf). leaf.0 < first_leaf zones k) avoided) (cuts : List ℕ) (firsts : List Resolved)
      (cuts_are : cuts ≡ map length seen.leaves)
      (ranges_are : map range_of firsts ≡ map range_numbered (range_with_len 0 (length seen.ranges)))
      (firsts_are : All (λ (one : Resolved). first_serving [] (range_history seen one.range) ≡ Some (replica_of one))
      firsts) where
    abbrev low : ℕ
    low = first_leaf zones k

    abbrev leaves : ℕ
    leaves = (area_of zones k).leaves

    abbrev first : ℕ
    first = first_range zones k

    abbrev count : ℕ
    count = (area_of zones k).ranges

    abbrev own_cuts : List ℕ
    own_cuts = take leaves (drop low cuts)

    abbrev own_firsts : List Resolved
    own_firsts = take count (drop first firsts)

    cuts_long : low + leaves ≤ length cuts
    cuts_long =
        omega (
          arith,
          parts_so_far (λ (zone : ZoneSpec). zone.leaves) zones k no_zone there,
          holds.all_leaves,
          ap length cuts_are,
          length-map seen.leaves (λ (history : List Entry). length history),
        )

    firsts_long : first + count ≤ length firsts
    firsts_long =
        omega (
          arith,
          ranges_within held zones points replicated at_entry seen holds since k there,
          ap length ranges_are,
          length-map firsts range_of,
          length-map-range_with_len range_numbered 0 (length seen.ranges),
        )

    own_cuts_long : length own_cuts ≡ leaves
    own_cuts_long = length-take-le leaves (drop low cuts) (omega (arith, cuts_long, length-drop low cuts))

    own_firsts_long : length own_firsts ≡ count
    own_firsts_long = length-take-le count (drop first firsts) (omega (arith, firsts_long, length-drop first firsts))

    own_ranges : map range_of own_firsts ≡ map range_numbered (range_with_len first count)
    own_ranges =
        let start : 0 + first ≡ first = omega arith in
        sym (take-map range_of count (drop first firsts))
        ∙ ap (take count) (sym (drop-map range_of first firsts) ∙ ap (drop first) ranges_are
        ∙ drop-map range_numbered first (range_with_len 0 (length seen.ranges)))
        ∙ take-map range_numbered count (drop first (range_with_len 0 (length seen.ranges)))
        ∙ ap (map range_numbered) (numbers_between 0 first count (length seen.ranges)
        (ranges_within held zones points replicated at_entry seen holds since k there))
        ∙ ap (λ n. map range_numbered (range_with_len n count)) start

    pub seen_cut : (leaf : Leaf) → low ≤ leaf.0 → leaf.0 < low + leaves
        → look_at low (map unread_look own_cuts) leaf ≡ unread_look (length (leaf_history seen leaf))
    seen_cut leaf from to =
        let i = leaf.0 - low in
        let place : low + i ≡ leaf.0 = omega (arith, from) in
        let here : i < leaves = omega (arith, from, to) in
        get_or-map unread_look own_cuts i 0 (unread_look 0) (omega (arith, here, own_cuts_long))
        ∙ ap unread_look
        (get_or-take leaves (drop low cuts) i 0 here ∙ get_or-drop low cuts i 0 ∙ ap (λ n. get_or cuts n 0)
        place
        ∙ ap (λ all. get_or all leaf.0 0) cuts_are
        ∙ get_or-map (λ (history : List Entry). length history) seen.leaves leaf.0 [] 0
        (omega (
          arith,
          from,
          to,
          cuts_long,
          ap length cuts_are,
          length-map seen.leaves (λ (history : List Entry).
              length history),
        )))

    whole : (leaf : Leaf) → up_to now leaf (unread_look (length (leaf_history seen leaf))) ≡ leaf_history seen leaf
    whole leaf = until.leaves leaf

    -- each of the zone's ranges
    first_is : (one : Resolved) → (first ≤ one.range.0) × (one.range.0 < first + count)
        → first_serving [] (range_history seen one.range) ≡ Some (replica_of one)
        → IsFirstServing at_entry seen avoided one
    first_is one in_zone is =
        let history = range_history seen one.range in
        let all : take (length history) history ≡ history = take_all (length history) history (omega arith) in
        let near = near_at held zones points replicated at_entry seen holds since k there one.range in_zone
        (length history) in
        let apart : All (λ (replica : SlotLeaf). is_avoided avoided replica ≡ false) (serving history) =
        subst (λ (front : List RangeEntry). All (λ (replica : SlotLeaf). is_avoided avoided replica ≡ false)
        (serving front)) all
        (all_on (λ (replica : SlotLeaf). (low ≤ replica.leaf.0) × (replica.leaf.0 < first_leaf zones (k + 1)))
        (λ (replica : SlotLeaf). is_avoided avoided replica ≡ false)
        (λ replica within. outside low (first_leaf zones (k + 1)) avoided replica within
        (all_on (λ (leaf : Leaf). leaf.0 < low) (λ (leaf : Leaf). (leaf.0 < low) ⊎ (first_leaf zones (k + 1) ≤ leaf.0))
        (λ leaf less. inl less) avoided below))
        (serving (take (length history) history)) near) in
        record {
          found = length history;
          between = record {
            from = begins_length history (range_history at_entry one.range) (since.ranges one.range);
            to = omega arith;
          };
          first = ap (first_serving avoided) all
              ∙ ap (λ some. slice_get some 0) (more_avoided [] avoided (serving history) apart) ∙ is;
        }

    each_range : (some : List Resolved)
        → All (λ (one : Resolved). (first ≤ one.range.0) × (one.range.0 < first + count)) some
        → All (λ (one : Resolved). first_serving [] (range_history seen one.range) ≡ Some (replica_of one)) some
        → All (ResolvedSo at_entry now avoided low (first_leaf zones (k + 1))) some
    each_range [] within serve = record {}
    each_range (one ∷ some) within serve = (
      resolved_on at_entry seen now until avoided low (first_leaf zones (k + 1)) one
          (resolves_so held zones points replicated at_entry seen holds since k there avoided one within.0
          (first_is one within.0 serve.0)).resolved,
      each_range some within.1 serve.1,
    )

    each_stands : (some : List Resolved)
        → All (λ (one : Resolved). (first ≤ one.range.0) × (one.range.0 < first + count)) some
        → All (λ (one : Resolved). first_serving [] (range_history seen one.range) ≡ Some (replica_of one)) some
        → All (StandsAt at_entry now low (map unread_look own_cuts)) some
    each_stands [] within serve = record {}
    each_stands (one ∷ some) within serve =
        let is = resolves_so held zones points replicated at_entry seen holds since k there avoided one within.0
        (first_is one within.0 serve.0) in
        let look = seen_cut one.leaf is.resolved.from (omega (arith, is.resolved.to, leaves_next zones k there)) in
        let stands = stands_later at_entry seen now until (leaf_history seen one.leaf) one is.stands in (
          subst (λ (look : Look). StandsIn at_entry now (up_to now one.leaf look) one) (sym look)
              (subst (λ (history : List Entry). StandsIn at_entry now history one) (sym (whole one.leaf)) stands),
          each_stands some within.1 serve.1,
        )

    looked_there : (leaf : Leaf) → low ≤ leaf.0 → leaf.0 < low + leaves
        → IsLookedAt at_entry now leaf (look_at low (map unread_look own_cuts) leaf)
    looked_there leaf from to =
        subst (IsLookedAt at_entry now leaf) (sym (seen_cut leaf from to)) (record {
          from = begins_length (leaf_history seen leaf) (leaf_history at_entry leaf) (since.leaves leaf);
          to = begins_length (leaf_history now leaf) (leaf_history seen leaf) (until.leaves leaf);
        })

    module _ (Skip : Leaf → Type 0) (shut : (leaf : Leaf) → low ≤ leaf.0 → leaf.0 < low + leaves
        → Skip leaf ⊎ (met (history_buckets buckets_of (leaf_history seen leaf)) ≡ false)) where
      told_there : (leaf : Leaf) → low ≤ leaf.0 → leaf.0 < low + leaves
          → Skip leaf ⊎ Tells wanted met buckets_of
          (up_to now leaf (look_at low (map unread_look own_cuts) leaf))
          (slots_on leaf own_firsts) (look_at low (map unread_look own_cuts) leaf)
      told_there leaf from to = elim (shut leaf from to) [
        | inl skip ↦ inl skip
        | inr out ↦ inr (subst (λ (look : Look). Tells wanted met buckets_of
            (up_to now leaf look) (slots_on leaf own_firsts) look) (sym (seen_cut leaf from to))
            (subst (λ (history : List Entry). Tells wanted met buckets_of history (slots_on leaf own_firsts)
            (unread_look (length (leaf_history seen leaf)))) (sym (whole leaf))
            (tells_unmet (leaf_history seen leaf) (slots_on leaf own_firsts)
            (unread_look (length (leaf_history seen leaf)))
            (λ e there. holds.at_home leaf e there) refl out)))
      ]

      pub seen_span : SpanSo at_entry wanted met buckets_of now avoided Skip low (first_leaf zones (k + 1)) first
          (first_range zones (k + 1)) own_firsts (map unread_look own_cuts)
      seen_span =
          let within = numbers_of own_firsts first count own_ranges in
          let serve = all_taken (λ (one : Resolved). first_serving [] (range_history seen one.range)
          ≡ Some (replica_of one)) count
          (drop first firsts)
          (all_left (λ (one : Resolved). first_serving [] (range_history seen one.range) ≡ Some (replica_of one)) first
          firsts
          firsts_are) in
          let next = leaves_next zones k there in
          record {
            long = omega (arith, next, own_cuts_long, length-map own_cuts unread_look);
            count = omega (arith, ranges_next zones k there, own_firsts_long);
            ranges = own_ranges ∙ ap (λ n. map range_numbered (range_with_len first n)) (sym own_firsts_long);
            each = each_range own_firsts within serve;
            cuts = λ leaf from to. looked_there leaf from (omega (arith, to, next));
            stand = each_stands own_firsts within serve;
            tells = λ leaf from to. told_there leaf from (omega (arith, to, next));
          }
