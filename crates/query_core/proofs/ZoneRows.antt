-- The rows of a zone in a trace: those of the slots that its own ranges resolved to, at the cuts of its leaves.
use Rattle.std.proofs.Common.{◌≡◌, ◌∙◌, ◌<◌, ◌≤◌, ◌+◌, ◌⊎◌, inl, inr, ℕ, ℤ, zero, suc, false, List, [], ◌∷◌, ◌++◌}
use Rattle.std.proofs.Common.{length, map, take, nat_eq, get_or, refl, sym, ap, subst, append-nil, arith}
use Rattle.std.specs.List.{AllByRecursion, filter}
use Rattle.std.proofs.lemmas.Bool.Decides.{nat_tests}
use Rattle.std.proofs.lemmas.List.{map-append}
use Rattle.std.proofs.lemmas.List.Elements.{filter-append}
use Rattle.mon_topo.proofs.PartLemmas.{length-zones_of}
use Rattle.mon_value.specs.Histories.{leaf_history, leaf_numbered, same_leaf}
use Rattle.mon_value.specs.declared.histories.Histories.{Histories}
use Rattle.mon_topo.specs.RangeHistories.{IsInZoneOf}
use Rattle.mon_topo.specs.Zones.{first_leaf, first_range, leaf_zones}
use Rattle.mon_topo.specs.declared.zones.ZoneSpec.{ZoneSpec}
use Rattle.mon_value.specs.declared.positions.Leaf.{Leaf}
use Rattle.typed_rows.proofs.JoinedRows.{all-front}
use Rattle.query_traces.specs.declared.answers.Resolved.{Resolved}
use Rattle.query_traces.specs.declared.answers.Trace.{Trace}
use Rattle.query_traces.specs.declared.looks.Look.{Look}
use Rattle.query_traces.specs.Rounds.{area_of, slot_of, slots_on, QuerySetting}
use Rattle.query_traces.specs.Traces.{rows_on, cut_of}
use Rattle.mon_meaning.specs.ReadableSlots.{slot_rows}
use Rattle.query_core.proofs.ChosenLeaves.{leaf_before, leaf_behind}
use Rattle.query_core.proofs.DividedRows.{rows_at}
use Rattle.query_core.proofs.ReadLeaves.{Ascend, IsTold, LeafRead, ascend_within, cuts_of, leaves_read, reads_append}
use Rattle.query_core.proofs.ReadLeaves.{reads_ascend, reads_from, told_cuts}
use Rattle.query_core.proofs.SegmentFacts.{RangesFrom, read_rows}
use Rattle.query_core.proofs.TraceRows.{on_leaf, own_rows}
use Rattle.query_traces.proofs.WantedRows.{filter_empty}
use Rattle.query_traces.proofs.ZoneFacts as zone_facts
use Rattle.query_traces.proofs.ZoneFacts.{leaves_next, ranges_next}
use Rattle.mon_value.proofs.PlainLemmas.{all_unmapped, get_or-front}

-- ---- lists

pub get_back : {A : Type 0} (xs ys : List A) (n i : ℕ) (d : A) → n ≡ length xs + i → get_or (xs ++ ys) n d
    ≡ get_or ys i d
get_back [] ys n i d e = ap (λ k. get_or ys k d) (omega (arith, e))
get_back (x ∷ xs) ys zero i d e = absurd (omega (arith, e))
get_back (x ∷ xs) ys (suc n) i d e = get_back xs ys n i d (omega (arith, e))

ranges_first : (n : ℕ) (some more : List Resolved) → RangesFrom n (some ++ more) → RangesFrom n some
ranges_first n [] more all = tt
ranges_first n (one ∷ some) more all = (all.0, ranges_first (n + 1) some more all.1)

pub ranges_later : (n : ℕ) (some more : List Resolved) → RangesFrom n (some ++ more) → RangesFrom (n + length some) more
ranges_later n [] more all =
    let same : n ≡ n + 0 = omega arith in subst (λ (k : ℕ). RangesFrom k more) same all
ranges_later n (one ∷ some) more all =
    let same : n + 1 + length some ≡ n + suc (length some) = omega arith in
    subst (λ (k : ℕ). RangesFrom k more) same (ranges_later (n + 1) some more all.1)

ranges_below : (n m : ℕ) (some : List Resolved) → RangesFrom n some → n + length some ≤ m
    → AllByRecursion (λ (one : Resolved). one.range.0 < m) some
ranges_below n m [] all within = tt
ranges_below n m (one ∷ some) all within =
    (omega (arith, all.0, within), ranges_below (n + 1) m some all.1 (omega (arith, within)))

pub ranges_above : (n m : ℕ) (some : List Resolved) → RangesFrom n some → m ≤ n
    → AllByRecursion (λ (one : Resolved). m ≤ one.range.0) some
ranges_above n m [] all within = tt
ranges_above n m (one ∷ some) all within =
    (omega (arith, all.0, within), ranges_above (n + 1) m some all.1 (omega (arith, within)))

-- ---- slots on a leaf

pub slots_append : (leaf : Leaf) (some more : List Resolved) → slots_on leaf (some ++ more) ≡ slots_on leaf some
    ++ slots_on leaf more
slots_append leaf some more =
    ap (map slot_of) (filter-append (λ (one : Resolved). same_leaf one.leaf leaf) some more)
    ∙ map-append slot_of (filter (λ (one : Resolved). same_leaf one.leaf leaf) some)
    (filter (λ (one : Resolved). same_leaf one.leaf leaf) more)

pub no_slots : (leaf : Leaf) (some : List Resolved) → AllByRecursion (λ (one : Resolved). same_leaf one.leaf leaf
    ≡ false) some
    → slots_on leaf some ≡ []
no_slots leaf some none = ap (map slot_of) (filter_empty (λ (one : Resolved). same_leaf one.leaf leaf) some none)

other_leaf : (a b : Leaf) → (a.0 < b.0) ⊎ (b.0 < a.0) → same_leaf a b ≡ false
other_leaf a b (inl less) = let goal : nat_eq a.0 b.0 ≡ false = grind (arith, nat_tests) in goal
other_leaf a b (inr more) = let goal : nat_eq a.0 b.0 ≡ false = grind (arith, nat_tests) in goal

module _ (zones : List ZoneSpec) where
  abbrev pub IsZoned : Resolved → Type 0
  IsZoned one = IsInZoneOf zones one.range one.leaf

  abbrev pub AllZoned : List Resolved → Type 0
  AllZoned = AllByRecursion IsZoned

  -- each leaf is before the end of all zones
  pub leaves_below : (k : ℕ) (leaf : Leaf) → k ≡ length zones → leaf.0 < length (leaf_zones zones)
      → leaf.0 < first_leaf zones k
  leaves_below k leaf all there =
      omega (
        arith,
        there,
        length-zones_of (λ (zone : ZoneSpec). zone.leaves) 0 zones,
        zone_facts.all_leaves zones k (omega (arith, all)),
      )

  -- ranges before a zone have no slot on its leaves, nor have those behind
  none_before : (k : ℕ) (leaf : Leaf) (some : List Resolved) → first_leaf zones k ≤ leaf.0
      → AllByRecursion (λ (one : Resolved). one.range.0 < first_range zones k) some → AllByRecursion IsZoned some
      → AllByRecursion (λ (one : Resolved). same_leaf one.leaf leaf ≡ false) some
  none_before k leaf [] from below zoned = tt
  none_before k leaf (one ∷ some) from below zoned =
      let less = leaf_before zones k one.range one.leaf zoned.0 below.0 in
      (other_leaf one.leaf leaf (inl (omega (arith, less, from))), none_before k leaf some from below.1 zoned.1)

  pub none_behind : (k : ℕ) (leaf : Leaf) (some : List Resolved) → leaf.0 < first_leaf zones k
      → AllByRecursion (λ (one : Resolved). first_range zones k ≤ one.range.0) some → AllByRecursion IsZoned some
      → AllByRecursion (λ (one : Resolved). same_leaf one.leaf leaf ≡ false) some
  none_behind k leaf [] to above zoned = tt
  none_behind k leaf (one ∷ some) to above zoned =
      let more = leaf_behind zones k one.range one.leaf zoned.0 above.0 in
      (other_leaf one.leaf leaf (inr (omega (arith, more, to))), none_behind k leaf some to above.1 zoned.1)

  -- a zone of a trace
  pub record Stands (k : ℕ) (resolved : List Resolved) (looks : List Look) (of : Trace) : Type 0 where
    pub there : k < length zones
    pub front : List Resolved
    pub back : List Resolved
    pub resolved_is : of.resolved ≡ front ++ (resolved ++ back)
    pub front_count : length front ≡ first_range zones k
    pub count : length resolved ≡ (area_of zones k).ranges
    pub looks_front : List Look
    pub looks_back : List Look
    pub cuts_are : of.cuts ≡ cuts_of (looks_front ++ (looks ++ looks_back))
    pub looks_front_count : length looks_front ≡ first_leaf zones k
    pub looks_count : length looks ≡ (area_of zones k).leaves

  module _ (k : ℕ) (resolved : List Resolved) (looks : List Look) (of : Trace) (ranges : RangesFrom 0 of.resolved)
      (zoned : AllByRecursion IsZoned of.resolved) (stands : Stands k resolved looks of) where
    slots_there : (leaf : Leaf) → first_leaf zones k ≤ leaf.0 → leaf.0 < first_leaf zones (k + 1)
        → slots_on leaf of.resolved ≡ slots_on leaf resolved
    slots_there leaf from to =
        let front = stands.front in
        let back = stands.back in
        let next = ranges_next zones k stands.there in
        let listed : RangesFrom 0 (front ++ (resolved ++ back)) = subst (RangesFrom 0) stands.resolved_is ranges in
        let all : AllByRecursion IsZoned (front ++ (resolved ++ back)) = subst (AllByRecursion IsZoned)
        stands.resolved_is zoned in
        let rest = (all-front IsZoned front (resolved ++ back) all).1 in
        let before : slots_on leaf front ≡ [] =
        no_slots leaf front
        (none_before k leaf front from
        (ranges_below 0 (first_range zones k) front (ranges_first 0 front (resolved ++ back) listed)
        (omega (arith, stands.front_count)))
        (all-front IsZoned front (resolved ++ back) all).0) in
        let behind : slots_on leaf back ≡ [] =
        no_slots leaf back
        (none_behind (k + 1) leaf back to
        (ranges_above (0 + length front + length resolved) (first_range zones (k + 1)) back
        (ranges_later (0 + length front) resolved back (ranges_later 0 front (resolved ++ back) listed))
        (omega (arith, next, stands.front_count, stands.count)))
        (all-front IsZoned resolved back rest).1) in
        ap (slots_on leaf) stands.resolved_is
        ∙ slots_append leaf front (resolved ++ back)
        ∙ (λ i. before i ++ slots_append leaf resolved back i)
        ∙ ap (λ slots. slots_on leaf resolved ++ slots) behind
        ∙ append-nil (slots_on leaf resolved)

    pub cut_there : (place : ℕ) → place < (area_of zones k).leaves
        → cut_of of (leaf_numbered (first_leaf zones k + place)) ≡ get_or (cuts_of looks) place 0
    cut_there place within =
        let number : first_leaf zones k + place ≡ length (cuts_of stands.looks_front) + place =
        omega (arith, stands.looks_front_count, length_cuts stands.looks_front) in
        ap (λ cuts. get_or cuts (first_leaf zones k + place) 0) stands.cuts_are
        ∙ ap (λ cuts. get_or cuts (first_leaf zones k + place) 0)
        (map-append (λ (look : Look). look.cut) stands.looks_front (looks ++ stands.looks_back))
        ∙ get_back (cuts_of stands.looks_front) (cuts_of (looks ++ stands.looks_back)) (first_leaf zones k + place)
        place 0 number
        ∙ ap (λ cuts. get_or cuts place 0) (map-append (λ (look : Look). look.cut) looks stands.looks_back)
        ∙ get_or-front (cuts_of looks) (cuts_of stands.looks_back) place 0
        (omega (arith, within, stands.looks_count, length_cuts looks))
      where
        length_cuts : (looks : List Look) → length (cuts_of looks) ≡ length looks
        length_cuts [] = refl
        length_cuts (look ∷ looks) = ap suc (length_cuts looks)

    cuts_there : AllByRecursion (λ (one : LeafRead). cut_of of one.leaf ≡ one.cut) (reads_from (first_leaf zones k)
        looks)
    cuts_there =
        let all = stands.looks_front ++ (looks ++ stands.looks_back) in
        let told : AllByRecursion (IsTold all) (reads_from (length stands.looks_front) looks) =
        (all-front (IsTold all) (reads_from (length stands.looks_front) looks)
        (reads_from (length stands.looks_front + length looks) stands.looks_back)
        (subst (AllByRecursion (IsTold all)) (reads_append (length stands.looks_front) looks stands.looks_back)
        (told_cuts stands.looks_front (looks ++ stands.looks_back)))).0 in
        subst (λ (cuts : List ℕ). AllByRecursion (λ (one : LeafRead). get_or cuts one.leaf.0 0 ≡ one.cut)
        (reads_from (first_leaf zones k) looks)) (sym stands.cuts_are)
        (subst (λ (n : ℕ). AllByRecursion (IsTold all) (reads_from n looks)) stands.looks_front_count told)

    pub reads_up : Ascend (first_leaf zones k) (leaves_read (reads_from (first_leaf zones k) looks))
        (first_leaf zones (k + 1))
    reads_up =
        reads_ascend (first_leaf zones k) looks (first_leaf zones (k + 1))
        (omega (arith, stands.looks_count, leaves_next zones k stands.there))

    reads_within : AllByRecursion (λ (one : LeafRead). (first_leaf zones k ≤ one.leaf.0)
        × (one.leaf.0 < first_leaf zones (k + 1)))
        (reads_from (first_leaf zones k) looks)
    reads_within =
        all_unmapped (λ (leaf : Leaf). (first_leaf zones k ≤ leaf.0) × (leaf.0 < first_leaf zones (k + 1)))
        (λ (one : LeafRead). one.leaf) (reads_from (first_leaf zones k) looks)
        (ascend_within (first_leaf zones k) (leaves_read (reads_from (first_leaf zones k) looks))
        (first_leaf zones (k + 1))
        reads_up)

    module _ (setting : QuerySetting) (moment : ℤ) (exit : Histories) where
      -- the rows on a leaf of the zone, and on those that were read
      pub leaf_rows : (leaf : Leaf) (cut : ℕ) → first_leaf zones k ≤ leaf.0 → leaf.0 < first_leaf zones (k + 1)
          → cut_of of leaf ≡ cut
          → rows_at (own_rows exit of) of.resolved leaf ≡ slot_rows (take cut (leaf_history exit leaf))
          (slots_on leaf resolved)
      leaf_rows leaf cut from to told =
          on_leaf exit of leaf
          ∙ (λ i. slot_rows (take (told i) (leaf_history exit leaf)) (slots_there leaf from to i))

      rows_each : (reads : List LeafRead) → AllByRecursion (λ (one : LeafRead). cut_of of one.leaf ≡ one.cut) reads
          → AllByRecursion (λ (one : LeafRead). (first_leaf zones k ≤ one.leaf.0)
          × (one.leaf.0 < first_leaf zones (k + 1))) reads
          → map (read_rows setting moment exit resolved) reads
          ≡ map (rows_at (own_rows exit of) of.resolved) (leaves_read reads)
      rows_each [] told within = refl
      rows_each (one ∷ reads) told within =
          λ i. sym (leaf_rows one.leaf one.cut within.0.0 within.0.1 told.0) i ∷ rows_each reads told.1 within.1 i

      pub rows_there : map (read_rows setting moment exit resolved) (reads_from (first_leaf zones k) looks)
          ≡ map (rows_at (own_rows exit of) of.resolved) (leaves_read (reads_from (first_leaf zones k) looks))
      rows_there = rows_each (reads_from (first_leaf zones k) looks) cuts_there reads_within

      on_each : (reads : List LeafRead) → AllByRecursion (λ (one : LeafRead). cut_of of one.leaf ≡ one.cut) reads
          → AllByRecursion (λ (one : LeafRead). (first_leaf zones k ≤ one.leaf.0)
          × (one.leaf.0 < first_leaf zones (k + 1))) reads
          → AllByRecursion (λ (one : LeafRead). read_rows setting moment exit resolved one ≡ rows_on exit of one.leaf)
          reads
      on_each [] told within = tt
      on_each (one ∷ reads) told within = (
        sym (leaf_rows one.leaf one.cut within.0.0 within.0.1 told.0) ∙ on_leaf exit of one.leaf,
        on_each reads told.1 within.1,
      )

      pub rows_on_each : AllByRecursion (λ (one : LeafRead). read_rows setting moment exit resolved one
          ≡ rows_on exit of one.leaf)
          (reads_from (first_leaf zones k) looks)
      rows_on_each = on_each (reads_from (first_leaf zones k) looks) cuts_there reads_within
