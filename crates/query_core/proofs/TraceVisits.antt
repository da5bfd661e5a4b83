-- What a query knows as ranges resolve and leaves are visited.
use Rattle.std.proofs.Common.{◌≡◌, ◌∙◌, ℕ, zero, suc, ◌+◌, ◌-◌, ◌<◌, ◌≤◌, Bool, true, false, not, List, [], ◌∷◌}
use Rattle.std.proofs.Common.{◌++◌, length, map, filter, take, drop, get_or, slice_get, Some, None, Contains, ◌⊎◌, inl}
use Rattle.std.proofs.Common.{inr, refl, sym, ap, subst, length-append, arith}
use Rattle.std.specs.List.{AllByRecursion as All, range_with_len}
use Rattle.std.proofs.lemmas.Bool.{and_cases}
use Rattle.std.proofs.lemmas.List.{map-append, take-append-drop, take-take}
use Rattle.std.proofs.lemmas.List.Elements.{Contains-append_right}
use Rattle.std.proofs.lemmas.List.FromFn.{get_or-map-range_with_len, map-range_with_len_more}
use Rattle.mon_hints.specs.Formulas.{all_named, formula_tree, formulas, AreAmong}
use Rattle.mon_hints.specs.Hints.{history_buckets}
use Rattle.mon_schema.specs.Fits.{fits}
use Rattle.mon_topo.proofs.FrontLemmas.{begins_from, begins_length, take_on}
use Rattle.mon_topo.proofs.HeldLemmas.{leaf_same, seen_within_through}
use Rattle.mon_topo.proofs.RangeHistoryLemmas.{all_append, all_filter, all_on}
use Rattle.mon_value.specs.Histories.{leaf_history, range_history, range_numbered}
use Rattle.mon_value.specs.declared.histories.Histories.{Histories}
use Rattle.mon_topo.specs.HeldHistories.{BeginsWith, AreWithin}
use Rattle.mon_topo.specs.RangeHistories.{serving, is_avoided}
use Rattle.mon_topo.specs.Replicas.{HasReplicas}
use Rattle.mon_topo.specs.Settings.{Setting}
use Rattle.mon_topo.specs.Zones.{first_leaf, first_range, range_zones, ranges_in}
use Rattle.mon_topo.specs.declared.zones.ZoneSpec.{ZoneSpec}
use Rattle.mon_value.specs.LeafHistories.{leaf_rows}
use Rattle.mon_value.specs.declared.histories.Entry.{Entry}
use Rattle.mon_value.specs.declared.positions.Leaf.{Leaf}
use Rattle.mon_value.specs.declared.positions.Range.{Range}
use Rattle.mon_value.specs.declared.positions.RangeSlot.{RangeSlot}
use Rattle.mon_value.specs.declared.positions.Slot.{Slot}
use Rattle.mon_value.specs.declared.positions.SlotLeaf.{SlotLeaf}
use Rattle.query_traces.proofs.FindingLemmas.{no_replica, one_found}
use Rattle.query_traces.proofs.RoundLemmas.{has_at}
use Rattle.query_traces.proofs.SeenSpans.{near_at, resolves_so, seen_cut, tells_unmet}
use Rattle.query_traces.proofs.Spans.{ResolvedSo, StandsAt, StandsIn, Tells, look_at, more_avoided, outside, range_of}
use Rattle.query_traces.proofs.Spans.{stands_later, up_to}
use Rattle.query_core.proofs.TraceClaims as claim
use Rattle.query_core.proofs.TraceClaims.{Anybody}
use Rattle.query_core.proofs.TraceSteps.{resolving_so}
use Rattle.query_core.proofs.TraceWords.{zone_seen, zone_shut}
use Rattle.query_traces.proofs.ZoneFacts.{leaves_next, ranges_next, zone_of_range_at}
use Rattle.mon_value.proofs.PlainLemmas.{contains_kept, in_map}
use Rattle.query_traces.specs.Rounds.{area_of, has_leaf, leaf_at, unread_look, Round, is_none, is_to_visit}
use Rattle.query_traces.specs.Rounds.{leaves_to_visit, resolution, round_of, slots_by_leaf, slots_on, with_slot}
use Rattle.query_traces.specs.Rounds.{QuerySetting}
use Rattle.query_core.specs.Courses.{cuts_seen, firsts_seen, founds_in, with_found}
use Rattle.query_traces.specs.Founds.{HasNoReplica}
use Rattle.plan_split.specs.Meeting.{flag_at, let_in}
use Rattle.query_core.specs.Program.{resolving}
use Rattle.query_traces.specs.TrueAnswers.{IsFoundSo, IsResolvedSo}
use Rattle.mon_topo.specs.Views.{IsSound, IsViewWithin, View}
use Rattle.query_traces.specs.Traces.{IsFirstServing}
use Rattle.mon_meaning.specs.ReadableSlots.{slot_rows}
use Rattle.query_traces.specs.Visits.{Visits, visits_of}
use Rattle.query_traces.specs.declared.answers.Resolved.{Resolved}
use Rattle.query_traces.specs.declared.areas.Area.{Area}
use Rattle.query_core.specs.declared.courses.Course.{Course}
use Rattle.query_traces.specs.declared.loadings.Loading.{Loading}
use Rattle.query_traces.specs.declared.looks.Look.{Look}

-- ---- lists

in_numbers : (base n i : ℕ) → i < n → Contains (range_with_len base n) (base + i)
in_numbers base zero i lt = absurd (omega (arith, lt))
in_numbers base (suc n) zero lt = (zero, omega arith, omega arith)
in_numbers base (suc n) (suc i) lt =
    let same : base + 1 + i ≡ base + suc i = omega arith in
    Contains-append_right (base ∷ []) (range_with_len (base + 1) n) (base + suc i)
    (subst (Contains (range_with_len (base + 1) n)) same (in_numbers (base + 1) n i (omega (arith, lt))))

numbers_below : (base n : ℕ) → All (λ (i : ℕ). (base ≤ i) × (i < base + n)) (range_with_len base n)
numbers_below base zero = record {}
numbers_below base (suc n) = (
  (omega arith, omega arith),
  all_on (λ (i : ℕ). (base + 1 ≤ i) × (i < base + 1 + n)) (λ (i : ℕ). (base ≤ i) × (i < base + suc n))
      (λ i within. (omega (arith, within.0), omega (arith, within.1))) (range_with_len (base + 1) n)
      (numbers_below (base + 1) n),
)

all_mapped : {X Y : Type 0} (P : Y → Type 0) (f : X → Y) (xs : List X) → All (λ x. P (f x)) xs → All P (map f xs)
all_mapped P f [] all = record {}
all_mapped P f (x ∷ xs) all = (all.0, all_mapped P f xs all.1)

pub fronts_begin : {X : Type 0} (now was : List X) (old new : ℕ) → BeginsWith now was → old ≤ length was → old ≤ new
    → BeginsWith (take new now) (take old was)
fronts_begin now was old new begins short less =
    begins_from (take new now) (take old was) (drop old (take new now))
    (sym (take-append-drop old (take new now))
    ∙ ap (λ front. front ++ drop old (take new now)) (take-take old new now less ∙ take_on now was old begins short))

none_is : (slots : List RangeSlot) → not (is_none slots) ≡ false → slots ≡ []
none_is [] e = refl
none_is (slot ∷ slots) e = absurd (cc)

-- ---- leaves that are avoided from now on

module _ (at_entry now : Histories) (avoided more : List Leaf) (low high : ℕ)
    (apart : All (λ (leaf : Leaf). (leaf.0 < low) ⊎ (high ≤ leaf.0)) more) where
  resolved_avoiding : (one : Resolved) → ResolvedSo at_entry now avoided low high one
      → ResolvedSo at_entry now (avoided ++ more) low high one
  resolved_avoiding one is =
      let history = take is.first.found (range_history now one.range) in
      record {
        first = record {
          found = is.first.found;
          between = is.first.between;
          first = ap (λ replicas. slice_get replicas 0) (more_avoided avoided more (serving history)
              (all_on (λ (replica : SlotLeaf). (low ≤ replica.leaf.0) × (replica.leaf.0 < high))
              (λ (replica : SlotLeaf). is_avoided more replica ≡ false)
              (λ replica near. outside low high more replica near apart) (serving history) is.near))
              ∙ is.first.first;
        };
        near = is.near;
        from = is.from;
        to = is.to;
      }

module _ (store : Setting) (setting : QuerySetting) (at_entry : Histories)
    (replicated : (r : ℕ) → r < length (ranges_in store.zones) → HasReplicas store.zones (range_numbered r))
    (listed : AreAmong (all_named (formulas (map formula_tree setting.plan.formulas))) setting.plan.buckets)
    (unmet : (history : List Entry) → All (λ row. fits store.held row ≡ true) (leaf_rows history)
    → claim.met store setting (history_buckets store.buckets_of history) ≡ false
    → All (λ row. claim.wanted store setting row ≡ false) (leaf_rows history)) where
  abbrev zs : List ZoneSpec
  zs = store.zones

  -- ---- a range resolves, or a leaf is found down

  module _ (before after : View) (grown : IsViewWithin before after) (since : AreWithin at_entry before.seen)
      (sound : IsSound store after) (avoided : List Leaf) where
    entry_within : AreWithin at_entry after.seen
    entry_within = seen_within_through at_entry before.seen after.seen since grown.seen

    pub slot_so : (course : Course) (round : Round) (range : Range) (slot : Slot) (leaf : Leaf)
        → claim.ResolvingSo store setting at_entry after avoided course round range
        → IsResolvedSo before after avoided range (Some (record { slot = slot; leaf = leaf }))
        → claim.StepSo store setting at_entry after avoided (resolving course (with_slot round range slot leaf))
    slot_so course round range slot leaf is found =
        let k = is.k in
        let zone = is.zone in
        let one = resolution range slot leaf in
        let number : range.0 ≡ first_range zs k + length round.resolved = ap (λ (r : Range). r.0) is.next in
        let first : IsFirstServing at_entry after.seen avoided one = record {
          found = found.found;
          between = record {
            from = omega (
              arith,
              found.between.from,
              begins_length (range_history before.seen range) (range_history at_entry range) (since.ranges range),
            );
            to = found.between.to;
          };
          first = found.first;
        } in
        let so = resolves_so store.held zs store.points replicated at_entry after.seen sound.held entry_within k
        zone.there avoided
        one (omega (arith, number), omega (arith, number, is.more)) first in
        let count : length round.resolved + 1 ≡ length (round.resolved ++ one ∷ []) =
        omega (arith, length-append round.resolved (one ∷ [])) in
        resolving_so store setting at_entry replicated unmet after avoided course (with_slot round range slot leaf) k
        (record { course_is = zone.course_is; begun = zone.begun; there = zone.there; area = zone.area })
        (record {
          few = omega (arith, is.more, length-append round.resolved (one ∷ []));
          ranges = map-append range_of round.resolved (one ∷ [])
              ∙ ap (λ front. front ++ range ∷ []) is.round_is.ranges
              ∙ ap (λ (r : Range). map range_numbered (range_with_len (first_range zs k) (length round.resolved))
              ++ r ∷ []) is.next
              ∙ sym (map-range_with_len_more range_numbered (first_range zs k) (length round.resolved)
              (first_range zs k + length round.resolved) refl)
              ∙ ap (λ n. map range_numbered (range_with_len (first_range zs k) n)) count;
          each = all_append (ResolvedSo at_entry after.seen avoided (first_leaf zs k) (first_leaf zs (k + 1)))
              round.resolved
              (one ∷ []) is.round_is.each (so.resolved, record {});
          opened = all_append (λ (one : Resolved). StandsIn at_entry after.seen (leaf_history after.seen one.leaf) one)
              round.resolved (one ∷ []) is.round_is.opened (so.stands, record {});
        })

    pub none_so : (course : Course) (round : Round) (range : Range)
        → claim.ResolvingSo store setting at_entry after avoided course round range
        → IsResolvedSo before after avoided range None
        → HasNoReplica zs at_entry after.seen range (founds_in course round.area)
    none_so course round range is found =
        let k = is.k in
        let zone = is.zone in
        let number : range.0 ≡ first_range zs k + length round.resolved = ap (λ (r : Range). r.0) is.next in
        let zoned = ap (slice_get (range_zones zs)) number ∙ zone_of_range_at zs k (length round.resolved) zone.there
        is.more in
        subst (λ (area : Area). HasNoReplica zs at_entry after.seen range (founds_in course area)) (sym zone.area)
        (no_replica at_entry before after since zs k avoided course.founds range zoned zone.course_is.founds found
        (all_on (λ (replica : SlotLeaf). (first_leaf zs k ≤ replica.leaf.0) × (replica.leaf.0 < first_leaf zs (k + 1)))
        (λ (replica : SlotLeaf). has_leaf (area_of zs k) replica.leaf ≡ true)
        (λ replica near. has_at (area_of zs k) replica.leaf (replica.leaf.0 - first_leaf zs k)
        (omega (arith, near.0, near.1, leaves_next zs k zone.there)) (omega (arith, near.0)))
        (serving (take found.found (range_history after.seen range)))
        (near_at store.held zs store.points replicated at_entry after.seen sound.held entry_within k zone.there range
        (omega (arith, number), omega (arith, number, is.more)) found.found)))

    pub down_so : (course : Course) (round : Round) (visits : Visits) (leaf : Leaf) (cut : ℕ)
        → claim.VisitingSo store setting at_entry after avoided course round visits (leaf ∷ visits.left)
        → IsFoundSo before after leaf cut true
        → claim.StepSo store setting at_entry after (avoided ++ leaf ∷ []) (resolving (with_found course leaf cut)
        (round_of round.area))
    down_so course round visits leaf cut is found =
        let k = is.k in
        let zone = is.zone in
        let was = zone.course_is in
        let ours = is.visits_are.ours.0 in
        let span = was.span in
        resolving_so store setting at_entry replicated unmet after (avoided ++ leaf ∷ []) (with_found course leaf cut)
        (round_of round.area) k
        (record {
          course_is = record {
            span = record {
              long = span.long;
              count = span.count;
              ranges = span.ranges;
              each = all_on (ResolvedSo at_entry after.seen avoided 0 (first_leaf zs k))
                  (ResolvedSo at_entry after.seen (avoided ++ leaf ∷ []) 0 (first_leaf zs k))
                  (λ one. resolved_avoiding at_entry after.seen avoided (leaf ∷ []) 0 (first_leaf zs k)
                  (inr ours.0, record {}) one)
                  course.resolved span.each;
              cuts = span.cuts;
              stand = span.stand;
              tells = span.tells;
            };
            founds = one_found at_entry before after since avoided course.founds leaf cut was.founds found;
            below_is = all_append (λ (one : Leaf). one.0 < first_leaf zs (k + 1)) avoided (leaf ∷ []) was.below_is
                (ours.1, record {});
            then = was.then;
            is = was.is;
            shut = was.shut;
          };
          begun = zone.begun;
          there = zone.there;
          area = zone.area;
        })
        (record { few = omega arith; ranges = refl; each = record {}; opened = record {} })

  -- ---- visits begin

  module _ (now : View) (avoided : List Leaf) (k : ℕ) (there : k < length zs) (resolved : List Resolved)
      (loading : Loading)
      (is : claim.RoundSo store setting at_entry now avoided k resolved) (whole : length resolved
      ≡ (area_of zs k).ranges)
      (loaded : claim.LoadedSo store setting at_entry now (claim.zone_known zs k) (area_of zs k).leaves
      (claim.Opened store setting at_entry resolved) loading.words loading.seen)
      (all_words : length setting.plan.buckets ≤ length loading.words) where
    abbrev area : Area
    area = area_of zs k

    abbrev own : Round
    own = record { area = area; resolved = resolved }

    abbrev flags : List Bool
    flags = let_in setting.plan loading.words area.leaves

    abbrev pending : List Leaf
    pending = leaves_to_visit own flags

    abbrev cuts : List ℕ
    cuts = cuts_seen loading.seen area

    base_span : claim.Span store setting at_entry now.seen [] Anybody (first_leaf zs k) (first_leaf zs (k + 1))
        (first_range zs k) (first_range zs (k + 1)) (firsts_seen loading.seen area) (map unread_look cuts)
    base_span = zone_seen store setting at_entry replicated unmet now [] Anybody loading.seen loaded.then loaded.is k
        there
        (record {}) (λ leaf from to. inl (record {}))

    cut_is : (leaf : Leaf) → first_leaf zs k ≤ leaf.0 → leaf.0 < first_leaf zs (k + 1)
        → look_at (first_leaf zs k) (map unread_look cuts) leaf
        ≡ unread_look (length (leaf_history loaded.then.seen leaf))
    cut_is leaf from to =
        seen_cut store.held zs store.points replicated (claim.wanted store setting) (claim.met store setting)
        store.buckets_of unmet
        at_entry loaded.then.seen now.seen loaded.is.sound.held loaded.is.since loaded.is.until [] k there (record {})
        loading.seen.cuts loading.seen.firsts loaded.is.so.cuts loaded.is.so.ranges loaded.is.so.firsts leaf from
        (omega (arith, to, leaves_next zs k there))

    stand_by : (some : List Resolved) → claim.Resolves store setting at_entry now avoided k some
        → claim.Opened store setting at_entry some loaded.then.seen
        → All (StandsAt at_entry now.seen (first_leaf zs k) (map unread_look cuts)) some
    stand_by [] each opened = record {}
    stand_by (one ∷ some) each opened =
        let then = loaded.then.seen in
        let stands = stands_later at_entry then now.seen loaded.is.until (leaf_history then one.leaf) one opened.0 in (
          subst (λ (look : Look). StandsIn at_entry now.seen (up_to now.seen one.leaf look) one)
              (sym (cut_is one.leaf each.0.from each.0.to))
              (subst (λ (history : List Entry). StandsIn at_entry now.seen history one)
              (sym (loaded.is.until.leaves one.leaf)) stands),
          stand_by some each.1 opened.1,
        )

    module _ (leaf : Leaf) (from : first_leaf zs k ≤ leaf.0) (to : leaf.0 < first_leaf zs (k + 1)) where
      abbrev j : ℕ
      j = leaf.0 - first_leaf zs k

      within : j < area.leaves
      within = omega (arith, from, to, leaves_next zs k there)

      leaf_is : leaf_at area j ≡ leaf
      leaf_is = leaf_same (leaf_at area j) leaf (let e : first_leaf zs k + j ≡ leaf.0 = omega (arith, from) in e)

      abbrev Told : List RangeSlot → Look → Type 0
      Told slots look = Tells (claim.wanted store setting) (claim.met store setting) store.buckets_of
          (up_to now.seen leaf look) slots look

      then_told : Told (slots_on leaf resolved) (unread_look (length (leaf_history loaded.then.seen leaf)))
          → Told (slots_on leaf resolved) (look_at (first_leaf zs k) (map unread_look cuts) leaf)
      then_told told = subst (Told (slots_on leaf resolved)) (sym (cut_is leaf from to)) told

      bare_told : slots_on leaf resolved ≡ [] → Told (slots_on leaf resolved)
          (unread_look (length (leaf_history loaded.then.seen leaf)))
      bare_told none = record {
        unread = λ e. subst (λ (slots : List RangeSlot). All (λ row. claim.wanted store setting row ≡ false)
            (slot_rows (up_to now.seen leaf (unread_look (length (leaf_history loaded.then.seen leaf)))) slots))
            (sym none)
            (record {});
        read = λ e. absurd (cc);
        up = λ e. absurd (cc);
      }

      shut_told : flag_at flags j ≡ false → Told (slots_on leaf resolved)
          (unread_look (length (leaf_history loaded.then.seen leaf)))
      shut_told out =
          subst (λ (history : List Entry). Tells (claim.wanted store setting) (claim.met store setting)
          store.buckets_of history
          (slots_on leaf resolved) (unread_look (length (leaf_history loaded.then.seen leaf))))
          (sym (loaded.is.until.leaves leaf))
          (tells_unmet store.held zs store.points replicated (claim.wanted store setting) (claim.met store setting)
          store.buckets_of unmet
          (leaf_history loaded.then.seen leaf) (slots_on leaf resolved)
          (unread_look (length (leaf_history loaded.then.seen leaf)))
          (λ e here. loaded.is.sound.held.at_home leaf e here) refl
          (zone_shut store setting listed loaded.then loaded.is.sound k there leaf from to loading.words loaded.known
          all_words out))

      slots_here : get_or (slots_by_leaf area resolved) j [] ≡ slots_on leaf resolved
      slots_here =
          get_or-map-range_with_len (λ place. slots_on (leaf_at area place) resolved) 0 area.leaves j j [] within
          (omega arith)
          ∙ ap (λ (one : Leaf). slots_on one resolved) leaf_is

      told_by : (b : Bool) → is_to_visit own flags j ≡ b
          → Contains pending leaf
          ⊎ Told (slots_on leaf resolved) (look_at (first_leaf zs k) (map unread_look cuts) leaf)
      told_by true e =
          let number : Contains (range_with_len 0 area.leaves) j =
          subst (Contains (range_with_len 0 area.leaves)) (let same : 0 + j ≡ j = omega arith in same)
          (in_numbers 0 area.leaves j within) in
          inl (subst (Contains pending) leaf_is
          (in_map (leaf_at area) (filter (is_to_visit own flags) (range_with_len 0 area.leaves)) j
          (contains_kept (is_to_visit own flags) (range_with_len 0 area.leaves) j number e)))
      told_by false e =
          elim (and_cases (not (is_none (get_or (slots_by_leaf area resolved) j []))) (flag_at flags j) e) [
            | inl none ↦ inr (then_told
                (bare_told (sym slots_here ∙ none_is (get_or (slots_by_leaf area resolved) j []) none)))
            | inr out ↦ inr (then_told (shut_told out))
          ]

    pub visits_begun : claim.VisitsSo store setting at_entry now avoided k own
        (visits_of pending area.first_leaf cuts) pending
    visits_begun = record {
      first = refl;
      span = record {
        long = base_span.long;
        count = omega (arith, whole, ranges_next zs k there);
        ranges = is.ranges;
        each = is.each;
        cuts = base_span.cuts;
        stand = stand_by resolved is.each loaded.also;
        tells = λ leaf from to. told_by leaf from to (is_to_visit own flags (leaf.0 - first_leaf zs k)) refl;
      };
      ours = all_mapped (λ (leaf : Leaf). (first_leaf zs k ≤ leaf.0) × (leaf.0 < first_leaf zs (k + 1))) (leaf_at area)
          (filter (is_to_visit own flags) (range_with_len 0 area.leaves))
          (all_filter (λ (i : ℕ). (first_leaf zs k ≤ first_leaf zs k + i)
          × (first_leaf zs k + i < first_leaf zs (k + 1)))
          (is_to_visit own flags) (range_with_len 0 area.leaves)
          (all_on (λ (i : ℕ). (0 ≤ i) × (i < 0 + area.leaves))
          (λ (i : ℕ). (first_leaf zs k ≤ first_leaf zs k + i) × (first_leaf zs k + i < first_leaf zs (k + 1)))
          (λ i bounds. (omega arith, omega (arith, bounds.1, leaves_next zs k there))) (range_with_len 0 area.leaves)
          (numbers_below 0 area.leaves)));
    }
