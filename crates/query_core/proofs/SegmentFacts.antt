-- What a query keeps of the zones that it is through with: what their ranges resolved to, and the answers of the leaves
-- that it read there, each over the rows of its slots.
use Rattle.std.proofs.Common.{◌≡◌, ◌∙◌, ◌<◌, ◌≤◌, ◌+◌, ℕ, ℤ, zero, suc, List, [], ◌∷◌, ◌++◌, length, map, take, drop}
use Rattle.std.proofs.Common.{refl, sym, ap, subst, append-nil, arith}
use Rattle.std.specs.List.{AllByRecursion, flat_map, range_with_len}
use Rattle.std.proofs.lemmas.List.{length-map, length-take-le, length-drop}
use Rattle.std.proofs.lemmas.List.Concat.{flat_map-append}
use Rattle.mixer.specs.ZoneAnswers.{AllLeafParts, AreLeafParts, IsZonePart}
use Rattle.mixer.specs.declared.zone_answers.ZoneAnswer.{ZoneAnswer}
use Rattle.mon_fold.specs.declared.answers.LeafAnswer.{LeafAnswer}
use Rattle.mon_topo.proofs.FrontLemmas.{begins_length, take_on}
use Rattle.mon_value.specs.Histories.{leaf_history, range_numbered}
use Rattle.mon_value.specs.declared.histories.Histories.{Histories}
use Rattle.mon_topo.specs.HeldHistories.{AreHeld, AreWithin}
use Rattle.mon_topo.specs.Settings.{Setting}
use Rattle.mon_topo.specs.Zones.{leaves_in, no_zone, ranges_in}
use Rattle.mon_topo.specs.declared.zones.ZoneSpec.{ZoneSpec}
use Rattle.mon_value.specs.declared.histories.Entry.{Entry}
use Rattle.mon_value.specs.declared.positions.Range.{Range}
use Rattle.mon_value.specs.declared.rows.Row.{Row}
use Rattle.typed_rows.proofs.JoinedRows.{all-map}
use Rattle.typed_trees.specs.Levels.{sent_amount}
use Rattle.query_traces.specs.declared.answers.Resolved.{Resolved}
use Rattle.query_traces.specs.declared.areas.Area.{Area}
use Rattle.query_traces.specs.declared.asks.Seen.{Seen}
use Rattle.query_core.specs.declared.courses.Course.{Course}
use Rattle.query_traces.specs.declared.looks.Look.{Look}
use Rattle.query_traces.specs.Rounds.{area_of, unread_look, slots_on, QuerySetting, typed_of}
use Rattle.query_core.specs.Courses.{cuts_seen, firsts_seen}
use Rattle.query_traces.specs.TrueAnswers.{IsSeenSo}
use Rattle.mon_meaning.specs.ReadableSlots.{slot_rows}
use Rattle.mon_topo.proofs.SizeLemmas.{parts_so_far}
use Rattle.query_core.proofs.DividedRows.{all_both}
use Rattle.query_core.proofs.ReadLeaves.{IsUnread, LeafRead, SendsNothing, reads_from}
use Rattle.mon_value.proofs.PlainLemmas.{all_append}

-- ---- ranges in their order

abbrev pub RangesFrom : ℕ → List Resolved → Type 0
RangesFrom n [] = Unit {0}
RangesFrom n (one ∷ resolved) = (one.range.0 ≡ n) × RangesFrom (n + 1) resolved

pub ranges_append : (n : ℕ) (some more : List Resolved) → RangesFrom n some → RangesFrom (n + length some) more
    → RangesFrom n (some ++ more)
ranges_append n [] more all rest =
    let same : n + 0 ≡ n = omega arith in subst (λ (k : ℕ). RangesFrom k more) same rest
ranges_append n (one ∷ some) more all rest =
    let same : n + suc (length some) ≡ n + 1 + length some = omega arith in
    (all.0, ranges_append (n + 1) some more all.1 (subst (λ (k : ℕ). RangesFrom k more) same rest))

pub ranges_behind : (n count : ℕ) (resolved : List Resolved) → RangesFrom n resolved → RangesFrom (n + count)
    (drop count resolved)
ranges_behind n zero resolved all =
    let same : n ≡ n + 0 = omega arith in subst (λ (k : ℕ). RangesFrom k resolved) same all
ranges_behind n (suc count) [] all = tt
ranges_behind n (suc count) (one ∷ resolved) all =
    let same : n + 1 + count ≡ n + suc count = omega arith in
    subst (λ (k : ℕ). RangesFrom k (drop count resolved)) same (ranges_behind (n + 1) count resolved all.1)

ranges_front : (n count : ℕ) (resolved : List Resolved) → RangesFrom n resolved → RangesFrom n (take count resolved)
ranges_front n zero resolved all = tt
ranges_front n (suc count) [] all = tt
ranges_front n (suc count) (one ∷ resolved) all = (all.0, ranges_front (n + 1) count resolved all.1)

-- ranges that are told in their order
record AreListed (n count : ℕ) (resolved : List Resolved) : Type 0 where
  from : RangesFrom n resolved
  many : length resolved ≡ count

listed : (n count : ℕ) (resolved : List Resolved)
    → map (λ (one : Resolved). one.range) resolved ≡ map range_numbered (range_with_len n count) → AreListed n count
    resolved
listed n zero [] e = record { from = tt; many = refl }
listed n zero (one ∷ resolved) e = absurd cc
listed n (suc count) [] e = absurd cc
listed n (suc count) (one ∷ resolved) e =
    let first : one.range ≡ range_numbered n = cc in
    let later : map (λ (one : Resolved). one.range) resolved ≡ map range_numbered (range_with_len (n + 1) count) = cc in
    let rest = listed (n + 1) count resolved later in
    record { from = (ap (λ (range : Range). range.0) first, rest.from); many = ap suc rest.many }

-- ---- what a zone's ranges resolved to, and what is known of its leaves

pub record IsWhole (area : Area) (resolved : List Resolved) (looks : List Look) : Type 0 where
  pub ranges : RangesFrom area.first_range.0 resolved
  pub all_ranges : length resolved ≡ area.ranges
  pub all_leaves : length looks ≡ area.leaves

-- a zone that was not looked at, or whose leaves were, and their answers mixed
pub data Segment : Type 0 where
  Passed : Area → List Resolved → List Look → Segment
  Mixed : Area → List Resolved → List Look → List LeafAnswer → ZoneAnswer → Segment

abbrev pub area_in : Segment → Area
area_in (Passed area resolved looks) = area
area_in (Mixed area resolved looks parts answer) = area

abbrev pub resolved_in : Segment → List Resolved
resolved_in (Passed area resolved looks) = resolved
resolved_in (Mixed area resolved looks parts answer) = resolved

abbrev pub looks_in : Segment → List Look
looks_in (Passed area resolved looks) = looks
looks_in (Mixed area resolved looks parts answer) = looks

abbrev pub answers_in : Segment → List ZoneAnswer
answers_in (Passed area resolved looks) = []
answers_in (Mixed area resolved looks parts answer) = answer ∷ []

-- they are the zones in order
abbrev pub AreFrom : List ZoneSpec → ℕ → List Segment → Type 0
AreFrom zones k [] = Unit {0}
AreFrom zones k (one ∷ segments) = (area_in one ≡ area_of zones k) × AreFrom zones (suc k) segments

areas_push : (zones : List ZoneSpec) (k : ℕ) (segments : List Segment) (one : Segment) → AreFrom zones k segments
    → area_in one ≡ area_of zones (k + length segments) → AreFrom zones k (segments ++ one ∷ [])
areas_push zones k [] one all is = (is ∙ ap (area_of zones) (omega arith), tt)
areas_push zones k (first ∷ segments) one all is =
    let same : k + suc (length segments) ≡ suc k + length segments = omega arith in
    (all.0, areas_push zones (suc k) segments one all.1 (is ∙ ap (area_of zones) same))

-- ---- what had been seen

-- a length for each leaf, and a slot for each range
pub record SeenSo (zones : List ZoneSpec) (seen : Seen) : Type 0 where
  pub leaves : length seen.cuts ≡ length (leaves_in zones)
  pub from : RangesFrom 0 seen.firsts
  pub ranges : length seen.firsts ≡ length (ranges_in zones)

pub seen_so : (store : Setting) (seen : Histories) (told : Seen) → AreHeld store.held store.zones store.points seen
    → IsSeenSo seen told → SeenSo store.zones told
seen_so store seen told held is =
    let ranges = listed 0 (length seen.ranges) told.firsts is.ranges in
    record {
      leaves = ap length is.cuts ∙ length-map seen.leaves length ∙ held.all_leaves;
      from = ranges.from;
      ranges = ranges.many ∙ held.all_ranges;
    }

part_long : {X : Type 0} (xs : List X) (first count : ℕ) → first + count ≤ length xs
    → length (take count (drop first xs)) ≡ count
part_long xs first count within =
    length-take-le count (drop first xs) (omega (arith, within, length-drop first xs))

all_unread : (cuts : List ℕ) → AllByRecursion IsUnread (map unread_look cuts)
all_unread [] = tt
all_unread (cut ∷ cuts) = (refl, all_unread cuts)

all_silent : (cuts : List ℕ) → AllByRecursion SendsNothing (map unread_look cuts)
all_silent [] = tt
all_silent (cut ∷ cuts) = ((λ e. refl), all_silent cuts)

-- a zone that stands as it had been seen
pub seen_whole : (zones : List ZoneSpec) (k : ℕ) (area : Area) (seen : Seen) → k < length zones → area ≡ area_of zones k
    → SeenSo zones seen → IsWhole area (firsts_seen seen area) (map unread_look (cuts_seen seen area))
seen_whole zones k area seen there is so =
    subst (λ (one : Area). IsWhole one (firsts_seen seen one) (map unread_look (cuts_seen seen one))) (sym is)
    (let here = area_of zones k in
    let leaves = parts_so_far (λ (zone : ZoneSpec). zone.leaves) zones k no_zone there in
    let ranges = parts_so_far (λ (zone : ZoneSpec). zone.ranges) zones k no_zone there in
    let number : 0 + here.first_range.0 ≡ here.first_range.0 = omega arith in
    record {
      ranges = ranges_front here.first_range.0 here.ranges (drop here.first_range.0 seen.firsts)
          (subst (λ (n : ℕ). RangesFrom n (drop here.first_range.0 seen.firsts)) number
          (ranges_behind 0 here.first_range.0 seen.firsts so.from));
      all_ranges = part_long seen.firsts here.first_range.0 here.ranges (omega (arith, ranges, so.ranges));
      all_leaves = length-map (cuts_seen seen here) unread_look
          ∙ part_long seen.cuts here.first_leaf.0 here.leaves (omega (arith, leaves, so.leaves));
    })

-- ---- the answers of leaves

module _ (setting : QuerySetting) (moment : ℤ) where
  -- the rows of the slots on a leaf that was read
  abbrev pub read_rows : Histories → List Resolved → LeafRead → List Row
  read_rows now resolved one = slot_rows (take one.cut (leaf_history now one.leaf)) (slots_on one.leaf resolved)

  abbrev pub IsWithin : Histories → LeafRead → Type 0
  IsWithin now one = one.cut ≤ length (leaf_history now one.leaf)

  abbrev pub IsSent : Histories → List Resolved → LeafRead → Type 0
  IsSent now resolved one = one.sent ≡ sent_amount (typed_of setting) (read_rows now resolved one) moment

  -- each leaf that was read has its answer
  pub record PartsSo (now : Histories) (resolved : List Resolved) (first : ℕ) (looks : List Look)
      (parts : List LeafAnswer)
      : Type 0 where
    pub within : AllByRecursion (IsWithin now) (reads_from first looks)
    pub each : AllLeafParts (typed_of setting) (map (read_rows now resolved) (reads_from first looks)) moment
        setting.limit parts
    pub sends : AllByRecursion (IsSent now resolved) (reads_from first looks)
    pub silent : AllByRecursion SendsNothing looks

  abbrev pub MixesSo : List LeafAnswer → ZoneAnswer → Type 0
  MixesSo parts answer = (leaves : List (List Row)) → AreLeafParts (typed_of setting) leaves moment setting.limit parts
      → IsZonePart (typed_of setting) leaves moment setting.limit answer

  abbrev pub SegmentSo : Histories → Segment → Type 0
  SegmentSo now (Passed area resolved looks) =
      IsWhole area resolved looks × AllByRecursion IsUnread looks × AllByRecursion SendsNothing looks
  SegmentSo now (Mixed area resolved looks parts answer) =
      IsWhole area resolved looks × PartsSo now resolved area.first_leaf.0 looks parts × MixesSo parts answer

  -- ---- histories that grow

  module _ (before after : Histories) (grown : AreWithin before after) (resolved : List Resolved) where
    rows_same : (one : LeafRead) → IsWithin before one → read_rows before resolved one ≡ read_rows after resolved one
    rows_same one within =
        ap (λ (history : List Entry). slot_rows history (slots_on one.leaf resolved))
        (sym (take_on (leaf_history after one.leaf) (leaf_history before one.leaf) one.cut (grown.leaves one.leaf)
        within))

    all_rows_same : (reads : List LeafRead) → AllByRecursion (IsWithin before) reads
        → map (read_rows before resolved) reads ≡ map (read_rows after resolved) reads
    all_rows_same [] within = refl
    all_rows_same (one ∷ reads) within = λ i. rows_same one within.0 i ∷ all_rows_same reads within.1 i

    pub parts_on : (first : ℕ) (looks : List Look) (parts : List LeafAnswer) → PartsSo before resolved first looks parts
        → PartsSo after resolved first looks parts
    parts_on first looks parts so =
        let reads = reads_from first looks in
        record {
          within = all-map (IsWithin before) (IsWithin after) reads
              (λ one within. omega (
                arith,
                within,
                begins_length (leaf_history after one.leaf) (leaf_history before one.leaf) (grown.leaves one.leaf),
              )) so.within;
          each = subst (λ (rows : List (List Row)). AllLeafParts (typed_of setting) rows moment setting.limit parts)
              (all_rows_same reads so.within) so.each;
          sends = all_both (IsWithin before) (IsSent before resolved) (IsSent after resolved) reads
              (λ one within told. told ∙ ap (λ (rows : List Row). sent_amount (typed_of setting) rows moment)
              (rows_same one within))
              so.within so.sends;
          silent = so.silent;
        }

  segment_on : (before after : Histories) → AreWithin before after → (one : Segment) → SegmentSo before one
      → SegmentSo after one
  segment_on before after grown (Passed area resolved looks) so = so
  segment_on before after grown (Mixed area resolved looks parts answer) so =
      (so.0, parts_on before after grown resolved area.first_leaf.0 looks parts so.1, so.2)

  pub segments_on : (before after : Histories) → AreWithin before after → (segments : List Segment)
      → AllByRecursion (SegmentSo before) segments → AllByRecursion (SegmentSo after) segments
  segments_on before after grown segments all =
      all-map (SegmentSo before) (SegmentSo after) segments (segment_on before after grown) all

  -- ---- the zones that are behind

  pub record Behind (zones : List ZoneSpec) (now : Histories) (segments : List Segment) (course : Course) : Type 0 where
    pub resolved : course.resolved ≡ flat_map resolved_in segments
    pub looks : course.looks ≡ flat_map looks_in segments
    pub answers : course.answers ≡ flat_map answers_in segments
    pub areas : AreFrom zones 0 segments
    pub each : AllByRecursion (SegmentSo now) segments
    pub seen : SeenSo zones course.seen

  flat_push : {B : Type 0} (f : Segment → List B) (segments : List Segment) (one : Segment)
      → flat_map f segments ++ f one ≡ flat_map f (segments ++ one ∷ [])
  flat_push f segments one =
      sym (flat_map-append f segments (one ∷ []) ∙ ap (λ last. flat_map f segments ++ last) (append-nil (f one)))

  -- one more
  pub record IsNext (course next : Course) (one : Segment) : Type 0 where
    pub more_resolved : next.resolved ≡ course.resolved ++ resolved_in one
    pub more_looks : next.looks ≡ course.looks ++ looks_in one
    pub more_answers : next.answers ≡ course.answers ++ answers_in one
    pub same_seen : next.seen ≡ course.seen

  pub behind_push : (zones : List ZoneSpec) (now : Histories) (segments : List Segment) (course next : Course)
      (one : Segment)
      → Behind zones now segments course → IsNext course next one → area_in one ≡ area_of zones (length segments)
      → SegmentSo now one → Behind zones now (segments ++ one ∷ []) next
  behind_push zones now segments course next one behind is area so =
      let number : 0 + length segments ≡ length segments = omega arith in
      record {
        resolved = is.more_resolved ∙ ap (λ front. front ++ resolved_in one) behind.resolved ∙ flat_push resolved_in
            segments one;
        looks = is.more_looks ∙ ap (λ front. front ++ looks_in one) behind.looks ∙ flat_push looks_in segments one;
        answers = is.more_answers ∙ ap (λ front. front ++ answers_in one) behind.answers ∙ flat_push answers_in
            segments one;
        areas = areas_push zones 0 segments one behind.areas (area ∙ ap (area_of zones) (sym number));
        each = all_append (SegmentSo now) segments (one ∷ []) behind.each (so, tt);
        seen = subst (SeenSo zones) (sym is.same_seen) behind.seen;
      }

  pub behind_on : (zones : List ZoneSpec) (before after : Histories) → AreWithin before after
      → (segments : List Segment)
      (course : Course) → Behind zones before segments course → Behind zones after segments course
  behind_on zones before after grown segments course behind = record {
    resolved = behind.resolved;
    looks = behind.looks;
    answers = behind.answers;
    areas = behind.areas;
    each = segments_on before after grown segments behind.each;
    seen = behind.seen;
  }

  -- a zone that stands as it had been seen
  pub passed_so : (zones : List ZoneSpec) (now : Histories) (k : ℕ) (area : Area) (seen : Seen) → k < length zones
      → area ≡ area_of zones k → SeenSo zones seen
      → SegmentSo now (Passed area (firsts_seen seen area) (map unread_look (cuts_seen seen area)))
  passed_so zones now k area seen there is so =
      (seen_whole zones k area seen there is so, all_unread (cuts_seen seen area), all_silent (cuts_seen seen area))
