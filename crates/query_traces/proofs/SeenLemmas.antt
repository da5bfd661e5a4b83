-- What a query is told of how far its caller has seen: of each history its length, and of each range its first replica.
use Rattle.std.proofs.Common.{◌≡◌, ◌∙◌, ℕ, suc, ◌+◌, ◌<◌, not, List, [], ◌∷◌, ◌++◌, length, map, get_or, refl, sym, ap}
use Rattle.std.proofs.Common.{subst, arith}
use Rattle.std.specs.Prelude.{Option, Some, None, filter, slice_get}
use Rattle.std.specs.List.{AllByRecursion as All, range_with_len}
use Rattle.std.proofs.lemmas.List.FromFn.{get_or-map-range_with_len}
use Rattle.mon_schema.specs.Names.{SchemaLists}
use Rattle.mon_value.specs.Histories.{range_history, range_numbered}
use Rattle.mon_value.specs.declared.histories.Histories.{Histories}
use Rattle.mon_topo.specs.HeldHistories.{AreHeld, BeginsWith, AreWithin, first_histories, first_range_history}
use Rattle.mon_topo.specs.HeldHistories.{openings_from, slot_numbered}
use Rattle.mon_topo.specs.RangeHistories.{serving, first_serving, is_avoided}
use Rattle.mon_topo.specs.Replicas.{HasReplicas}
use Rattle.mon_topo.specs.Zones.{first_replicas, ranges_in}
use Rattle.mon_topo.specs.declared.zones.ZoneSpec.{ZoneSpec}
use Rattle.mon_value.specs.declared.histories.RangeEntry.{RangeEntry}
use Rattle.mon_value.specs.declared.positions.Leaf.{Leaf}
use Rattle.mon_value.specs.declared.positions.Range.{Range}
use Rattle.mon_value.specs.declared.positions.SlotLeaf.{SlotLeaf}
use Rattle.query_traces.specs.TrueAnswers.{IsSeenSo}
use Rattle.query_traces.specs.Traces.{replica_of}
use Rattle.query_traces.specs.declared.answers.Resolved.{Resolved}
use Rattle.mon_topo.proofs.ServingLemmas.{HasFirst, first_serves}
use Rattle.query_traces.specs.SeenSights.{firsts_from, seen_of, with_first_replica}
use Rattle.mon_topo.specs.Sights.{range_sight, sight_of}

none_avoided : (replicas : List SlotLeaf) → filter (λ replica. not (is_avoided [] replica)) replicas ≡ replicas
none_avoided [] = refl
none_avoided (replica ∷ replicas) = ap (λ rest. replica ∷ rest) (none_avoided replicas)

-- ---- one range more

first_or : (n : ℕ) (found : Option SlotLeaf) (rest : List Resolved) → with_first_replica n found [] ++ rest
    ≡ with_first_replica n found
    rest
first_or n None rest = refl
first_or n (Some replica) rest = refl

-- ---- what is told

abbrev range_of : Resolved → Range
range_of one = one.range

ranges_told : (n : ℕ) (some : List (List RangeEntry)) → All HasFirst some
    → map range_of (firsts_from n (map range_sight some)) ≡ map range_numbered (range_with_len n (length some))
ranges_told n [] all = refl
ranges_told n (history ∷ some) all =
    ap (λ o. map range_of (with_first_replica n o (firsts_from (n + 1) (map range_sight some)))) all.0.is
    ∙ ap (λ rest. range_numbered n ∷ rest) (ranges_told (n + 1) some all.1)

abbrev IsTold : Histories → Resolved → Type 0
IsTold seen one = first_serving [] (range_history seen one.range) ≡ Some (replica_of one)

firsts_told : (seen : Histories) (n : ℕ) (some : List (List RangeEntry)) → All HasFirst some
    → ((m : ℕ) → m < length some → range_history seen (range_numbered (n + m)) ≡ get_or some m [])
    → All (IsTold seen) (firsts_from n (map range_sight some))
firsts_told seen n [] all same = tt
firsts_told seen n (history ∷ some) all same =
    let first : SlotLeaf = all.0.first in
    let number : n + 0 ≡ n = omega arith in
    let here : range_history seen (range_numbered n) ≡ history =
    ap (λ k. range_history seen (range_numbered k)) (sym number) ∙ same 0 (omega arith) in
    let told : first_serving [] (range_history seen (range_numbered n)) ≡ Some first =
    ap (first_serving []) here
    ∙ ap (λ (replicas : List SlotLeaf). slice_get replicas 0) (none_avoided (serving history)) ∙ all.0.is in
    let rest = firsts_told seen (n + 1) some all.1
    (λ m within. (let next : n + 1 + m ≡ n + suc m = omega arith in
    ap (λ k. range_history seen (range_numbered k)) next ∙ same (suc m) (omega (arith, within)))) in
    subst (λ o. All (IsTold seen) (with_first_replica n o (firsts_from (n + 1) (map range_sight some)))) (sym all.0.is)
    (told, rest)

all_by_place : (P : List RangeEntry → Type 0) (some : List (List RangeEntry))
    → ((m : ℕ) → m < length some → P (get_or some m [])) → All P some
all_by_place P [] each = tt
all_by_place P (history ∷ some) each =
    (each 0 (omega arith), all_by_place P some (λ m within. each (suc m) (omega (arith, within))))

-- ---- held histories that begin with those that a store begins with

module _ (held : SchemaLists) (zones : List ZoneSpec) (points : ℕ) (seen : Histories)
    (holds : AreHeld held zones points seen) (since : AreWithin (first_histories zones) seen)
    (replicas : (range : ℕ) → range < length (ranges_in zones) → HasReplicas zones (range_numbered range)) where
  module _ (n : ℕ) (there : n < length seen.ranges) where
    own_first : range_history (first_histories zones) (range_numbered n) ≡ first_range_history zones n
    own_first =
        get_or-map-range_with_len (first_range_history zones) 0 (length (ranges_in zones)) n n []
        (omega (arith, there, holds.all_ranges)) (omega arith)

    first_by : (leaves : List Leaf) → first_replicas zones n ≡ leaves → 0 < length leaves
        → HasFirst (range_history seen (range_numbered n))
    first_by [] e some = absurd (omega (arith, some))
    first_by (leaf ∷ leaves) e some =
        first_serves held zones points (range_numbered n) (range_history seen (range_numbered n)) 0 (slot_numbered 0)
        leaf
        (openings_from 1 leaves) (holds.legal (range_numbered n) there)
        (subst (BeginsWith (range_history seen (range_numbered n))) (own_first ∙ ap (openings_from 0) e)
        (since.ranges (range_numbered n)))

    has_first : HasFirst (range_history seen (range_numbered n))
    has_first =
        first_by (first_replicas zones n) refl (replicas n (omega (arith, there, holds.all_ranges))).some

  pub seen_told : IsSeenSo seen (seen_of (sight_of seen))
  seen_told =
      let all : All HasFirst seen.ranges = all_by_place HasFirst seen.ranges has_first in
      record {
        cuts = refl;
        ranges = ranges_told 0 seen.ranges all;
        firsts = firsts_told seen 0 seen.ranges all
            (λ m within. (let number : 0 + m ≡ m = omega arith in
            ap (λ k. range_history seen (range_numbered k)) number));
      }
