-- Leaves that a session found down, and ranges all of whose replicas are on such leaves.
use Rattle.std.proofs.Common.{◌≡◌, ◌∙◌, ◌||◌, ℕ, Bool, true, false, not, List, [], ◌∷◌, ◌++◌, cond, filter, length}
use Rattle.std.proofs.Common.{take, inl, inr, refl, sym, ap, subst, arith, Some, None, slice_get, true≢false}
use Rattle.std.specs.List.{AllByRecursion, list_any}
use Rattle.std.proofs.lemmas.Bool.{or_cases, or_left, or_right}
use Rattle.std.proofs.lemmas.List.{map-append}
use Rattle.mon_topo.proofs.FrontLemmas.{begins_length, take_on}
use Rattle.mon_topo.proofs.HeldLemmas.{down_on}
use Rattle.mon_topo.proofs.RangeHistoryLemmas.{all_append}
use Rattle.mon_value.specs.Histories.{leaf_history, range_history, same_leaf, zone_numbered}
use Rattle.mon_value.specs.declared.histories.Histories.{Histories}
use Rattle.mon_topo.specs.RangeHistories.{serving, is_avoided}
use Rattle.mon_topo.specs.HeldHistories.{AreWithin}
use Rattle.mon_topo.specs.Zones.{range_zones}
use Rattle.mon_topo.specs.declared.zones.ZoneSpec.{ZoneSpec}
use Rattle.mon_value.specs.declared.histories.RangeEntry.{RangeEntry}
use Rattle.mon_value.specs.declared.positions.FoundDown.{FoundDown}
use Rattle.mon_value.specs.declared.positions.Leaf.{Leaf}
use Rattle.mon_value.specs.declared.positions.Range.{Range}
use Rattle.mon_value.specs.declared.positions.SlotLeaf.{SlotLeaf}
use Rattle.query_traces.proofs.Spans.{between_on}
use Rattle.query_traces.specs.declared.areas.Area.{Area}
use Rattle.query_traces.specs.Rounds.{area_of, has_leaf}
use Rattle.query_traces.specs.Founds.{found_down, founds_of_zone, AreFoundThen, HasNoReplica, IsFoundThen}
use Rattle.query_traces.specs.TrueAnswers.{IsFoundSo, IsResolvedSo}
use Rattle.mon_topo.specs.Views.{View}
use Rattle.query_traces.specs.Traces.{found_leaves}
use Rattle.query_traces.proofs.LeafLemmas.{same_leaves}
use Rattle.mon_value.proofs.PlainLemmas.{some_not_none}

-- ---- what stays as histories grow

found_on : (at_entry before after : Histories) → AreWithin before after → (found : FoundDown)
    → IsFoundThen at_entry before found → IsFoundThen at_entry after found
found_on at_entry before after grown found is =
    let begins = grown.leaves found.leaf in
    record {
      between = between_on (length (leaf_history at_entry found.leaf)) (length (leaf_history before found.leaf))
          (length (leaf_history after found.leaf)) found.cut
          (begins_length (leaf_history after found.leaf) (leaf_history before found.leaf) begins) is.between;
      down = down_on (leaf_history after found.leaf) (leaf_history before found.leaf) found.cut begins is.down;
    }

pub founds_on : (at_entry before after : Histories) → AreWithin before after → (founds : List FoundDown)
    → AreFoundThen at_entry before founds → AreFoundThen at_entry after founds
founds_on at_entry before after grown [] all = record {}
founds_on at_entry before after grown (found ∷ founds) all =
    (found_on at_entry before after grown found all.0, founds_on at_entry before after grown founds all.1)

-- ---- replicas, none of which is on a leaf that was not found down

abbrev free : List Leaf → List SlotLeaf → List SlotLeaf
free avoided replicas = filter (λ replica. not (is_avoided avoided replica)) replicas

abbrev AllDown : List Leaf → List SlotLeaf → Type 0
AllDown avoided replicas = AllByRecursion (λ replica. is_avoided avoided replica ≡ true) replicas

free_at : (avoided : List Leaf) (replica : SlotLeaf) (replicas : List SlotLeaf) (b : Bool) → is_avoided avoided replica
    ≡ b
    → free avoided (replica ∷ replicas) ≡ cond (not b) (replica ∷ free avoided replicas) (free avoided replicas)
free_at avoided replica replicas b e =
    ap (λ b. cond (not b) (replica ∷ free avoided replicas) (free avoided replicas)) e

none_at : (avoided : List Leaf) (replica : SlotLeaf) (replicas : List SlotLeaf) (b : Bool) → is_avoided avoided replica
    ≡ b
    → (slice_get (free avoided replicas) 0 ≡ None → AllDown avoided replicas)
    → slice_get (free avoided (replica ∷ replicas)) 0 ≡ None → AllDown avoided (replica ∷ replicas)
none_at avoided replica replicas true e rest none =
    (e, rest (sym (ap (λ some. slice_get some 0) (free_at avoided replica replicas true e)) ∙ none))
none_at avoided replica replicas false e rest none =
    absurd (some_not_none replica (sym (ap (λ some. slice_get some 0) (free_at avoided replica replicas false e))
    ∙ none))

none_left : (avoided : List Leaf) (replicas : List SlotLeaf) → slice_get (free avoided replicas) 0 ≡ None
    → AllDown avoided replicas
none_left avoided [] none = record {}
none_left avoided (replica ∷ replicas) none =
    none_at avoided replica replicas (is_avoided avoided replica) refl (none_left avoided replicas) none

-- ---- those of one zone

module _ (area : Area) (leaf : Leaf) (here : has_leaf area leaf ≡ true) where
  abbrev among : List FoundDown → Bool
  among founds = list_any (same_leaf leaf) (found_leaves founds)

  other_zone : (found : FoundDown) → same_leaf leaf found.leaf ≡ true → has_leaf area found.leaf ≡ false → ⊥
  other_zone found same out = true≢false (sym here ∙ ap (has_leaf area) (same_leaves leaf found.leaf same) ∙ out)

  named_by : (found : FoundDown) (founds : List FoundDown) (b : Bool) → has_leaf area found.leaf ≡ b
      → (same_leaf leaf found.leaf || among founds) ≡ true
      → (among founds ≡ true → among (founds_of_zone founds area) ≡ true)
      → among (cond b (found ∷ founds_of_zone founds area) (founds_of_zone founds area)) ≡ true
  named_by found founds true e any later = elim (or_cases (same_leaf leaf found.leaf) (among founds) any) [
    | inl first ↦ or_left (same_leaf leaf found.leaf) (among (founds_of_zone founds area)) first
    | inr more ↦ or_right (same_leaf leaf found.leaf) (among (founds_of_zone founds area)) (later more)
  ]
  named_by found founds false e any later = elim (or_cases (same_leaf leaf found.leaf) (among founds) any) [
    | inl first ↦ absurd (other_zone found first e)
    | inr more ↦ later more
  ]

  -- a zone's leaf that was found down is among those of the zone
  is_named : (founds : List FoundDown) → among founds ≡ true → among (founds_of_zone founds area) ≡ true
  is_named [] any = any
  is_named (found ∷ founds) any = named_by found founds (has_leaf area found.leaf) refl any (is_named founds)

pub all_named : (area : Area) (founds : List FoundDown) (replicas : List SlotLeaf)
    → AllByRecursion (λ (replica : SlotLeaf). has_leaf area replica.leaf ≡ true) replicas
    → AllDown (found_leaves founds) replicas → AllDown (found_leaves (founds_of_zone founds area)) replicas
all_named area founds [] here down = record {}
all_named area founds (replica ∷ replicas) here down =
    (is_named area replica.leaf here.0 founds down.0, all_named area founds replicas here.1 down.1)

-- ---- what a session keeps

-- the leaves that were found down are avoided
pub record KeepsFounds (at_entry now : Histories) (avoided : List Leaf) (founds : List FoundDown) : Type 0 where
  pub were_found : AreFoundThen at_entry now founds
  pub avoids : avoided ≡ found_leaves founds

pub no_replica_on : (zones : List ZoneSpec) (at_entry before after : Histories) → AreWithin before after
    → (range : Range)
    (named : List FoundDown) → HasNoReplica zones at_entry before range named → HasNoReplica zones at_entry after range
    named
no_replica_on zones at_entry before after grown range named none =
    let begins = grown.ranges range in
    let was = range_history before range in
    let is = range_history after range in
    let same : take none.found is ≡ take none.found was = take_on is was none.found begins none.between.to in
    record {
      zone = none.zone;
      zoned = none.zoned;
      founds = none.founds;
      were_found = founds_on at_entry before after grown none.founds none.were_found;
      named_are = none.named_are;
      found = none.found;
      between = between_on (length (range_history at_entry range)) (length was) (length is) none.found
          (begins_length is was begins) none.between;
      all_down = subst (λ (history : List RangeEntry). AllDown (found_leaves named) (serving history)) (sym same)
          none.all_down;
    }

module _ (at_entry : Histories) (before after : View) (since : AreWithin at_entry before.seen) where
  -- a range that resolves to no replica, all of which are on leaves of one zone
  pub no_replica : (zones : List ZoneSpec) (zone : ℕ) (avoided : List Leaf) (founds : List FoundDown) (range : Range)
      → slice_get (range_zones zones) range.0 ≡ Some (zone_numbered zone)
      → KeepsFounds at_entry after.seen avoided founds → (is : IsResolvedSo before after avoided range None)
      → AllByRecursion (λ (replica : SlotLeaf). has_leaf (area_of zones zone) replica.leaf ≡ true)
      (serving (take is.found (range_history after.seen range)))
      → HasNoReplica zones at_entry after.seen range (founds_of_zone founds (area_of zones zone))
  no_replica zones zone avoided founds range zoned keeps is here =
      let replicas = serving (take is.found (range_history after.seen range)) in
      record {
        zone = zone;
        zoned = zoned;
        founds = founds;
        were_found = keeps.were_found;
        named_are = refl;
        found = is.found;
        between = record {
          from = omega (
            arith,
            is.between.from,
            begins_length (range_history before.seen range) (range_history at_entry range) (since.ranges range),
          );
          to = is.between.to;
        };
        all_down = all_named (area_of zones zone) founds replicas here
            (subst (λ (leaves : List Leaf). AllDown leaves replicas) keeps.avoids
            (none_left avoided replicas is.first));
      }

  pub one_found : (avoided : List Leaf) (founds : List FoundDown) (leaf : Leaf) (cut : ℕ)
      → KeepsFounds at_entry after.seen avoided founds → IsFoundSo before after leaf cut true
      → KeepsFounds at_entry after.seen (avoided ++ leaf ∷ []) (founds ++ found_down leaf cut ∷ [])
  one_found avoided founds leaf cut keeps is =
      let found : IsFoundThen at_entry after.seen (found_down leaf cut) = record {
        between = record {
          from = omega (
            arith,
            is.between.from,
            begins_length (leaf_history before.seen leaf) (leaf_history at_entry leaf) (since.leaves leaf),
          );
          to = is.between.to;
        };
        down = record { seen_by_then = is.between.to; down = is.is };
      } in
      record {
        were_found = all_append (IsFoundThen at_entry after.seen) founds (found_down leaf cut ∷ [])
            keeps.were_found
            (found, record {});
        avoids = ap (λ leaves. leaves ++ leaf ∷ []) keeps.avoids
            ∙ sym (map-append (λ (one : FoundDown). one.leaf) founds (found_down leaf cut ∷ []));
      }
