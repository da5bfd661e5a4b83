-- A range that resolves does so to a leaf of its zone.
use Rattle.std.proofs.Common.{◌≡◌, ◌∙◌, ◌<◌, ◌≤◌, ◌⊎◌, inl, inr, ℕ, zero, suc, Bool, not, Some, List, [], ◌∷◌, length}
use Rattle.std.proofs.Common.{get_or, take, refl, sym, ap, arith}
use Rattle.std.specs.List.{AllByRecursion, filter}
use Rattle.std.proofs.lemmas.Bool.{cases_lt}
use Rattle.mon_value.specs.Histories.{range_history, range_numbered}
use Rattle.mon_value.specs.declared.histories.Histories.{Histories}
use Rattle.mon_topo.specs.HeldHistories.{AreHeld}
use Rattle.mon_topo.specs.RangeHistories.{IsInZoneOf, serving, first_serving, is_avoided}
use Rattle.mon_topo.specs.Replicas.{HasReplicas}
use Rattle.mon_topo.specs.Zones.{ranges_in}
use Rattle.mon_topo.specs.declared.zones.ZoneSpec.{ZoneSpec}
use Rattle.mon_schema.specs.Names.{SchemaLists}
use Rattle.mon_value.specs.declared.positions.Leaf.{Leaf}
use Rattle.mon_value.specs.declared.positions.SlotLeaf.{SlotLeaf}
use Rattle.typed_rows.proofs.JoinedRows.{all-map, column_of_all}
use Rattle.typed_rows.proofs.KeptRows.{all-filter}
use Rattle.query_traces.specs.declared.answers.Resolved.{Resolved}
use Rattle.query_traces.specs.Traces.{IsFirstServing, replica_of}
use Rattle.query_traces.proofs.AckedRows.{HasRows, serve_at}
use Rattle.mon_value.proofs.PlainLemmas.{take_nothing}

nothing_past : {X : Type 0} (lists : List (List X)) (n : ℕ) → length lists ≤ n → get_or lists n [] ≡ []
nothing_past [] n past = refl
nothing_past (xs ∷ lists) zero past = absurd (omega (arith, past))
nothing_past (xs ∷ lists) (suc n) past = nothing_past lists n (omega (arith, past))

module _ (held : SchemaLists) (zones : List ZoneSpec) (points : ℕ)
    (replicas : (range : ℕ) → range < length (ranges_in zones) → HasReplicas zones (range_numbered range))
    (at_entry exit : Histories) (holds : AreHeld held zones points exit) (avoided : List Leaf) where
  zoned_by : (one : Resolved) → IsFirstServing at_entry exit avoided one
      → (one.range.0 < length exit.ranges) ⊎ (length exit.ranges ≤ one.range.0) → IsInZoneOf zones one.range one.leaf
  zoned_by one is (inl within) =
      let history = range_history exit one.range in
      let front = take is.found history in
      let serve = serve_at zones exit one.range held points
      (replicas one.range.0 (omega (arith, within, holds.all_ranges))) history is.found
      (holds.legal one.range within) (holds.borne_out one.range within).borne_out in
      let is_free : SlotLeaf → Bool = λ replica. not (is_avoided avoided replica) in
      (column_of_all (HasRows zones exit one.range front) (filter is_free (serving front)) 0 (replica_of one)
      (all-filter (HasRows zones exit one.range front) is_free (serving front) serve) is.first).zoned
  zoned_by one is (inr past) =
      let none : take is.found (range_history exit one.range) ≡ [] =
      take_nothing is.found (range_history exit one.range) (nothing_past exit.ranges one.range.0 past) in
      let clash : first_serving avoided [] ≡ Some (replica_of one) =
      ap (first_serving avoided) (sym none) ∙ is.first in
      absurd cc

  pub zoned_first : (some : List Resolved) → AllByRecursion (IsFirstServing at_entry exit avoided) some
      → AllByRecursion (λ (one : Resolved). IsInZoneOf zones one.range one.leaf) some
  zoned_first some all =
      all-map (IsFirstServing at_entry exit avoided) (λ (one : Resolved). IsInZoneOf zones one.range one.leaf) some
      (λ one is. zoned_by one is (cases_lt one.range.0 (length exit.ranges))) all
