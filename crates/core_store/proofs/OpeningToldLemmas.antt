-- Of a history that a range can have, what a recovery is told by the lock is what the core lets it be told.
use Rattle.std.proofs.lemmas.Bool.{ltb-true}
use Rattle.std.proofs.Common.{◌≡◌, ◌∙◌, ℕ, ◌+◌, ◌<◌, ◌≤◌, nat_lt, zero, suc, Bool, true, false, cond, Option}
use Rattle.std.proofs.Common.{Some, None, List, [], ◌∷◌, ◌++◌, take, length, length-append, refl, sym, ap, subst, arith}
use Rattle.std.proofs.Common.{append_assoc}
use Rattle.std.specs.Prelude.{filter, slice_get}
use Rattle.std.specs.List.{list_any}
use Rattle.write_core.proofs.FirstOnLemmas.{first_on, none_on, placed_on}
use Rattle.std.proofs.lemmas.Bool.Decides.{nat_tests}
use Rattle.mon_topo.proofs.FirstLemmas as begun
use Rattle.mon_topo.proofs.HeldLemmas.{seen_within_through}
use Rattle.mon_topo.proofs.RangeHistoryLemmas.{not_missed, not_slot, serving-push, serving-retired, serving-trimmed}
use Rattle.mon_topo.specs.HeldHistories.{first_histories, AreWithin}
use Rattle.mon_topo.specs.RangeHistories as range_spec
use Rattle.mon_topo.specs.RangeHistories.{IsInZoneOf, is_on, opened_slots, serving}
use Rattle.mon_topo.specs.Replicas.{HasReplicas}
use Rattle.mon_topo.specs.Settings.{Setting}
use Rattle.mon_topo.specs.Zones.{first_replicas, ranges_in}
use Rattle.mon_topo.specs.declared.limits.TheConstants.{MOST_REPLICAS, MOST_SLOTS}
use Rattle.mon_topo.specs.declared.zones.ZoneSpec.{ZoneSpec}
use Rattle.mon_schema.specs.Names.{SchemaLists}
use Rattle.mon_value.specs.Histories.{range_history}
use Rattle.mon_value.specs.declared.histories.Histories.{Histories}
use Rattle.mon_value.specs.declared.histories.RangeEntry.{RangeEntry}
use Rattle.mon_value.specs.declared.histories.RangeEntry.TheVariants as range_entry
use Rattle.mon_value.specs.declared.positions.Range.{Range}
use Rattle.mon_value.specs.declared.positions.SlotLeaf.{SlotLeaf}
use Rattle.core_store.specs.RecoveryEvents.{opening_told, told_by_denial}
use Rattle.write_core.proofs.CopyAnswers.{may_open}
use Rattle.write_core.proofs.OpeningLemmas.{opened-acked, opened-opened, opened-retired, opened-trimmed, serving-opened}
use Rattle.mon_topo.proofs.FirstLemmas.{opened_count}
use Rattle.mon_value.proofs.PlainLemmas.{filter-few, at_least}
use Rattle.write_core.specs.CopySteps.{IsToldOfRange}
use Rattle.write_core.specs.Recovering.{denied_by}
use Rattle.write_core.specs.declared.copies.Denial.TheVariants.{ServesFully, SlotsSpent}
use Rattle.write_core.specs.World.{Recovery}

-- ---- how many serve and were opened

record AreFew (history : List RangeEntry) : Type 0 where
  pub serve : length (serving history) ≤ MOST_REPLICAS
  pub known : length (serving history) ≤ length (opened_slots history)
  pub opened : length (opened_slots history) ≤ MOST_SLOTS

module _ (held : SchemaLists) (zones : List ZoneSpec) (points : ℕ) (range : Range)
    (firsts : length (first_replicas zones range.0) ≤ MOST_REPLICAS) where
  few_opened : (before : List RangeEntry) (pass : ℕ) (replica : SlotLeaf) → AreFew before
      → range_spec.MayFollow held zones points range before (range_entry.Opened pass replica.slot replica.leaf)
      → AreFew (before ++ range_entry.Opened pass replica.slot replica.leaf ∷ [])
  few_opened before pass replica h may =
      let serve : length (serving before ++ replica ∷ []) ≡ length (serving before) + 1
      = length-append (serving before) (replica ∷ []) in
      let opened : length (opened_slots before ++ replica ∷ []) ≡ length (opened_slots before) + 1
      = length-append (opened_slots before) (replica ∷ []) in
      let more_serve = ap (λ (xs : List SlotLeaf). length xs) (serving-opened before pass replica.slot replica.leaf) in
      let more_opened = ap (λ (xs : List SlotLeaf). length xs)
      (opened-opened before pass replica.slot replica.leaf) in
      record {
        serve = placed (nat_lt replica.slot.0 (length (first_replicas zones range.0))) refl;
        known = omega (arith, serve, opened, more_serve, more_opened, h.known);
        opened = omega (arith, opened, more_opened, may.0, may.1);
      }
    where
      grown : length (serving (before ++ range_entry.Opened pass replica.slot replica.leaf ∷ []))
          ≡ length (serving before) + 1
      grown = ap (λ (xs : List SlotLeaf). length xs) (serving-opened before pass replica.slot replica.leaf)
          ∙ length-append (serving before) (replica ∷ [])

      placed : (b : Bool) → nat_lt replica.slot.0 (length (first_replicas zones range.0)) ≡ b
          → length (serving (before ++ range_entry.Opened pass replica.slot replica.leaf ∷ [])) ≤ MOST_REPLICAS
      placed true is =
          let ltb-true : replica.slot.0 < length (first_replicas zones range.0) = grind (arith, nat_tests) in
          omega (arith, ltb-true, firsts, may.0, h.known, grown)
      placed false is =
          let at_least : length (first_replicas zones range.0) ≤ replica.slot.0 = grind (arith, nat_tests) in
          let few = (may.2.1 at_least).few in
          omega (arith, few, grown)

  -- an entry that opens none, behind which some serve no longer
  few_fewer : (before : List RangeEntry) (e : RangeEntry) (test : SlotLeaf → Bool)
      → serving (before ++ e ∷ []) ≡ filter test (serving before)
      → opened_slots (before ++ e ∷ []) ≡ opened_slots before → AreFew before → AreFew (before ++ e ∷ [])
  few_fewer before e test serves opens h =
      let fewer : length (filter test (serving before)) ≤ length (serving before)
      = filter-few test (serving before) in
      let serve = ap (λ (xs : List SlotLeaf). length xs) serves in
      let opened = ap (λ (xs : List SlotLeaf). length xs) opens in
      record {
        serve = omega (arith, fewer, serve, h.serve);
        known = omega (arith, fewer, serve, opened, h.known);
        opened = omega (arith, opened, h.opened);
      }

  few_on : (before history : List RangeEntry) → AreFew before
      → range_spec.GoesOn held zones points range before history → AreFew (before ++ history)
  few_on before [] h goes = subst AreFew (sym (append_none before)) h
    where
      append_none : (xs : List RangeEntry) → xs ++ [] ≡ xs
      append_none [] = refl
      append_none (x ∷ xs) = ap (λ (rest : List RangeEntry). x ∷ rest) (append_none xs)
  few_on before (range_entry.Opened pass slot leaf ∷ history) h goes =
      let e = range_entry.Opened pass slot leaf in
      subst AreFew (append_assoc before (e ∷ []) history)
      (few_on (before ++ e ∷ []) history
      (few_opened before pass (record { slot = slot; leaf = leaf }) h goes.0) goes.1)
  few_on before (range_entry.Acked pass row ack ∷ history) h goes =
      let e = range_entry.Acked pass row ack in
      subst AreFew (append_assoc before (e ∷ []) history)
      (few_on (before ++ e ∷ []) history
      (few_fewer before e (not_missed ack) (serving-push before pass row ack) (opened-acked before pass row ack) h)
      goes.1)
  few_on before (range_entry.Trimmed pass bound ack ∷ history) h goes =
      let e = range_entry.Trimmed pass bound ack in
      subst AreFew (append_assoc before (e ∷ []) history)
      (few_on (before ++ e ∷ []) history
      (few_fewer before e (not_missed ack) (serving-trimmed before pass bound ack) (opened-trimmed before pass bound ack)
      h) goes.1)
  few_on before (range_entry.Retired pass slot ∷ history) h goes =
      let e = range_entry.Retired pass slot in
      subst AreFew (append_assoc before (e ∷ []) history)
      (few_on (before ++ e ∷ []) history
      (few_fewer before e (not_slot slot) (serving-retired before pass slot) (opened-retired before pass slot) h) goes.1)

  few_legal : (history : List RangeEntry) → range_spec.IsLegal held zones points range history → AreFew history
  few_legal history legal =
      few_on [] history (record { serve = omega arith; known = omega arith; opened = omega arith }) legal

-- ---- what the lock tells

module _ (setting : Setting) (history : List RangeEntry) (who : Recovery)
    (zoned : IsInZoneOf setting.zones who.range who.leaf)
    (begins : length (first_replicas setting.zones who.range.0) ≤ length (opened_slots history))
    (few : AreFew history) where
  module _ (off : list_any (is_on who.leaf) (serving history) ≡ false) where
    by_slots : (b : Bool) → nat_lt (length (opened_slots history)) MOST_SLOTS ≡ b
        → length (serving history) < MOST_REPLICAS
        → IsToldOfRange setting history who
        (told_by_denial history (cond b None (Some (SlotsSpent MOST_SLOTS))))
    by_slots true is some =
        (refl, may_open setting history who zoned begins off some (ltb-true (length (opened_slots history)) MOST_SLOTS is))
    by_slots false is some =
        let least = at_least (length (opened_slots history)) MOST_SLOTS is in
        (off, some, omega (arith, least, few.opened), refl)

    by_serving : (b : Bool) → nat_lt (length (serving history)) MOST_REPLICAS ≡ b
        → IsToldOfRange setting history who (told_by_denial history
        (cond b (cond (nat_lt (length (opened_slots history)) MOST_SLOTS) None (Some (SlotsSpent MOST_SLOTS)))
        (Some ServesFully)))
    by_serving true is =
        by_slots (nat_lt (length (opened_slots history)) MOST_SLOTS) refl
        (ltb-true (length (serving history)) MOST_REPLICAS is)
    by_serving false is =
        let least = at_least (length (serving history)) MOST_REPLICAS is in
        (off, omega (arith, least, few.serve))

  told_by : (found : Option SlotLeaf) → slice_get (filter (is_on who.leaf) (serving history)) 0 ≡ found
      → IsToldOfRange setting history who (told_by_denial history
      (denied_by found (length (serving history)) (length (opened_slots history))))
  told_by (Some replica) e =
      placed_on who.leaf (serving history) replica (first_on who.leaf (serving history) replica e)
  told_by None e =
      by_serving (none_on who.leaf (serving history) e) (nat_lt (length (serving history)) MOST_REPLICAS) refl

  told_truly : IsToldOfRange setting history who (opening_told history who.leaf)
  told_truly = told_by (slice_get (filter (is_on who.leaf) (serving history)) 0) refl

-- ---- the first replicas were opened

opened_front : (n : ℕ) (history : List RangeEntry)
    → length (opened_slots (take n history)) ≤ length (opened_slots history)
opened_front zero history = omega arith
opened_front (suc n) [] = omega arith
opened_front (suc n) (range_entry.Opened pass slot leaf ∷ history) = let h = opened_front n history in omega (arith, h)
opened_front (suc n) (range_entry.Acked pass row ack ∷ history) = opened_front n history
opened_front (suc n) (range_entry.Trimmed pass before ack ∷ history) = opened_front n history
opened_front (suc n) (range_entry.Retired pass slot ∷ history) = opened_front n history

firsts_opened : (zones : List ZoneSpec) (range : Range) (seen truth : Histories)
    → range.0 < length (ranges_in zones) → AreWithin (first_histories zones) seen → AreWithin seen truth
    → length (first_replicas zones range.0) ≤ length (opened_slots (range_history truth range))
firsts_opened zones range seen truth there since within =
    let first : List RangeEntry = range_history (first_histories zones) range in
    let fronts = (seen_within_through (first_histories zones) seen truth since within).ranges range in
    let front : take (length first) (range_history truth range) ≡ first = fronts in
    let count : length (opened_slots first) ≡ length (first_replicas zones range.0)
    = ap (λ (history : List RangeEntry). length (opened_slots history)) (begun.range_is zones range there)
    ∙ opened_count 0 (first_replicas zones range.0) in
    let same = ap (λ (history : List RangeEntry). length (opened_slots history)) front in
    let fewer = opened_front (length first) (range_history truth range) in
    omega (arith, count, same, fewer)

-- a range that has its replicas, and whose first ones were opened
pub opening_true : (setting : Setting) (range : Range) (seen truth : Histories) (who : Recovery)
    → who.range ≡ range → HasReplicas setting.zones range → IsInZoneOf setting.zones who.range who.leaf
    → range.0 < length (ranges_in setting.zones) → AreWithin (first_histories setting.zones) seen
    → AreWithin seen truth
    → range_spec.IsLegal setting.held setting.zones setting.points range (range_history truth range)
    → IsToldOfRange setting (range_history truth range) who (opening_told (range_history truth range) who.leaf)
opening_true setting range seen truth who own has zoned there since within legal =
    told_truly setting (range_history truth range) who zoned
    (subst (λ (r : Range). length (first_replicas setting.zones r.0)
    ≤ length (opened_slots (range_history truth range))) (sym own)
    (firsts_opened setting.zones range seen truth there since within))
    (few_legal setting.held setting.zones setting.points range has.few (range_history truth range) legal)
