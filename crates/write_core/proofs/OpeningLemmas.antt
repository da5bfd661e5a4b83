-- Histories of a range with one more replica that was opened; and the rows that a recovery copies.
use Rattle.std.proofs.Common.{◌≡◌, ℕ, zero, suc, ◌<◌, Bool, true, false, cond, List, [], ◌∷◌, ◌++◌, length, refl}
use Rattle.std.proofs.Common.{ℤ, sym, subst, ◌∙◌, append_assoc, append-nil, arith, inl, inr}
use Rattle.std.specs.Prelude.{Contains}
use Rattle.std.proofs.lemmas.List.Concat.{flat_map-append}
use Rattle.std.proofs.lemmas.List.Elements.{Contains-append_cases}
use Rattle.mon_value.specs.LeafHistories.{entry_rows, kept_rows, replica_rows, same_replica, IsSource, IsWellFormed}
use Rattle.mon_value.specs.Turns.{added_rows}
use Rattle.mon_value.proofs.KeptRowLemmas.{kept_all}
use Rattle.mon_value.proofs.TurnLemmas.{standing_source}
use Rattle.mon_topo.proofs.TurnsSinceLemmas.{acknowledged_added}
use Rattle.mon_value.specs.declared.histories.Ack.{Ack}
use Rattle.mon_value.specs.declared.histories.Entry.{Entry}
use Rattle.mon_value.specs.declared.histories.Entry.TheVariants as entry
use Rattle.mon_value.specs.declared.histories.RangeEntry.{RangeEntry}
use Rattle.mon_value.specs.declared.histories.RangeEntry.TheVariants as range_entry
use Rattle.mon_value.specs.declared.positions.Leaf.{Leaf}
use Rattle.mon_value.specs.declared.positions.Range.{Range}
use Rattle.mon_value.specs.declared.positions.Slot.{Slot}
use Rattle.mon_value.specs.declared.positions.SlotLeaf.{SlotLeaf}
use Rattle.mon_value.specs.declared.rows.Row.{Row}
use Rattle.mon_value.proofs.LeafHistoryLemmas.{parts_same}
use Rattle.mon_schema.specs.Names.{SchemaLists}
use Rattle.mon_topo.specs.HeldHistories.{AreAtHome, IsAtHome}
use Rattle.mon_topo.specs.RangeHistories as spec
use Rattle.mon_topo.specs.RangeHistories.{acknowledged_rows, left_rows, opened_slots, range_turns, serving}
use Rattle.mon_topo.specs.declared.zones.ZoneSpec.{ZoneSpec}
use Rattle.mon_topo.proofs.RangeHistoryLemmas.{acknowledged_rows-push, all_at, all_from, serving_after-opened}

-- ---- one more replica

opened-push : (history : List RangeEntry) (e : RangeEntry)
    → opened_slots (history ++ e ∷ []) ≡ opened_slots history ++ (spec.opened_slot e ++ [])
opened-push history e = flat_map-append spec.opened_slot history (e ∷ [])

-- an acknowledgement and a retirement open no replica
pub opened-acked : (history : List RangeEntry) (pass : ℕ) (row : Row) (ack : Ack)
    → opened_slots (history ++ range_entry.Acked pass row ack ∷ []) ≡ opened_slots history
opened-acked history pass row ack = opened-push history (range_entry.Acked pass row ack)
    ∙ append-nil (opened_slots history)

pub opened-trimmed : (history : List RangeEntry) (pass : ℕ) (before : ℤ) (ack : Ack)
    → opened_slots (history ++ range_entry.Trimmed pass before ack ∷ []) ≡ opened_slots history
opened-trimmed history pass before ack = opened-push history (range_entry.Trimmed pass before ack)
    ∙ append-nil (opened_slots history)

pub opened-retired : (history : List RangeEntry) (pass : ℕ) (slot : Slot)
    → opened_slots (history ++ range_entry.Retired pass slot ∷ []) ≡ opened_slots history
opened-retired history pass slot = opened-push history (range_entry.Retired pass slot) ∙ append-nil (opened_slots history)

-- a trim and a retirement acknowledge no row
pub acked-trimmed : (history : List RangeEntry) (pass : ℕ) (before : ℤ) (ack : Ack)
    → acknowledged_rows (history ++ range_entry.Trimmed pass before ack ∷ []) ≡ acknowledged_rows history
acked-trimmed history pass before ack =
    flat_map-append spec.acked_row history (range_entry.Trimmed pass before ack ∷ [])
    ∙ append-nil (acknowledged_rows history)

pub acked-retired : (history : List RangeEntry) (pass : ℕ) (slot : Slot)
    → acknowledged_rows (history ++ range_entry.Retired pass slot ∷ []) ≡ acknowledged_rows history
acked-retired history pass slot =
    flat_map-append spec.acked_row history (range_entry.Retired pass slot ∷ []) ∙ append-nil (acknowledged_rows history)

module _ (history : List RangeEntry) (pass : ℕ) (slot : Slot) (leaf : Leaf) where
  abbrev opening : RangeEntry
  opening = range_entry.Opened pass slot leaf

  abbrev replica : SlotLeaf
  replica = record { slot = slot; leaf = leaf }

  -- one more replica is the last that was opened
  pub opened-opened : opened_slots (history ++ opening ∷ []) ≡ opened_slots history ++ replica ∷ []
  opened-opened = opened-push history opening

  -- and acknowledges nothing
  pub acked-opened : acknowledged_rows (history ++ opening ∷ []) ≡ acknowledged_rows history
  acked-opened = flat_map-append spec.acked_row history (opening ∷ []) ∙ append-nil (acknowledged_rows history)

  -- and serves
  pub serving-opened : serving (history ++ opening ∷ []) ≡ serving history ++ replica ∷ []
  serving-opened = serving_after-opened [] history pass replica

-- ---- the acknowledged rows are a source

module _ (held : SchemaLists) (zones : List ZoneSpec) (points : ℕ) (r : Range) where
  source_on : (before history : List RangeEntry) → IsSource (acknowledged_rows before)
      → spec.GoesOn held zones points r before history → IsSource (acknowledged_rows (before ++ history))
  source_on before [] h goes =
      subst (λ (xs : List RangeEntry). IsSource (acknowledged_rows xs)) (sym (append-nil before)) h
  source_on before (range_entry.Opened pass slot leaf ∷ history) h goes =
      let e = range_entry.Opened pass slot leaf in
      subst (λ (xs : List RangeEntry). IsSource (acknowledged_rows xs)) (append_assoc before (e ∷ []) history)
      (source_on (before ++ e ∷ []) history
      (subst IsSource (sym (acked-opened before pass slot leaf)) h) goes.1)
  source_on before (range_entry.Acked pass row ack ∷ history) h goes =
      let e = range_entry.Acked pass row ack in
      subst (λ (xs : List RangeEntry). IsSource (acknowledged_rows xs)) (append_assoc before (e ∷ []) history)
      (source_on (before ++ e ∷ []) history (subst IsSource (sym (acknowledged_rows-push before pass row ack))
      goes.0.2) goes.1)
  source_on before (range_entry.Trimmed pass bound ack ∷ history) h goes =
      let e = range_entry.Trimmed pass bound ack in
      subst (λ (xs : List RangeEntry). IsSource (acknowledged_rows xs)) (append_assoc before (e ∷ []) history)
      (source_on (before ++ e ∷ []) history
      (subst IsSource (sym (acked-trimmed before pass bound ack)) h) goes.1)
  source_on before (range_entry.Retired pass slot ∷ history) h goes =
      let e = range_entry.Retired pass slot in
      subst (λ (xs : List RangeEntry). IsSource (acknowledged_rows xs)) (append_assoc before (e ∷ []) history)
      (source_on (before ++ e ∷ []) history
      (subst IsSource (sym (acked-retired before pass slot)) h) goes.1)

  pub acked_source : (history : List RangeEntry) → spec.IsLegal held zones points r history
      → IsSource (acknowledged_rows history)
  acked_source history legal = source_on [] history tt legal

  -- and so are those that are left
  pub left_source : (history : List RangeEntry) → spec.IsLegal held zones points r history
      → IsSource (left_rows history)
  left_source history legal =
      subst IsSource (append-nil (left_rows history))
      (standing_source (range_turns history) [] []
      (subst IsSource (acknowledged_added history ∙ sym (append-nil (added_rows (range_turns history))))
      (acked_source history legal)))

-- ---- rows at home

module _ (held : SchemaLists) (zones : List ZoneSpec) (r : Range) (s : Slot) where
  brought_home : (other : Range) (place : Slot) (rows : List Row) (b : Bool) → same_replica r s other place ≡ b
      → ((row : Row) → Contains rows row → IsAtHome held zones other row) → (row : Row)
      → Contains (cond b rows []) row → IsAtHome held zones r row
  brought_home other place rows true same h row there =
      subst (λ (x : Range). IsAtHome held zones x row) (sym (parts_same r other s place same).0) (h row there)
  brought_home other place rows false same h row there = absurd (omega (arith, there.1))

  one_home : (other : Range) (row : Row) → IsAtHome held zones other row → (x : Row) → Contains (row ∷ []) x
      → IsAtHome held zones other x
  one_home other row h x (zero, l, e) = subst (λ (y : Row). IsAtHome held zones other y) e h
  one_home other row h x (suc k, l, e) = absurd (omega arith)

  entry_home : (e : Entry) → AreAtHome held zones e → (row : Row) → Contains (entry_rows r s e) row
      → IsAtHome held zones r row
  entry_home (entry.Opened pass other place rows) h row there =
      brought_home other place rows (same_replica r s other place) refl h row there
  entry_home (entry.Put pass other place own) h row there =
      brought_home other place (own ∷ []) (same_replica r s other place) refl (one_home other own h) row there
  entry_home (entry.Trim pass other place before) h row there = absurd (omega (arith, there.1))
  entry_home (entry.Down pass) h row there = absurd (omega (arith, there.1))
  entry_home (entry.Up pass) h row there = absurd (omega (arith, there.1))

  later : (e : Entry) (history : List Entry) (x : Entry) → Contains history x → Contains (e ∷ history) x
  later e history x there =
      (suc there.0, (let l : there.0 < length history = there.1 in omega arith), there.2)

  -- the rows of a replica are at home in its range, where each entry's rows are
  pub replica_at_home : (history : List Entry) → ((e : Entry) → Contains history e → AreAtHome held zones e)
      → (row : Row)
      → Contains (replica_rows r s history) row → IsAtHome held zones r row
  replica_at_home [] h row there = absurd (omega (arith, there.1))
  replica_at_home (e ∷ history) h row there =
      elim (Contains-append_cases (entry_rows r s e) (replica_rows r s history) row there) [
        | inl here ↦ entry_home e (h e (zero, omega arith, refl)) row here
        | inr behind ↦ replica_at_home history (λ x there. h x (later e history x there)) row behind
      ]

  -- and so those of its rows that are kept
  pub kept_at_home : (history : List Entry) → IsWellFormed history
      → ((e : Entry) → Contains history e → AreAtHome held zones e) → (row : Row)
      → Contains (kept_rows r s history) row → IsAtHome held zones r row
  kept_at_home history formed h row there =
      all_at (IsAtHome held zones r) (kept_rows r s history) row
      (kept_all r s (IsAtHome held zones r) history formed
      (all_from (IsAtHome held zones r) (replica_rows r s history) (replica_at_home history h))) there
