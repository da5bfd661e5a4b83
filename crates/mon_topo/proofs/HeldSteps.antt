-- Each step of a range keeps its replicas' turns: a row or a bound that is acknowledged, a replica that is opened with
-- what is left, and one that is retired.
use Rattle.std.proofs.Common.{◌≡◌, ◌≢◌, ◌∙◌, ℕ, zero, suc, ◌<◌, Bool, true, false, not, cond, List, [], ◌∷◌, ◌++◌, length}
use Rattle.std.proofs.Common.{take, refl, sym, ap, subst, append-nil, Some, ◌⊎◌, inl, inr, arith, get_or}
use Rattle.std.specs.Prelude.{Contains, slice_get, filter}
use Rattle.std.specs.List.{AllByRecursion as All}
use Rattle.std.proofs.lemmas.List.Elements.{Contains-append_right, Contains-push_cases}
use Rattle.mon_value.specs.Histories.{leaf_history}
use Rattle.mon_value.specs.LeafHistories.{replica_turns}
use Rattle.mon_value.specs.Turns.{Turn, Adds, Hides}
use Rattle.mon_value.specs.declared.histories.Ack.{Ack}
use Rattle.mon_value.specs.declared.histories.Histories.{Histories}
use Rattle.mon_value.specs.declared.histories.RangeEntry.{RangeEntry}
use Rattle.mon_value.specs.declared.histories.RangeEntry.TheVariants as range_entry
use Rattle.mon_value.specs.declared.positions.Leaf.{Leaf}
use Rattle.mon_value.specs.declared.positions.Range.{Range}
use Rattle.mon_value.specs.declared.positions.Slot.{Slot}
use Rattle.mon_value.specs.declared.positions.SlotLeaf.{SlotLeaf}
use Rattle.mon_schema.specs.Names.{SchemaLists}
use Rattle.mon_topo.proofs.LeftLemmas.{IsOpenedAt, serving_opened}
use Rattle.mon_topo.proofs.RangeHistoryLemmas.{all_from, not_missed, not_slot, numbered, serving-push, serving-retired}
use Rattle.mon_topo.proofs.RangeHistoryLemmas.{serving-trimmed, serving_after-opened, slot_below}
use Rattle.mon_topo.proofs.TurnsSinceLemmas.{IsFresh, since_more, since_opened}
use Rattle.mon_topo.specs.HeldHistories.{BeginsWith, IsHeldBy}
use Rattle.mon_topo.specs.RangeHistories as spec
use Rattle.mon_topo.specs.RangeHistories.{is_missed, opened_slots, range_turns, serving, turn_ack, turns_since}
use Rattle.mon_topo.specs.declared.zones.ZoneSpec.{ZoneSpec}

in_filter_by : (test : SlotLeaf → Bool) (first x : SlotLeaf) (xs : List SlotLeaf) (b : Bool) → test first ≡ b
    → (Contains (filter test xs) x → Contains xs x × (test x ≡ true))
    → Contains (cond b (first ∷ filter test xs) (filter test xs)) x → Contains (first ∷ xs) x × (test x ≡ true)
in_filter_by test first x xs true e rest (zero, l, same) =
    ((zero, omega arith, same), sym (ap test same) ∙ e)
in_filter_by test first x xs true e rest (suc k, l, same) =
    let more = rest (k, omega (arith, l), same) in
    (Contains-append_right (first ∷ []) xs x more.0, more.1)
in_filter_by test first x xs false e rest there =
    let more = rest there in (Contains-append_right (first ∷ []) xs x more.0, more.1)

in_filter : (test : SlotLeaf → Bool) (xs : List SlotLeaf) (x : SlotLeaf) → Contains (filter test xs) x
    → Contains xs x × (test x ≡ true)
in_filter test [] x there = absurd (omega (arith, there.1))
in_filter test (first ∷ xs) x there = in_filter_by test first x xs (test first) refl (in_filter test xs x) there

not_true : (b : Bool) → not b ≡ true → b ≡ false
not_true true e = absurd cc
not_true false e = refl

module _ (held : SchemaLists) (zones : List ZoneSpec) (points : ℕ) (r : Range) (seen : Histories)
    (history : List RangeEntry) (legal : spec.IsLegal held zones points r history) where
  -- a replica begins with these turns
  abbrev pub HasTurns : SlotLeaf → List Turn → Type 0
  HasTurns replica turns = BeginsWith (replica_turns r replica.slot (leaf_history seen replica.leaf)) turns

  place_is : (before more : List RangeEntry) (e : RangeEntry) → slice_get (before ++ e ∷ more) (length before) ≡ Some e
  place_is [] more e = refl
  place_is (x ∷ before) more e = place_is before more e

  -- of a replica that serves, an entry more adds its turn
  pub serving_since : (replica : SlotLeaf) → Contains (serving history) replica → (e : RangeEntry)
      → turns_since replica.slot (history ++ e ∷ []) ≡ turns_since replica.slot history ++ range_turns (e ∷ [])
  serving_since replica there e =
      let at = serving_opened held zones points r history legal replica there in
      since_more replica.slot history (e ∷ []) (length at.before) at.pass replica refl
      (ap (λ xs. slice_get xs (length at.before)) at.parts
      ∙ place_is at.before at.more (range_entry.Opened at.pass replica.slot replica.leaf))

  module _ (kept : (replica : SlotLeaf) → Contains (serving history) replica
      → HasTurns replica (turns_since replica.slot history)) where
    -- what every replica has that takes a turn
    abbrev Takes : Turn → Ack → Type 0
    Takes turn ack = (replica : SlotLeaf) → Contains (serving history) replica → is_missed ack.missed replica ≡ false
        → HasTurns replica (turns_since replica.slot history ++ turn ∷ [])

    turn_kept_by : (e : RangeEntry) (turn : Turn) (ack : Ack)
        → serving (history ++ e ∷ []) ≡ filter (not_missed ack) (serving history) → range_turns (e ∷ []) ≡ turn ∷ []
        → Takes turn ack → (replica : SlotLeaf) → Contains (serving (history ++ e ∷ [])) replica
        → HasTurns replica (turns_since replica.slot (history ++ e ∷ []))
    turn_kept_by e turn ack serve adds takes replica there =
        let both = in_filter (not_missed ack) (serving history) replica
        (subst (λ (xs : List SlotLeaf). Contains xs replica) serve there) in
        subst (HasTurns replica)
        (sym (serving_since replica both.0 e ∙ ap (λ turns. turns_since replica.slot history ++ turns) adds))
        (takes replica both.0 (not_true (is_missed ack.missed replica) both.1))

    -- a row, or a bound, is acknowledged
    pub turn_kept : (pass : ℕ) (turn : Turn) (ack : Ack) → Takes turn ack → (replica : SlotLeaf)
        → Contains (serving (history ++ turn_ack pass turn ack ∷ [])) replica
        → HasTurns replica (turns_since replica.slot (history ++ turn_ack pass turn ack ∷ []))
    turn_kept pass (Adds row) ack =
        turn_kept_by (range_entry.Acked pass row ack) (Adds row) ack (serving-push history pass row ack) refl
    turn_kept pass (Hides before) ack =
        turn_kept_by (range_entry.Trimmed pass before ack) (Hides before) ack (serving-trimmed history pass before ack) refl

    still : (e : RangeEntry) → range_turns (e ∷ []) ≡ [] → (replica : SlotLeaf) → Contains (serving history) replica
        → HasTurns replica (turns_since replica.slot (history ++ e ∷ []))
    still e none replica there =
        subst (HasTurns replica)
        (sym (serving_since replica there e ∙ ap (λ turns. turns_since replica.slot history ++ turns) none
        ∙ append-nil (turns_since replica.slot history)))
        (kept replica there)

    -- a replica is retired
    pub retired_kept : (pass : ℕ) (slot : Slot) (replica : SlotLeaf)
        → Contains (serving (history ++ range_entry.Retired pass slot ∷ [])) replica
        → HasTurns replica (turns_since replica.slot (history ++ range_entry.Retired pass slot ∷ []))
    retired_kept pass slot replica there =
        still (range_entry.Retired pass slot) refl replica
        (in_filter (not_slot slot) (serving history) replica
        (subst (λ (xs : List SlotLeaf). Contains xs replica) (serving-retired history pass slot) there)).0

    -- a replica is opened
    pub opened_kept : (pass : ℕ) (new : SlotLeaf) → new.slot.0 ≡ length (opened_slots history) → (replica : SlotLeaf)
        → Contains (serving (history ++ range_entry.Opened pass new.slot new.leaf ∷ [])) replica
        → HasTurns replica (turns_since replica.slot (history ++ range_entry.Opened pass new.slot new.leaf ∷ []))
    opened_kept pass new next replica there =
        let e = range_entry.Opened pass new.slot new.leaf in
        elim (Contains-push_cases (serving history) new replica
        (subst (λ (xs : List SlotLeaf). Contains xs replica) (serving_after-opened [] history pass new) there)) [
          | inl old ↦ still e refl replica old
          | inr same ↦ subst (λ (one : SlotLeaf). HasTurns one (turns_since one.slot (history ++ e ∷ []))) same
              (subst (HasTurns new) (sym (since_opened new.slot pass new history [] refl fresh)) refl)
        ]
      where
        fresh : IsFresh new.slot history
        fresh = all_from (λ (one : SlotLeaf). new.slot.0 ≢ one.slot.0) (opened_slots history)
            (λ one known same. (let below : one.slot.0 < length (opened_slots history) =
            slot_below history (numbered held zones points r history legal) one known in
            let own : new.slot.0 ≡ one.slot.0 = same in
            let last : new.slot.0 ≡ length (opened_slots history) = next in
            absurd (omega (arith, below, own, last))))
