-- What the histories of leaves say of a range whose first replicas are all opened.
use Rattle.std.proofs.Common.{◌≡◌, ℕ, zero, suc, ◌+◌, ◌≤◌, Bool, true, false, cond, ◌||◌, ◌&&◌, List, [], ◌∷◌}
use Rattle.std.proofs.Common.{◌++◌, inl, inr}
use Rattle.std.proofs.Common.{length, take, refl, sym, ap, subst, ◌∙◌, arith, slice_get, Some, append-nil, append_assoc}
use Rattle.std.specs.Prelude.{Contains}
use Rattle.std.specs.List.{flat_map, range_with_len}
use Rattle.std.proofs.lemmas.Bool.{cases_lt, eq-eqb, or_right}
use Rattle.std.proofs.lemmas.List.{get_or_past, take_all}
use Rattle.std.proofs.lemmas.List.Concat.{flat_map-append}
use Rattle.std.proofs.lemmas.List.Elements.{Contains-append_right}
use Rattle.mon_topo.proofs.FirstLemmas.{here_contains, no_turns_since, no_turns_yet, opened_count, opening_at}
use Rattle.mon_topo.proofs.FirstOpenings.{open_up_to, replica_there}
use Rattle.mon_topo.specs.HeldHistories.{first_range_history, opened_before, opened_here, opened_of, opened_up_to}
use Rattle.mon_topo.specs.HeldHistories.{opening, openings_from, slot_numbered, BeginsWith, IsBorneOut, IsHeldBy}
use Rattle.mon_topo.specs.RangeHistories.{opened_slots, serving_after, turns_since}
use Rattle.mon_topo.specs.Replicas.{HasReplicas}
use Rattle.mon_topo.specs.Zones.{first_replicas, leaves_in}
use Rattle.mon_topo.specs.declared.zones.ZoneSpec.{ZoneSpec}
use Rattle.mon_value.specs.Histories.{leaf_history, leaf_numbered, range_numbered, same_leaf}
use Rattle.mon_value.specs.LeafHistories.{entry_turns, is_opened, replica_turns, same_replica}
use Rattle.mon_value.specs.Turns.{after_turns}
use Rattle.mon_value.specs.declared.histories.Entry.{Entry}
use Rattle.mon_value.specs.declared.histories.Entry.TheVariants as entry
use Rattle.mon_value.specs.declared.histories.Histories.{Histories}
use Rattle.mon_value.specs.declared.histories.RangeEntry.{RangeEntry}
use Rattle.mon_value.specs.declared.positions.Leaf.{Leaf}
use Rattle.mon_value.specs.declared.positions.Range.{Range}
use Rattle.mon_value.specs.declared.positions.Slot.{Slot}
use Rattle.mon_value.specs.declared.positions.SlotLeaf.{SlotLeaf}
use Rattle.mon_value.specs.declared.rows.Row.{Row}
use Rattle.range_cell.specs.Rest.{AreUnopened, HasJust, HaveJust}
use Rattle.mon_store.specs.Openings.{IsOpenedUpTo}

-- ---- an opening that stands in a history

opened_in : (range : Range) (slot : Slot) (history : List Entry) → Contains history (entry.Opened 0 range slot [])
    → is_opened range slot history ≡ true
opened_in range slot [] there = absurd (omega (arith, there.1))
opened_in range slot (e ∷ history) (zero, l, same) =
    ap (λ (x : Entry). is_opened range slot (x ∷ history)) same
    ∙ ap (λ b. b || is_opened range slot history) (both (eq-eqb range.0 range.0 refl) (eq-eqb slot.0 slot.0 refl))
  where
    both : {a b : Bool} → a ≡ true → b ≡ true → (a && b) ≡ true
    both {a} {b} p q = (λ i. p i && q i)
opened_in range slot (e ∷ history) (suc k, l, same) =
    more e (opened_in range slot history (k, omega arith, same))
  where
    more : (x : Entry) → is_opened range slot history ≡ true → is_opened range slot (x ∷ history) ≡ true
    more (entry.Opened pass other place rows) h =
        or_right (same_replica range slot other place) (is_opened range slot history) h
    more (entry.Put pass other place row) h = h
    more (entry.Trim pass other place before) h = h
    more (entry.Down pass) h = h
    more (entry.Up pass) h = h

-- ---- openings bring no turns

module _ (range : Range) (slot : Slot) where
  one_brings_none : (other : Range) (k : ℕ) (b : Bool) → replica_turns range slot (cond b (opening other k ∷ []) []) ≡ []
  one_brings_none other k true = refl
  one_brings_none other k false = refl

  here_brings_none : (leaf : Leaf) (other : Range) (k : ℕ) (leaves : List Leaf)
      → replica_turns range slot (opened_here leaf other k leaves) ≡ []
  here_brings_none leaf other k [] = refl
  here_brings_none leaf other k (on ∷ leaves) =
      flat_map-append (entry_turns range slot) (cond (same_leaf leaf on) (opening other k ∷ []) [])
      (opened_here leaf other (k + 1) leaves)
      ∙ (λ i. one_brings_none other k (same_leaf leaf on) i ++ here_brings_none leaf other (k + 1) leaves i)

  before_brings_none : (zones : List ZoneSpec) (leaf : Leaf) (from count : ℕ)
      → replica_turns range slot (flat_map (opened_of zones leaf) (range_with_len from count)) ≡ []
  before_brings_none zones leaf from zero = refl
  before_brings_none zones leaf from (suc count) =
      flat_map-append (entry_turns range slot) (opened_of zones leaf from)
      (flat_map (opened_of zones leaf) (range_with_len (from + 1) count))
      ∙ (λ i. here_brings_none leaf (range_numbered from) 0 (first_replicas zones from) i
      ++ before_brings_none zones leaf (from + 1) count i)

  up_to_brings_none : (zones : List ZoneSpec) (r place n : ℕ)
      → replica_turns range slot (opened_up_to zones r place n) ≡ []
  up_to_brings_none zones r place n =
      flat_map-append (entry_turns range slot) (flat_map (opened_of zones (leaf_numbered n)) (range_with_len 0 r))
      (opened_here (leaf_numbered n) (range_numbered r) 0 (take place (first_replicas zones r)))
      ∙ (λ i. before_brings_none zones (leaf_numbered n) 0 r i
      ++ here_brings_none (leaf_numbered n) (range_numbered r) 0 (take place (first_replicas zones r)) i)

-- ---- they stand on their leaves

-- ---- which replicas serve

abbrev replicas_from : ℕ → List Leaf → List SlotLeaf
replicas_from k [] = []
replicas_from k (leaf ∷ leaves) = record { slot = slot_numbered k; leaf = leaf } ∷ replicas_from (k + 1) leaves

serve_all : (before : List SlotLeaf) (k : ℕ) (leaves : List Leaf)
    → serving_after before (openings_from k leaves) ≡ before ++ replicas_from k leaves
serve_all before k [] = sym (append-nil before)
serve_all before k (leaf ∷ leaves) =
    serve_all (before ++ record { slot = slot_numbered k; leaf = leaf } ∷ []) (k + 1) leaves
    ∙ append_assoc before (record { slot = slot_numbered k; leaf = leaf } ∷ []) (replicas_from (k + 1) leaves)

-- a replica in a slot of a list of leaves
record IsInSlot (leaves : List Leaf) (k : ℕ) (replica : SlotLeaf) : Type 0 where
  j : ℕ
  there : slice_get leaves j ≡ Some replica.leaf
  slot : slot_numbered (k + j) ≡ replica.slot

in_slot : (leaves : List Leaf) (k : ℕ) (replica : SlotLeaf) → Contains (replicas_from k leaves) replica
    → IsInSlot leaves k replica
in_slot [] k replica there = absurd (omega (arith, there.1))
in_slot (leaf ∷ leaves) k replica (zero, l, same) = record {
  j = 0;
  there = ap (λ (x : SlotLeaf). Some x.leaf) same;
  slot = ap slot_numbered (omega arith) ∙ ap (λ (x : SlotLeaf). x.slot) same;
}
in_slot (leaf ∷ leaves) k replica (suc n, l, same) =
    let rest = in_slot leaves (k + 1) replica (n, omega arith, same) in
    record { j = suc rest.j; there = rest.there; slot = ap slot_numbered (omega arith) ∙ rest.slot }

-- ---- the range

module _ (zones : List ZoneSpec) (range : Range) (has : HasReplicas zones range) (place : ℕ)
    (all : length (first_replicas zones range.0) ≤ place) (seen : Histories)
    (opened : IsOpenedUpTo zones range.0 place seen) where
  abbrev firsts : List Leaf
  firsts = first_replicas zones range.0

  seen_on : (leaf : Leaf) (k : ℕ) → slice_get firsts k ≡ Some leaf
      → leaf_history seen leaf ≡ opened_up_to zones range.0 place leaf.0
  seen_on leaf k at = opened.leaves leaf.0 (replica_there zones range k leaf has at)

  entered : (leaf : Leaf) (k : ℕ) → slice_get firsts k ≡ Some leaf → Contains (leaf_history seen leaf) (opening range k)
  entered leaf k at =
      let whole : take place firsts ≡ firsts = take_all place firsts all in
      let before : List Entry = flat_map (opened_of zones leaf) (range_with_len 0 range.0) in
      let here : Contains (opened_here leaf range 0 firsts) (opening range (0 + k)) =
      here_contains leaf range 0 firsts k at in
      let there : Contains (opened_here leaf range 0 firsts) (opening range k) =
      subst (λ (n : ℕ). Contains (opened_here leaf range 0 firsts) (opening range n)) (omega arith) here in
      subst (λ (h : List Entry). Contains h (opening range k)) (sym (seen_on leaf k at))
      (Contains-append_right before (opened_here leaf range 0 (take place firsts)) (opening range k)
      (subst (λ (l : List Leaf). Contains (opened_here leaf range 0 l) (opening range k)) (sym whole) there))

  none_there : (leaf : Leaf) (k : ℕ) (slot : Slot) → slice_get firsts k ≡ Some leaf
      → replica_turns range slot (leaf_history seen leaf) ≡ []
  none_there leaf k slot at =
      ap (replica_turns range slot) (seen_on leaf k at) ∙ up_to_brings_none range slot zones range.0 place leaf.0

  just_at : (replica : SlotLeaf) → IsInSlot firsts 0 replica
      → HasJust seen range (turns_since replica.slot (first_range_history zones range.0)) replica
  just_at replica at =
      let slot : slot_numbered at.j ≡ replica.slot = ap slot_numbered (omega arith) ∙ at.slot in
      record {
        opened = opened_in range replica.slot (leaf_history seen replica.leaf)
            (subst (λ (s : Slot). Contains (leaf_history seen replica.leaf) (entry.Opened 0 range s [])) slot
            (entered replica.leaf at.j at.there));
        all = none_there replica.leaf at.j replica.slot at.there ∙ sym (no_turns_since replica.slot 0 firsts);
      }

  -- and no replica behind them
  none_behind : length seen.leaves ≡ length (leaves_in zones)
      → AreUnopened seen range (length (opened_slots (first_range_history zones range.0)))
  none_behind all_leaves slot leaf past = elim (cases_lt leaf.0 (length (leaves_in zones))) [
    | inl here ↦
        let open_all = open_up_to zones leaf.0 range.0 (length firsts) (omega arith) in
        let same : take (length firsts) firsts ≡ take place firsts =
        take_all (length firsts) firsts (omega arith) ∙ sym (take_all place firsts all) in
        let before : List Entry = opened_before zones range.0 leaf.0 in
        let whole : leaf_history seen leaf ≡ opened_up_to zones range.0 (length firsts) leaf.0 =
        opened.leaves leaf.0 here
        ∙ ap (λ (l : List Leaf). before ++ opened_here leaf range 0 l) (sym same) in
        let count = opened_count 0 firsts in
        ap (is_opened range slot) whole ∙ open_all.here slot.0 (omega (arith, past, count))
    | inr beyond ↦
        ap (is_opened range slot) (get_or_past seen.leaves leaf.0 [] (omega (arith, beyond, all_leaves)))
  ]

  -- each of its first replicas is opened, no turn has come to it, and no other is opened
  pub first_just : length seen.leaves ≡ length (leaves_in zones)
      → HaveJust seen range (first_range_history zones range.0)
  first_just all_leaves = record {
    turns = λ replica there. just_at replica (in_slot firsts 0 replica
        (subst (λ (xs : List SlotLeaf). Contains xs replica) (serve_all [] 0 firsts) there));
    fresh = none_behind all_leaves;
  }

  borne_by : (k : ℕ) (e : RangeEntry) → slice_get (openings_from 0 firsts) k ≡ Some e
      → IsBorneOut seen range (first_range_history zones range.0) k e
  borne_by k e is =
      let at = opening_at firsts 0 k e is in
      let number : 0 + k ≡ k = omega arith in
      subst (IsBorneOut seen range (first_range_history zones range.0) k) (sym at.is)
      (record {
        pass = 0;
        entered = subst (λ (rows : List Row). Contains (leaf_history seen at.leaf)
            (entry.Opened 0 range (slot_numbered (0 + k)) rows))
            (sym (ap (after_turns []) (no_turns_yet k 0 firsts)))
            (subst (λ (n : ℕ). Contains (leaf_history seen at.leaf) (opening range n)) (sym number)
            (entered at.leaf k at.there));
      })

  -- and the leaves bear it out
  pub first_borne_out : IsHeldBy seen range (first_range_history zones range.0)
  first_borne_out = record {
    kept = λ replica served.
        subst (BeginsWith (replica_turns range replica.slot (leaf_history seen replica.leaf)))
        (sym (no_turns_since replica.slot 0 firsts)) refl;
    borne_out = borne_by;
  }
