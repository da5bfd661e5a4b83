-- Rows that were acknowledged are in the history of the leaf of each replica that serves, but for those that the range
-- trimmed.
use Rattle.std.proofs.Common.{◌≡◌, ◌∙◌, ℕ, zero, suc, ◌+◌, ◌<◌, ◌≤◌, Bool, true, false, not, cond, nat_eq, List}
use Rattle.std.proofs.Common.{[], ◌∷◌, ◌++◌, length, map, take, slice_get, Some, ◌⊎◌, inl, inr, refl, sym, ap, subst}
use Rattle.std.proofs.Common.{append-nil, append_assoc, length-append, arith}
use Rattle.std.specs.Prelude.{filter, Contains}
use Rattle.std.specs.List.{AllByRecursion as All, flat_map}
use Rattle.std.proofs.lemmas.Bool.{cases_lt, eq-eqb, or_parts}
use Rattle.std.proofs.lemmas.Bool.Decides.{nat_tests}
use Rattle.std.proofs.lemmas.List.{get_or_at, take_at}
use Rattle.std.proofs.lemmas.List.Concat.{flat_map-append}
use Rattle.std.proofs.lemmas.List.Elements.{Contains-append_right}
use Rattle.std.proofs.lemmas.List.Sums.{sum_by-append, sum_by-cons}
use Rattle.mon_value.specs.LeafHistories.{entry_rows, is_opened, replica_rows}
use Rattle.mon_value.specs.Turns.{StandsOrIsHidden}
use Rattle.mon_value.proofs.KeptRowLemmas.{opened_there}
use Rattle.mon_value.proofs.TurnLemmas.{came_stands}
use Rattle.mon_value.specs.declared.histories.Ack.{Ack}
use Rattle.mon_value.specs.declared.histories.Entry.{Entry}
use Rattle.mon_value.specs.declared.histories.Entry.TheVariants as entry
use Rattle.mon_value.specs.declared.histories.Miss.{Miss}
use Rattle.mon_value.specs.declared.histories.RangeEntry.{RangeEntry}
use Rattle.mon_value.specs.declared.histories.RangeEntry.TheVariants as range_entry
use Rattle.mon_value.specs.declared.positions.Leaf.{Leaf}
use Rattle.mon_value.specs.declared.positions.Range.{Range}
use Rattle.mon_value.specs.declared.positions.Slot.{Slot}
use Rattle.mon_value.specs.declared.positions.SlotLeaf.{SlotLeaf}
use Rattle.mon_value.specs.declared.rows.Row.{Row}
use Rattle.mon_schema.specs.Names.{SchemaLists}
use Rattle.mon_topo.proofs.FrontLemmas.{begins_with}
use Rattle.mon_topo.proofs.RangeHistoryLemmas.{AreNumbered, IsLegal-push, all_append, all_at, all_filter, all_from}
use Rattle.mon_topo.proofs.RangeHistoryLemmas.{all_on, get_there, not_missed, not_slot, numbered, serving_more}
use Rattle.mon_topo.proofs.TurnsSinceLemmas.{acknowledged_added}
use Rattle.mon_value.proofs.LeafHistoryLemmas.{same_replica-itself}
use Rattle.mon_value.proofs.PlainLemmas.{in_flat_map}
use Rattle.mon_topo.proofs.ServingLemmas.{slot_is}
use Rattle.mon_value.specs.Histories.{leaf_history, same_slot}
use Rattle.mon_value.specs.declared.histories.Histories.{Histories}
use Rattle.mon_topo.specs.HeldHistories.{IsBorneOut}
use Rattle.mon_topo.specs.RangeHistories as spec
use Rattle.mon_topo.specs.RangeHistories.{acknowledged_rows, acked_row, is_missed, left_rows, opened_slots, range_turns}
use Rattle.mon_topo.specs.RangeHistories.{serving, times}
use Rattle.mon_topo.specs.Replicas.{HasReplicas}
use Rattle.mon_topo.specs.Zones.{first_replicas}
use Rattle.mon_topo.specs.declared.zones.ZoneSpec.{ZoneSpec}
use Rattle.query_traces.proofs.HiddenRows.{hidden_on, shown_on}

-- ---- lists

all_in_flat_map : {X Y : Type 0} (f : X → List Y) (xs : List X) (x : X) (ys : List Y) → Contains xs x
    → All (Contains (f x)) ys → All (Contains (flat_map f xs)) ys
all_in_flat_map f xs x ys there =
    all_on (Contains (f x)) (Contains (flat_map f xs)) (λ y. in_flat_map f xs x y there) ys

all_of_itself : {X : Type 0} (xs : List X) → All (Contains xs) xs
all_of_itself [] = record {}
all_of_itself (x ∷ xs) = (
  (zero, omega arith, refl),
  all_on (Contains xs) (Contains (x ∷ xs)) (λ y there. Contains-append_right (x ∷ []) xs y there) xs (all_of_itself xs),
)

at_place : {X : Type 0} (P : X → Type 0) (xs : List X) (k : ℕ) (x : X) → All P xs → slice_get xs k ≡ Some x → P x
at_place P [] k x all e = absurd (cc)
at_place P (y ∷ xs) zero x all e = let same : y ≡ x = cc in subst P same all.0
at_place P (y ∷ xs) (suc k) x all e = at_place P xs k x all.1 e

-- ---- a leaf's history

rows_opened : (r : Range) (slot : Slot) (pass : ℕ) (rows : List Row) (history : List Entry)
    → Contains history (entry.Opened pass r slot rows) → All (Contains (replica_rows r slot history)) rows
rows_opened r slot pass rows history there =
    all_in_flat_map (entry_rows r slot) history (entry.Opened pass r slot rows) rows there
    (subst (λ (own : List Row). All (Contains own) rows) (sym (ap (λ b. cond b rows []) (same_replica-itself r slot)))
    (all_of_itself rows))

row_put : (r : Range) (slot : Slot) (pass : ℕ) (row : Row) (history : List Entry)
    → Contains history (entry.Put pass r slot row) → Contains (replica_rows r slot history) row
row_put r slot pass row history there =
    in_flat_map (entry_rows r slot) history (entry.Put pass r slot row) row there
    (subst (λ (own : List Row). Contains own row) (sym (ap (λ b. cond b (row ∷ []) []) (same_replica-itself r slot)))
    (zero, omega arith, refl))

-- ---- slots that took a row

abbrev slot_numbered : ℕ → Slot
slot_numbered n = record { 0 = n }

abbrev one_if : Bool → ℕ
one_if b = cond b 1 0

one_time : (slot : Slot) (x : Slot) (xs : List Slot)
    → times slot (x ∷ xs) ≡ one_if (same_slot slot x) + times slot xs
one_time slot x xs = sum_by-cons (λ other. cond (same_slot slot other) 1 0) x xs

counted : (slot : Slot) (xs : List Slot) → Contains xs slot → 0 < times slot xs
counted slot [] there = absurd (omega (arith, there.1))
counted slot (x ∷ xs) (zero, l, e) =
    let here : one_if (same_slot slot x) ≡ one_if true =
    ap (λ (y : Slot). one_if (same_slot slot y)) e ∙ ap one_if (eq-eqb slot.0 slot.0 refl) in
    omega (arith, one_time slot x xs, here)
counted slot (x ∷ xs) (suc k, l, e) =
    let rest = counted slot xs (k, omega (arith, l), e) in omega (arith, one_time slot x xs, rest)

found_by : (slot x : Slot) (xs : List Slot) (b : Bool) → same_slot slot x ≡ b → (0 < times slot xs → Contains xs slot)
    → 0 < one_if b + times slot xs → Contains (x ∷ xs) slot
found_by slot x xs true e rest some = (zero, omega arith, sym (slot_is slot x e))
found_by slot x xs false e rest some =
    Contains-append_right (x ∷ []) xs slot (rest (omega (arith, some)))

found : (slot : Slot) (xs : List Slot) → 0 < times slot xs → Contains xs slot
found slot [] some = absurd (omega (arith, some))
found slot (x ∷ xs) some =
    found_by slot x xs (same_slot slot x) refl (found slot xs) (omega (arith, some, one_time slot x xs))

eq_turned : (a b : ℕ) → nat_eq a b ≡ false → nat_eq b a ≡ false
eq_turned a b e = grind (arith, nat_tests)

none_missed : (replica : SlotLeaf) (missed : List Miss) → is_missed missed replica ≡ false
    → times replica.slot (map (λ (miss : Miss). miss.slot) missed) ≡ 0
none_missed replica [] e = refl
none_missed replica (miss ∷ missed) e =
    let both = or_parts (same_slot miss.slot replica.slot) (is_missed missed replica) e in
    let here : one_if (same_slot replica.slot miss.slot) ≡ one_if false =
    ap one_if (eq_turned miss.slot.0 replica.slot.0 both.0) in
    omega (
      arith,
      one_time replica.slot miss.slot (map (λ (miss : Miss). miss.slot) missed),
      here,
      none_missed replica missed both.1,
    )

slot_there : (replica : SlotLeaf) (replicas : List SlotLeaf) → Contains replicas replica
    → Contains (map (λ (one : SlotLeaf). one.slot) replicas) replica.slot
slot_there replica [] there = absurd (omega (arith, there.1))
slot_there replica (first ∷ replicas) (zero, l, e) = (zero, omega arith, ap (λ (one : SlotLeaf). one.slot) e)
slot_there replica (first ∷ replicas) (suc k, l, e) =
    Contains-append_right (first.slot ∷ []) (map (λ (one : SlotLeaf). one.slot) replicas) replica.slot
    (slot_there replica replicas (k, omega (arith, l), e))

took_it : (range : Range) (replicas : List SlotLeaf) (ack : Ack) (replica : SlotLeaf) → spec.IsAckOf range replicas ack
    → Contains replicas replica → is_missed ack.missed replica ≡ false → Contains ack.took replica.slot
took_it range replicas ack replica is there missed_not =
    let slot = replica.slot in
    let all = sum_by-append (λ other. cond (same_slot slot other) 1 0) ack.took (map (λ (miss : Miss). miss.slot)
    ack.missed) in
    found slot ack.took
    (omega (
      arith,
      is.named slot,
      all,
      none_missed replica ack.missed missed_not,
      counted slot (map (λ (one : SlotLeaf). one.slot) replicas) (slot_there replica replicas there),
    ))

-- ---- one entry after another

-- a row is one of a replica's, or a bound in the range's history is above its end
abbrev pub IsHadOrTrimmed : Range → List Entry → List RangeEntry → SlotLeaf → Row → Type 0
IsHadOrTrimmed r own history replica =
    StandsOrIsHidden (replica_rows r replica.slot own) (range_turns history)

module _ (zones : List ZoneSpec) (seen : Histories) (r : Range) where
  -- a replica of the range is opened on its leaf, in the range's zone, which has the rows that a history acknowledges, but
  -- for those that the history trims
  pub record HasRows (history : List RangeEntry) (replica : SlotLeaf) : Type 0 where
    pub zoned : spec.IsInZoneOf zones r replica.leaf
    pub opened : is_opened r replica.slot (leaf_history seen replica.leaf) ≡ true
    pub rows : All (IsHadOrTrimmed r (leaf_history seen replica.leaf) history replica) (acknowledged_rows history)

  abbrev ServeAll : List RangeEntry → Type 0
  ServeAll history = All (HasRows history) (serving history)

  acked_more : (history : List RangeEntry) (e : RangeEntry) → acknowledged_rows (history ++ e ∷ [])
      ≡ acknowledged_rows history
      ++ (acked_row e ++ [])
  acked_more history e = flat_map-append acked_row history (e ∷ [])

  -- with an entry more a row is had or trimmed as before
  carried : (history more : List RangeEntry) (replica : SlotLeaf) (row : Row)
      → IsHadOrTrimmed r (leaf_history seen replica.leaf) history replica row
      → IsHadOrTrimmed r (leaf_history seen replica.leaf) (history ++ more) replica row
  carried history more replica row =
      let own = replica_rows r replica.slot (leaf_history seen replica.leaf) in
      shown_on own own (range_turns history) (range_turns (history ++ more)) row (λ has. has)
      (hidden_on (history ++ more) history row (begins_with history more))

  -- an entry that acknowledges no row keeps this of a replica
  quietly : (history : List RangeEntry) (e : RangeEntry) (one : SlotLeaf)
      → acknowledged_rows (history ++ e ∷ []) ≡ acknowledged_rows history → HasRows history one
      → HasRows (history ++ e ∷ []) one
  quietly history e one same has = record {
    zoned = has.zoned;
    opened = has.opened;
    rows = subst (All (IsHadOrTrimmed r (leaf_history seen one.leaf) (history ++ e ∷ []) one)) (sym same)
        (all_on (IsHadOrTrimmed r (leaf_history seen one.leaf) history one)
        (IsHadOrTrimmed r (leaf_history seen one.leaf) (history ++ e ∷ []) one)
        (carried history (e ∷ []) one) (acknowledged_rows history) has.rows);
  }

  -- each acknowledged row is left, or trimmed
  left_or_trimmed : (history : List RangeEntry) (leaf : Leaf) (slot : Slot)
      → All (Contains (replica_rows r slot (leaf_history seen leaf))) (left_rows history)
      → All (IsHadOrTrimmed r (leaf_history seen leaf) history (record { slot = slot; leaf = leaf }))
      (acknowledged_rows history)
  left_or_trimmed history leaf slot all =
      let replica : SlotLeaf = record { slot = slot; leaf = leaf } in
      all_from (IsHadOrTrimmed r (leaf_history seen leaf) history replica) (acknowledged_rows history)
      (λ row there. elim (came_stands (range_turns history) [] row
      (subst (λ (rows : List Row). Contains rows row) (acknowledged_added history) there)) [
        | inl stands ↦ inl (all_at (Contains (replica_rows r slot (leaf_history seen leaf))) (left_rows history) row all
            stands)
        | inr hidden ↦ inr hidden
      ])

  opened_step : (history : List RangeEntry) (pass : ℕ) (slot : Slot) (leaf : Leaf) → ServeAll history
      → Contains (leaf_history seen leaf) (entry.Opened pass r slot (left_rows history))
      → (whose : ℕ) → spec.IsInZoneOf zones r leaf → ServeAll (history ++ range_entry.Opened whose slot leaf ∷ [])
  opened_step history pass slot leaf all there whose zoned =
      let replica : SlotLeaf = record { slot = slot; leaf = leaf } in
      let more = history ++ range_entry.Opened whose slot leaf ∷ [] in
      let same : acknowledged_rows more
      ≡ acknowledged_rows history = acked_more history (range_entry.Opened whose slot leaf)
      ∙ append-nil (acknowledged_rows history) in
      let to : (one : SlotLeaf) → HasRows history one → HasRows more one =
      λ one has. quietly history (range_entry.Opened whose slot leaf) one same has in
      let new : HasRows history replica = record {
        zoned = zoned;
        opened = opened_there r slot pass (left_rows history) (leaf_history seen leaf) there;
        rows = left_or_trimmed history leaf slot (rows_opened r slot pass (left_rows history) (leaf_history seen leaf) there);
      } in
      subst (All (HasRows more)) (sym (serving_more [] history (range_entry.Opened whose slot leaf ∷ [])))
      (all_on (HasRows history) (HasRows more) to (serving history ++ replica ∷ [])
      (all_append (HasRows history) (serving history) (replica ∷ []) all (new, record {})))

  -- some serve no longer behind an entry that acknowledges no row
  fewer_step : (history : List RangeEntry) (e : RangeEntry) (test : SlotLeaf → Bool)
      → acknowledged_rows (history ++ e ∷ []) ≡ acknowledged_rows history
      → serving (history ++ e ∷ []) ≡ filter test (serving history) → ServeAll history → ServeAll (history ++ e ∷ [])
  fewer_step history e test same serve all =
      subst (All (HasRows (history ++ e ∷ []))) (sym serve)
      (all_on (HasRows history) (HasRows (history ++ e ∷ [])) (λ one has. quietly history e one same has)
      (filter test (serving history)) (all_filter (HasRows history) test (serving history) all))

  module _ (history : List RangeEntry) (pass : ℕ) (row : Row) (ack : Ack) (is : spec.IsAckOf r (serving history) ack)
      (put : (replica : SlotLeaf) → Contains (opened_slots history) replica → Contains ack.took replica.slot
      → Contains (leaf_history seen replica.leaf) (entry.Put pass ack.range replica.slot row)) where
    taken_by : (replica : SlotLeaf) (replicas : List SlotLeaf) (b : Bool) → is_missed ack.missed replica ≡ b
        → HasRows history replica → Contains (opened_slots history) replica → Contains (serving history) replica
        → All (HasRows (history ++ range_entry.Acked pass row ack ∷ [])) replicas
        → All (HasRows (history ++ range_entry.Acked pass row ack ∷ [])) (cond (not b) (replica ∷ replicas) replicas)
    taken_by replica replicas true e has known serves rest = rest
    taken_by replica replicas false e has known serves rest =
        let own = replica_rows r replica.slot (leaf_history seen replica.leaf) in
        let there = put replica known (took_it r (serving history) ack replica is serves e) in
        let here : Contains own row = row_put r replica.slot pass row (leaf_history seen replica.leaf)
        (subst (λ (range : Range). Contains (leaf_history seen replica.leaf) (entry.Put pass range replica.slot row))
        is.ranged there) in (
          record {
            zoned = has.zoned;
            opened = has.opened;
            rows = (let after = IsHadOrTrimmed r (leaf_history seen replica.leaf)
                (history ++ range_entry.Acked pass row ack ∷ []) replica in
                subst (All after) (sym (acked_more history (range_entry.Acked pass row ack)))
                (all_append after (acknowledged_rows history) (row ∷ [])
                (all_on (IsHadOrTrimmed r (leaf_history seen replica.leaf) history replica) after
                (carried history (range_entry.Acked pass row ack ∷ []) replica) (acknowledged_rows history) has.rows)
                (inl here, record {})));
          },
          rest,
        )

    taken_all : (replicas : List SlotLeaf) → All (HasRows history) replicas
        → All (Contains (opened_slots history)) replicas
        → All (Contains (serving history)) replicas
        → All (HasRows (history ++ range_entry.Acked pass row ack ∷ []))
        (filter (λ replica. not (is_missed ack.missed replica)) replicas)
    taken_all [] has known serve = record {}
    taken_all (replica ∷ replicas) has known serve =
        taken_by replica (filter (λ replica. not (is_missed ack.missed replica)) replicas)
        (is_missed ack.missed replica) refl
        has.0 known.0 serve.0 (taken_all replicas has.1 known.1 serve.1)

    acked_step : ServeAll history → AreNumbered history → ServeAll (history ++ range_entry.Acked pass row ack ∷ [])
    acked_step all numbers =
        subst (All (HasRows (history ++ range_entry.Acked pass row ack ∷ [])))
        (sym (serving_more [] history (range_entry.Acked pass row ack ∷ [])))
        (taken_all (serving history) all numbers.among (all_of_itself (serving history)))

  module _ (held : SchemaLists) (points : ℕ) (replicas : HasReplicas zones r) where
    placed_by : (slot : ℕ) (leaf : Leaf) (few : (slot < length (first_replicas zones r.0))
        ⊎ (length (first_replicas zones r.0) ≤ slot))
        → (serve : List SlotLeaf) → spec.IsPlaced zones r slot leaf serve → spec.IsInZoneOf zones r leaf
    placed_by slot leaf (inl first) serve placed =
        at_place (spec.IsInZoneOf zones r) (first_replicas zones r.0) slot leaf replicas.zoned (placed.0 first)
    placed_by slot leaf (inr later) serve placed = (placed.1 later).zoned

    one_step : (history : List RangeEntry) (e : RangeEntry) (more : List RangeEntry)
        → spec.IsLegal held zones points r history → spec.MayFollow held zones points r history e
        → ServeAll history → IsBorneOut seen r (history ++ e ∷ more) (length history) e → ServeAll (history ++ e ∷ [])
    one_step history (range_entry.Opened pass slot leaf) more legal may all out =
        opened_step history out.pass slot leaf all
        (subst (λ (front : List RangeEntry). Contains (leaf_history seen leaf)
        (entry.Opened out.pass r slot (left_rows front)))
        (take_at history (range_entry.Opened pass slot leaf ∷ more) (length history) refl) out.entered) pass
        (placed_by slot.0 leaf (cases_lt slot.0 (length (first_replicas zones r.0))) (serving history) may.2)
    one_step history (range_entry.Acked pass row ack) more legal may all out =
        let front = take_at history (range_entry.Acked pass row ack ∷ more) (length history) refl in
        acked_step history pass row ack may.0
        (λ replica known took. (out.0 replica
        (subst (λ (fore : List RangeEntry). Contains (opened_slots fore) replica) (sym front) known) took).put)
        all (numbered held zones points r history legal)
    one_step history (range_entry.Trimmed pass before ack) more legal may all out =
        fewer_step history (range_entry.Trimmed pass before ack) (not_missed ack)
        (acked_more history (range_entry.Trimmed pass before ack) ∙ append-nil (acknowledged_rows history))
        (serving_more [] history (range_entry.Trimmed pass before ack ∷ [])) all
    one_step history (range_entry.Retired pass slot) more legal may all out =
        fewer_step history (range_entry.Retired pass slot) (not_slot slot)
        (acked_more history (range_entry.Retired pass slot) ∙ append-nil (acknowledged_rows history))
        (serving_more [] history (range_entry.Retired pass slot ∷ [])) all

    abbrev BornOut : List RangeEntry → Type 0
    BornOut all = (k : ℕ) (e : RangeEntry) → slice_get all k ≡ Some e → IsBorneOut seen r all k e

    serve_from : (history more : List RangeEntry) (n : ℕ) → spec.IsLegal held zones points r history
        → spec.GoesOn held zones points r history more → BornOut (history ++ more) → ServeAll history
        → ServeAll (history ++ take n more)
    serve_from history [] zero legal goes out all = subst ServeAll (sym (append-nil history)) all
    serve_from history [] (suc n) legal goes out all = subst ServeAll (sym (append-nil history)) all
    serve_from history (e ∷ more) zero legal goes out all = subst ServeAll (sym (append-nil history)) all
    serve_from history (e ∷ more) (suc n) legal goes out all =
        let here : slice_get (history ++ e ∷ more) (length history) ≡ Some e =
        get_there (history ++ e ∷ more) (length history) e (omega (arith, length-append history (e ∷ more)))
        (get_or_at history e more e (length history) refl) in
        subst ServeAll (append_assoc history (e ∷ []) (take n more))
        (serve_from (history ++ e ∷ []) more n (IsLegal-push held zones points r history e legal goes.0) goes.1
        (subst BornOut (sym (append_assoc history (e ∷ []) more)) out)
        (one_step history e more legal goes.0 all (out (length history) e here)))

    -- at each length of a range's history, each replica that serves is of this kind
    pub serve_at : (history : List RangeEntry) (n : ℕ) → spec.IsLegal held zones points r history → BornOut history
        → All (HasRows (take n history)) (serving (take n history))
    serve_at history n legal out = serve_from [] history n (record {}) legal out (record {})
