-- A range that was opened on a replica has one that serves.
use Rattle.std.proofs.Common.{◌≡◌, ◌∙◌, ℕ, zero, suc, ◌+◌, ◌<◌, ◌≤◌, Bool, true, false, not, cond, ◌||◌, List, [], ◌∷◌}
use Rattle.std.proofs.Common.{◌++◌, length, map, nat_eq, refl, sym, ap, subst, append-nil, append_assoc, length-append}
use Rattle.std.proofs.Common.{arith}
use Rattle.std.specs.Prelude.{Some, filter, slice_get}
use Rattle.std.specs.List.{AllByRecursion as All}
use Rattle.std.proofs.lemmas.Bool.Decides.{nat_tests}
use Rattle.std.proofs.lemmas.List.Sums.{sum_by-append, sum_by-cons}
use Rattle.mon_schema.specs.Names.{SchemaLists}
use Rattle.mon_topo.proofs.RangeHistoryLemmas.{AreApart, IsFrom, IsLegal-push, not_missed, not_slot, numbered, serving-push}
use Rattle.mon_topo.proofs.RangeHistoryLemmas.{serving-retired, serving-trimmed, serving_more}
use Rattle.mon_topo.specs.HeldHistories.{BeginsWith}
use Rattle.mon_topo.specs.RangeHistories as spec
use Rattle.mon_value.specs.Histories.{same_slot}
use Rattle.mon_topo.specs.RangeHistories.{IsAckOf, is_missed, serving, serving_after, times}
use Rattle.mon_topo.specs.declared.zones.ZoneSpec.{ZoneSpec}
use Rattle.mon_value.specs.declared.histories.Ack.{Ack}
use Rattle.mon_value.specs.declared.histories.Miss.{Miss}
use Rattle.mon_value.specs.declared.histories.RangeEntry.{RangeEntry}
use Rattle.mon_value.specs.declared.histories.RangeEntry.TheVariants as range_entry
use Rattle.mon_value.specs.declared.positions.Leaf.{Leaf}
use Rattle.mon_value.specs.declared.positions.Range.{Range}
use Rattle.mon_value.specs.declared.positions.Slot.{Slot}
use Rattle.mon_value.specs.declared.positions.SlotLeaf.{SlotLeaf}

-- ---- how often a slot stands

abbrev one_if : Bool → ℕ
one_if b = cond b 1 0

abbrev slots_of : List SlotLeaf → List Slot
slots_of replicas = map (λ (replica : SlotLeaf). replica.slot) replicas

abbrev missed_slots : List Miss → List Slot
missed_slots missed = map (λ (miss : Miss). miss.slot) missed

one_more : (slot x : Slot) (xs : List Slot) → times slot (x ∷ xs) ≡ one_if (same_slot slot x) + times slot xs
one_more slot x xs = sum_by-cons (λ other. cond (same_slot slot other) 1 0) x xs

pub times_both : (slot : Slot) (xs ys : List Slot) → times slot (xs ++ ys) ≡ times slot xs + times slot ys
times_both slot xs ys = sum_by-append (λ other. cond (same_slot slot other) 1 0) xs ys

itself : (slot : Slot) → same_slot slot slot ≡ true
itself slot = let test : nat_eq slot.0 slot.0 ≡ true = grind (arith, nat_tests) in test

none_alike : (slot : Slot) (replica : SlotLeaf) (replicas : List SlotLeaf) → slot.0 ≡ replica.slot.0
    → All (IsFrom replica) replicas → times slot (slots_of replicas) ≡ 0
none_alike slot replica [] e all = refl
none_alike slot replica (other ∷ replicas) e all =
    let differ : nat_eq slot.0 other.slot.0 ≡ false =
    ne_test slot.0 other.slot.0 (λ same. all.0 (sym same ∙ e)) in
    let more = one_more slot other.slot (slots_of replicas)
    ∙ ap (λ b. one_if b + times slot (slots_of replicas)) differ in
    omega (arith, more, none_alike slot replica replicas e all.1)
  where
    ne_test : (a b : ℕ) → (a ≡ b → ⊥) → nat_eq a b ≡ false
    ne_test a b apart = grind (arith, nat_tests)

once_by : (slot : Slot) (replica : SlotLeaf) (replicas : List SlotLeaf) (b : Bool) → same_slot slot replica.slot ≡ b
    → All (IsFrom replica) replicas → times slot (slots_of replicas) ≤ 1
    → times slot (slots_of (replica ∷ replicas)) ≤ 1
once_by slot replica replicas true e all rest =
    let number : slot.0 ≡ replica.slot.0 = let test : nat_eq slot.0 replica.slot.0 ≡ true = e in
    grind (arith, nat_tests) in
    let none = none_alike slot replica replicas number all in
    let more = one_more slot replica.slot (slots_of replicas)
    ∙ ap (λ b. one_if b + times slot (slots_of replicas)) e in
    omega (arith, none, more)
once_by slot replica replicas false e all rest =
    let more = one_more slot replica.slot (slots_of replicas)
    ∙ ap (λ b. one_if b + times slot (slots_of replicas)) e in
    omega (arith, rest, more)

at_most_once : (slot : Slot) (replicas : List SlotLeaf) → AreApart replicas → times slot (slots_of replicas) ≤ 1
at_most_once slot [] apart = omega arith
at_most_once slot (replica ∷ replicas) apart =
    once_by slot replica replicas (same_slot slot replica.slot) refl apart.0 (at_most_once slot replicas apart.1)

-- ---- who missed a row

missed_by : (replica : SlotLeaf) (miss : Miss) (missed : List Miss) (b : Bool) → same_slot miss.slot replica.slot ≡ b
    → (is_missed missed replica ≡ true → 0 < times replica.slot (missed_slots missed))
    → is_missed (miss ∷ missed) replica ≡ true → 0 < times replica.slot (missed_slots (miss ∷ missed))
missed_by replica miss missed true e rest is =
    let turned : nat_eq replica.slot.0 miss.slot.0 ≡ true =
    let test : nat_eq miss.slot.0 replica.slot.0 ≡ true = e in grind (arith, nat_tests) in
    let more = one_more replica.slot miss.slot (missed_slots missed)
    ∙ ap (λ b. one_if b + times replica.slot (missed_slots missed)) turned in
    omega (arith, more)
missed_by replica miss missed false e rest is =
    let later : is_missed missed replica ≡ true = sym (ap (λ b. b || is_missed missed replica) e) ∙ is in
    let more = one_more replica.slot miss.slot (missed_slots missed) in
    omega (arith, rest later, more)

missed_once : (replica : SlotLeaf) (missed : List Miss) → is_missed missed replica ≡ true
    → 0 < times replica.slot (missed_slots missed)
missed_once replica [] is = absurd cc
missed_once replica (miss ∷ missed) is =
    missed_by replica miss missed (same_slot miss.slot replica.slot) refl (missed_once replica missed) is

gone_by : (ack : Ack) (replica : SlotLeaf) (replicas : List SlotLeaf) (b : Bool) → is_missed ack.missed replica ≡ b
    → length (cond (not b) (replica ∷ filter (not_missed ack) replicas) (filter (not_missed ack) replicas)) ≡ 0
    → (b ≡ true) × (length (filter (not_missed ack) replicas) ≡ 0)
gone_by ack replica replicas true e none = (refl, none)
gone_by ack replica replicas false e none = absurd (omega (arith, none))

pub slot_is : (a b : Slot) → same_slot a b ≡ true → a ≡ b
slot_is a b e =
    let number : a.0 ≡ b.0 = let test : nat_eq a.0 b.0 ≡ true = e in grind (arith, nat_tests) in
    ap (λ (n : ℕ). (let slot : Slot = record { 0 = n } in slot)) number

counted_by : (slot : Slot) (ack : Ack) (replica : SlotLeaf) (replicas : List SlotLeaf) (b : Bool)
    → same_slot slot replica.slot ≡ b → is_missed ack.missed replica ≡ true
    → (0 < times slot (slots_of replicas) → 0 < times slot (missed_slots ack.missed))
    → 0 < one_if b + times slot (slots_of replicas) → 0 < times slot (missed_slots ack.missed)
counted_by slot ack replica replicas true e gone rest here =
    subst (λ (one : Slot). 0 < times one (missed_slots ack.missed)) (sym (slot_is slot replica.slot e))
    (missed_once replica ack.missed gone)
counted_by slot ack replica replicas false e gone rest here = rest (omega (arith, here))

-- where none serves any more, each slot was missed
all_missed : (slot : Slot) (ack : Ack) (replicas : List SlotLeaf) → length (filter (not_missed ack) replicas) ≡ 0
    → 0 < times slot (slots_of replicas) → 0 < times slot (missed_slots ack.missed)
all_missed slot ack [] none here = absurd (omega (arith, here))
all_missed slot ack (replica ∷ replicas) none here =
    let gone = gone_by ack replica replicas (is_missed ack.missed replica) refl none in
    counted_by slot ack replica replicas (same_slot slot replica.slot) refl gone.0 (all_missed slot ack replicas gone.1)
    (subst (λ (n : ℕ). 0 < n) (one_more slot replica.slot (slots_of replicas)) here)

first_taken : (slots : List Slot) → 0 < length slots → (slot : Slot) × (0 < times slot slots)
first_taken [] some = absurd (omega (arith, some))
first_taken (slot ∷ slots) some =
    let more = one_more slot slot slots ∙ ap (λ b. one_if b + times slot slots) (itself slot) in
    (slot, omega (arith, more))

-- an acknowledgement leaves one that took the row
some_left : (range : Range) (replicas : List SlotLeaf) (ack : Ack) → AreApart replicas → IsAckOf range replicas ack
    → length (filter (not_missed ack) replicas) ≡ 0 → ⊥
some_left range replicas ack apart of none =
    let took = first_taken ack.took of.taken in
    let slot = took.0 in
    let all = times_both slot ack.took (missed_slots ack.missed) in
    let named = of.named slot in
    let missed = all_missed slot ack replicas none (omega (arith, took.1, all, named)) in
    omega (arith, took.1, all, named, missed, at_most_once slot replicas apart)

-- ---- one that serves

pub record HasFirst (history : List RangeEntry) : Type 0 where
  pub first : SlotLeaf
  pub is : slice_get (serving history) 0 ≡ Some first

first_of : (history : List RangeEntry) (replicas : List SlotLeaf) → serving history ≡ replicas → 0 < length replicas
    → HasFirst history
first_of history [] e some = absurd (omega (arith, some))
first_of history (replica ∷ replicas) e some = record {
  first = replica;
  is = ap (λ (some : List SlotLeaf). slice_get some 0) e;
}

opened_serves : (replicas : List SlotLeaf) (history : List RangeEntry) (pass : ℕ) (slot : Slot) (leaf : Leaf)
    → serving_after replicas (history ++ range_entry.Opened pass slot leaf ∷ [])
    ≡ serving_after replicas history ++ record { slot = slot; leaf = leaf } ∷ []
opened_serves replicas history pass slot leaf = serving_more replicas history (range_entry.Opened pass slot leaf ∷ [])

-- where one of several is retired, others are left
rest_by : (slot : Slot) (replica : SlotLeaf) (replicas : List SlotLeaf) (b : Bool) → same_slot slot replica.slot ≡ b
    → All (IsFrom replica) replicas → length replicas ≤ 1 + length (filter (not_slot slot) replicas)
    → length (replica ∷ replicas)
    ≤ 1 + length (cond (not b) (replica ∷ filter (not_slot slot) replicas) (filter (not_slot slot) replicas))
rest_by slot replica replicas true e all rest =
    let number : slot.0 ≡ replica.slot.0 = let test : nat_eq slot.0 replica.slot.0 ≡ true = e in
    grind (arith, nat_tests) in
    let same : filter (not_slot slot) replicas ≡ replicas = none_dropped slot replica replicas number all in
    let count : length (filter (not_slot slot) replicas) ≡ length replicas = ap length same in
    omega (arith, count)
  where
    apart_test : (a b : ℕ) → (a ≡ b → ⊥) → nat_eq a b ≡ false
    apart_test a b apart = grind (arith, nat_tests)

    none_dropped : (slot : Slot) (replica : SlotLeaf) (replicas : List SlotLeaf) → slot.0 ≡ replica.slot.0
        → All (IsFrom replica) replicas → filter (not_slot slot) replicas ≡ replicas
    none_dropped slot replica [] e all = refl
    none_dropped slot replica (other ∷ replicas) e all =
        let differ : nat_eq slot.0 other.slot.0 ≡ false = apart_test slot.0 other.slot.0 (λ same. all.0 (sym same ∙ e)) in
        ap (λ c. cond (not c) (other ∷ filter (not_slot slot) replicas) (filter (not_slot slot) replicas)) differ
        ∙ ap (λ xs. other ∷ xs) (none_dropped slot replica replicas e all.1)
rest_by slot replica replicas false e all rest = omega (arith, rest)

rest_left : (slot : Slot) (replicas : List SlotLeaf) → AreApart replicas
    → length replicas ≤ 1 + length (filter (not_slot slot) replicas)
rest_left slot [] apart = omega arith
rest_left slot (replica ∷ replicas) apart =
    rest_by slot replica replicas (same_slot slot replica.slot) refl apart.0 (rest_left slot replicas apart.1)

some_of : (n : ℕ) → (n ≡ 0 → ⊥) → 0 < n
some_of zero h = absurd (h refl)
some_of (suc n) h = omega arith

module _ (held : SchemaLists) (zones : List ZoneSpec) (points : ℕ) (range : Range) where
  serves_on : (history : List RangeEntry) (e : RangeEntry) → spec.IsLegal held zones points range history
      → spec.MayFollow held zones points range history e → 0 < length (serving (history ++ e ∷ []))
  serves_on history (range_entry.Opened pass slot leaf) legal may =
      let replica : SlotLeaf = record { slot = slot; leaf = leaf } in
      omega (
        arith,
        ap length (opened_serves [] history pass slot leaf),
        length-append (serving history) (replica ∷ []),
      )
  serves_on history (range_entry.Acked pass row ack) legal may =
      some_of (length (serving (history ++ range_entry.Acked pass row ack ∷ [])))
      (λ none. some_left range (serving history) ack (numbered held zones points range history legal).apart may.0
      (sym (ap length (serving-push history pass row ack)) ∙ none))
  serves_on history (range_entry.Trimmed pass before ack) legal may =
      some_of (length (serving (history ++ range_entry.Trimmed pass before ack ∷ [])))
      (λ none. some_left range (serving history) ack (numbered held zones points range history legal).apart may
      (sym (ap length (serving-trimmed history pass before ack)) ∙ none))
  serves_on history (range_entry.Retired pass slot) legal may =
      let several : 1 < length (serving history) = may.1 in
      omega (
        arith,
        several,
        ap length (serving-retired history pass slot),
        rest_left slot (serving history) (numbered held zones points range history legal).apart,
      )

  serves_later : (history more : List RangeEntry) → spec.IsLegal held zones points range history
      → 0 < length (serving history) → spec.GoesOn held zones points range history more
      → 0 < length (serving (history ++ more))
  serves_later history [] legal some goes =
      subst (λ (all : List RangeEntry). 0 < length (serving all)) (sym (append-nil history)) some
  serves_later history (e ∷ more) legal some goes =
      subst (λ (all : List RangeEntry). 0 < length (serving all)) (append_assoc history (e ∷ []) more)
      (serves_later (history ++ e ∷ []) more (IsLegal-push held zones points range history e legal goes.0)
      (serves_on history e legal goes.0) goes.1)

  begun_serves : (history : List RangeEntry) (pass : ℕ) (slot : Slot) (leaf : Leaf) (front : List RangeEntry)
      → spec.IsLegal held zones points range history
      → BeginsWith history (range_entry.Opened pass slot leaf ∷ front) → 0 < length (serving history)
  begun_serves [] pass slot leaf front legal begins = absurd cc
  begun_serves (e ∷ more) pass slot leaf front legal begins =
      let replica : SlotLeaf = record { slot = slot; leaf = leaf } in
      let same : range_entry.Opened pass slot leaf ≡ e = head_is e (range_entry.Opened pass slot leaf) _ _ begins in
      let some : 0 < length (serving (range_entry.Opened pass slot leaf ∷ [])) = omega arith in
      serves_later (e ∷ []) more (legal.0, tt)
      (subst (λ (one : RangeEntry). 0 < length (serving (one ∷ []))) same some) legal.1
    where
      head_is : (a b : RangeEntry) (xs ys : List RangeEntry) → a ∷ xs ≡ b ∷ ys → b ≡ a
      head_is a b xs ys h = cc

  pub first_serves : (history : List RangeEntry) (pass : ℕ) (slot : Slot) (leaf : Leaf) (front : List RangeEntry)
      → spec.IsLegal held zones points range history
      → BeginsWith history (range_entry.Opened pass slot leaf ∷ front) → HasFirst history
  first_serves history pass slot leaf front legal begins =
      first_of history (serving history) refl (begun_serves history pass slot leaf front legal begins)
