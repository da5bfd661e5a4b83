-- What a replica that serves keeps is what is left of its range.
use Rattle.std.proofs.Common.{◌≡◌, ◌≢◌, ◌∙◌, ℕ, zero, suc, ◌+◌, ◌<◌, ◌≤◌, Bool, true, false, not, cond, nat_eq, List, []}
use Rattle.std.proofs.Common.{◌∷◌, ◌++◌, length, take, drop, refl, sym, ap, subst, append-nil, append_assoc, Some, ◌⊎◌}
use Rattle.std.proofs.Common.{inl, inr, arith, length-append, get_or}
use Rattle.std.specs.Prelude.{Contains, slice_get, filter, map}
use Rattle.std.specs.List.{AllByRecursion as All}
use Rattle.std.proofs.lemmas.List.{take-append-drop}
use Rattle.std.proofs.lemmas.Option.{same_Some}
use Rattle.mon_value.specs.Histories.{leaf_history, same_slot}
use Rattle.mon_value.specs.LeafHistories.{IsSource, IsWellFormed, first_rows, kept_rows, replica_rows, replica_turns}
use Rattle.mon_value.specs.Turns.{Turn, added_rows, after_turns}
use Rattle.mon_value.specs.declared.histories.Ack.{Ack}
use Rattle.mon_value.specs.declared.histories.Entry.{Entry}
use Rattle.mon_value.specs.declared.histories.Entry.TheVariants as entry
use Rattle.mon_value.specs.declared.histories.Histories.{Histories}
use Rattle.mon_value.specs.declared.histories.RangeEntry.{RangeEntry}
use Rattle.mon_value.specs.declared.histories.RangeEntry.TheVariants as range_entry
use Rattle.mon_value.specs.declared.positions.Range.{Range}
use Rattle.mon_value.specs.declared.positions.Slot.{Slot}
use Rattle.mon_value.specs.declared.positions.SlotLeaf.{SlotLeaf}
use Rattle.mon_value.specs.declared.rows.Row.{Row}
use Rattle.mon_value.proofs.KeptRowLemmas.{first_rows_are, in_turn}
use Rattle.mon_value.proofs.TurnLemmas.{added_rows-append, after_turns-append, standing_source}
use Rattle.mon_schema.specs.Names.{SchemaLists}
use Rattle.mon_topo.proofs.RangeHistoryLemmas.{AreNumbered, all_at, all_from, all_on, get_there, numbered, serving_more}
use Rattle.mon_topo.proofs.TurnsSinceLemmas.{IsFresh, acknowledged_added, left_on, range_turns-append, since_more}
use Rattle.mon_topo.proofs.TurnsSinceLemmas.{since_opened}
use Rattle.mon_topo.specs.HeldHistories.{IsBorneOut, IsHeldBy}
use Rattle.mon_topo.specs.RangeHistories as spec
use Rattle.mon_topo.specs.RangeHistories.{acknowledged_rows, left_rows, opened_slot, opened_slots, range_turns, serving}
use Rattle.mon_topo.specs.RangeHistories.{turns_since}
use Rattle.mon_topo.specs.declared.zones.ZoneSpec.{ZoneSpec}

-- ---- where a replica was opened

-- an entry of a history opened the replica; those before it opened none of its slot
pub record IsOpenedAt (history : List RangeEntry) (replica : SlotLeaf) : Type 0 where
  pub before : List RangeEntry
  pub pass : ℕ
  pub more : List RangeEntry
  pub parts : history ≡ before ++ range_entry.Opened pass replica.slot replica.leaf ∷ more
  pub fresh : IsFresh replica.slot before

opened_later : (e : RangeEntry) (history : List RangeEntry) (replica : SlotLeaf)
    → All (λ (other : SlotLeaf). replica.slot.0 ≢ other.slot.0) (opened_slot e) → IsOpenedAt history replica
    → IsOpenedAt (e ∷ history) replica
opened_later e history replica apart h = record {
  before = e ∷ h.before;
  pass = h.pass;
  more = h.more;
  parts = ap (λ xs. e ∷ xs) h.parts;
  fresh = both (opened_slot e) (opened_slots h.before) apart h.fresh;
}
  where
    both : (xs ys : List SlotLeaf) → All (λ (other : SlotLeaf). replica.slot.0 ≢ other.slot.0) xs
        → All (λ (other : SlotLeaf). replica.slot.0 ≢ other.slot.0) ys
        → All (λ (other : SlotLeaf). replica.slot.0 ≢ other.slot.0) (xs ++ ys)
    both [] ys h k = k
    both (x ∷ xs) ys h k = (h.0, both xs ys h.1 k)

-- numbered from n on
abbrev AreFrom : ℕ → List SlotLeaf → Type 0
AreFrom n [] = Unit {0}
AreFrom n (replica ∷ replicas) = (replica.slot.0 ≡ n) × AreFrom (suc n) replicas

opened_at : (n : ℕ) (history : List RangeEntry) (replica : SlotLeaf) → AreFrom n (opened_slots history)
    → Contains (opened_slots history) replica → IsOpenedAt history replica
opened_at n [] replica from there = absurd (omega (arith, there.1))
opened_at n (range_entry.Opened pass slot leaf ∷ history) replica from (zero, l, e) = record {
  before = [];
  pass = pass;
  more = history;
  parts = ap (λ (one : SlotLeaf). range_entry.Opened pass one.slot one.leaf ∷ history) e;
  fresh = tt;
}
opened_at n (range_entry.Opened pass slot leaf ∷ history) replica from (suc k, l, e) =
    opened_later (range_entry.Opened pass slot leaf) history replica (
      (λ same. (let at : replica.slot.0 ≡ suc n + k = placed (suc n) (opened_slots history) k replica from.1 (omega (arith, l)) e in
          let own : slot.0 ≡ n = from.0 in
          let clash : replica.slot.0 ≡ slot.0 = same in
          absurd (omega (arith, at, own, clash)))),
      tt,
    )
    (opened_at (suc n) history replica from.1 (k, omega (arith, l), e))
  where
    placed : (m : ℕ) (xs : List SlotLeaf) (j : ℕ) (x : SlotLeaf) → AreFrom m xs → j < length xs → get_or xs j x ≡ x
        → x.slot.0 ≡ m + j
    placed m [] j x from l e = absurd (omega (arith, l))
    placed m (y ∷ xs) zero x from l e =
        let number : x.slot.0 ≡ m = sym (ap (λ (one : SlotLeaf). one.slot.0) e) ∙ from.0 in omega (arith, number)
    placed m (y ∷ xs) (suc j) x from l e =
        let rest = placed (suc m) xs j x from.1 (omega (arith, l)) e in omega (arith, rest)
opened_at n (range_entry.Acked pass row ack ∷ history) replica from there =
    opened_later (range_entry.Acked pass row ack) history replica tt (opened_at n history replica from there)
opened_at n (range_entry.Trimmed pass before ack ∷ history) replica from there =
    opened_later (range_entry.Trimmed pass before ack) history replica tt (opened_at n history replica from there)
opened_at n (range_entry.Retired pass slot ∷ history) replica from there =
    opened_later (range_entry.Retired pass slot) history replica tt (opened_at n history replica from there)

from_numbered : (n : ℕ) (xs : List SlotLeaf)
    → ((k : ℕ) (replica : SlotLeaf) → slice_get xs k ≡ Some replica → replica.slot.0 ≡ n + k) → AreFrom n xs
from_numbered n [] h = tt
from_numbered n (x ∷ xs) h = (
  (let first : x.slot.0 ≡ n + 0 = h 0 x refl in omega (arith, first)),
  from_numbered (suc n) xs (λ k replica there.
      (let at : replica.slot.0 ≡ n + suc k = h (suc k) replica there in omega (arith, at))),
)

module _ (held : SchemaLists) (zones : List ZoneSpec) (points : ℕ) (r : Range) where
  pub serving_opened : (history : List RangeEntry) → spec.IsLegal held zones points r history → (replica : SlotLeaf)
      → Contains (serving history) replica → IsOpenedAt history replica
  serving_opened history legal replica there =
      let numbers = numbered held zones points r history legal in
      opened_at 0 history replica
      (from_numbered 0 (opened_slots history)
      (λ k one at. (let same : one.slot.0 ≡ k = numbers.numbered k one at in omega (arith, same))))
      (all_at (Contains (opened_slots history)) (serving history) replica numbers.among there)

  module _ (seen : Histories) (history : List RangeEntry) (legal : spec.IsLegal held zones points r history)
      (borne : IsHeldBy seen r history) (replica : SlotLeaf) (there : Contains (serving history) replica)
      (formed : IsWellFormed (leaf_history seen replica.leaf)) where
    abbrev pub own : List Entry
    own = leaf_history seen replica.leaf

    pub at : IsOpenedAt history replica
    at = serving_opened history legal replica there

    abbrev opening : RangeEntry
    opening = range_entry.Opened at.pass replica.slot replica.leaf

    front_is : (before more : List RangeEntry) (e : RangeEntry) → take (length before) (before ++ e ∷ more) ≡ before
    front_is [] more e = refl
    front_is (x ∷ before) more e = ap (λ xs. x ∷ xs) (front_is before more e)

    place_is : (before more : List RangeEntry) (e : RangeEntry) → slice_get (before ++ e ∷ more) (length before) ≡ Some e
    place_is [] more e = refl
    place_is (x ∷ before) more e = place_is before more e

    -- the replica began with what was left then
    pub began : first_rows r replica.slot own ≡ left_rows at.before
    began =
        let here : slice_get history (length at.before) ≡ Some opening =
        ap (λ xs. slice_get xs (length at.before)) at.parts ∙ place_is at.before at.more opening in
        let out = borne.borne_out (length at.before) opening here in
        first_rows_are r replica.slot own formed out.pass (left_rows (take (length at.before) history)) out.entered
        ∙ ap left_rows (ap (take (length at.before)) at.parts ∙ front_is at.before at.more opening)

    pub since : turns_since replica.slot history ≡ range_turns at.more
    since = ap (turns_since replica.slot) at.parts
        ∙ since_opened replica.slot at.pass replica at.before at.more refl at.fresh

    left_split : left_rows history ≡ after_turns (left_rows at.before) (turns_since replica.slot history)
    left_split = ap left_rows at.parts ∙ left_on at.before (opening ∷ at.more)
        ∙ ap (after_turns (left_rows at.before)) (sym since)

    acked_split : acknowledged_rows history
        ≡ added_rows (range_turns at.before) ++ added_rows (turns_since replica.slot history)
    acked_split = acknowledged_added history
        ∙ ap (λ xs. added_rows (range_turns xs)) at.parts
        ∙ ap added_rows (range_turns-append at.before (opening ∷ at.more))
        ∙ added_rows-append (range_turns at.before) (range_turns at.more)
        ∙ ap (λ turns. added_rows (range_turns at.before) ++ added_rows turns) (sym since)

    module _ (same : replica_turns r replica.slot own ≡ turns_since replica.slot history) where
      -- where it has just the turns since it was opened, it keeps what is left of the range
      pub kept_is_left : kept_rows r replica.slot own ≡ left_rows history
      kept_is_left =
          (λ i. after_turns (began i) (same i)) ∙ sym left_split

      -- and then its rows go on as the acknowledged ones do
      pub goes_on_with : (more : List Row) → IsSource (acknowledged_rows history ++ more)
          → IsSource (replica_rows r replica.slot own ++ more)
      goes_on_with more source =
          let turns = turns_since replica.slot history in
          let bare : added_rows (range_turns at.before) ++ (added_rows turns ++ more)
          ≡ acknowledged_rows history ++ more =
          sym (append_assoc (added_rows (range_turns at.before)) (added_rows turns) more)
          ∙ ap (λ xs. xs ++ more) (sym acked_split) in
          let stands : IsSource (left_rows at.before ++ (added_rows turns ++ more)) =
          standing_source (range_turns at.before) [] (added_rows turns ++ more) (subst IsSource (sym bare) source) in
          let rows : replica_rows r replica.slot own ++ more ≡ left_rows at.before ++ (added_rows turns ++ more) =
          ap (λ xs. xs ++ more) ((in_turn r replica.slot own formed).rows
          ∙ (λ i. began i ++ added_rows (same i)))
          ∙ append_assoc (left_rows at.before) (added_rows turns) more in
          subst IsSource (sym rows) stands
