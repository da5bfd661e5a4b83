-- A replica may be opened on a leaf, and then told to its range.
use Rattle.std.proofs.Common.{◌≡◌, ◌≢◌, ℕ, ◌+◌, ◌<◌, ◌≤◌, Bool, true, false, cond, ◌||◌, ◌&&◌, nat_eq, nat_lt, List, []}
use Rattle.std.proofs.Common.{◌∷◌, ◌++◌, length, filter, slice_get, refl, sym, ap, subst, ◌∙◌, arith, inl, inr, ◌⊎◌}
use Rattle.std.proofs.Common.{Some, None, append-nil, length-append}
use Rattle.std.specs.Prelude.{Contains, Option, option_map}
use Rattle.std.specs.List.{list_any}
use Rattle.std.proofs.lemmas.Bool.{cases_eq, ltb-true}
use Rattle.std.proofs.lemmas.Bool.Decides.{nat_tests}
use Rattle.std.proofs.lemmas.List.{take_at}
use Rattle.std.proofs.lemmas.List.Concat.{flat_map-append}
use Rattle.std.proofs.lemmas.List.Elements.{Contains-append_cases, Contains-push}
use Rattle.history_book.proofs.ListLemmas.{prefix_contains}
use Rattle.history_book.specs.Histories.{AreFronts}
use Rattle.history_book.specs.Seats.{hand_of, times_range}
use Rattle.history_book.specs.declared.views.Kept.{Kept}
use Rattle.know.specs.Knowledge.{Knowledge}
use Rattle.mon_topo.proofs.FrontLemmas.{begins-flat_map, begins_from}
use Rattle.mon_topo.proofs.HeldLemmas.{leaf_same, range_entry_held}
use Rattle.mon_topo.proofs.HeldSteps.{serving_since}
use Rattle.mon_topo.proofs.PartLemmas.{length-zones_of}
use Rattle.mon_topo.proofs.RangeHistoryLemmas.{all_at, all_from, numbered, slot_below}
use Rattle.mon_topo.proofs.TurnsSinceLemmas.{IsFresh, since_opened}
use Rattle.mon_topo.specs.HeldHistories.{AreHeld, BeginsWith, IsAtHome, IsBorneOut, with_range_entry}
use Rattle.mon_topo.specs.RangeHistories as range_spec
use Rattle.mon_topo.specs.RangeHistories.{is_on, left_rows, opened_slots, serving, turns_since}
use Rattle.mon_topo.specs.Settings.{Setting}
use Rattle.mon_topo.specs.Zones.{leaves_in}
use Rattle.mon_topo.specs.declared.limits.TheConstants.{MOST_REPLICAS, MOST_SLOTS}
use Rattle.mon_topo.specs.declared.zones.ZoneSpec.{ZoneSpec}
use Rattle.mon_value.proofs.LeafHistoryLemmas.{opened_more, parts_same}
use Rattle.mon_value.specs.Histories.{leaf_history, range_history}
use Rattle.mon_value.specs.LeafHistories.{entry_turns, is_opened, replica_turns, same_replica}
use Rattle.mon_value.specs.declared.histories.Entry.{Entry}
use Rattle.mon_value.specs.declared.histories.Entry.TheVariants as entry
use Rattle.mon_value.specs.declared.histories.Histories.{Histories}
use Rattle.mon_value.specs.declared.histories.RangeEntry.{RangeEntry}
use Rattle.mon_value.specs.declared.histories.RangeEntry.TheVariants as range_entry
use Rattle.mon_value.specs.declared.positions.Leaf.{Leaf}
use Rattle.mon_value.specs.declared.positions.Range.{Range}
use Rattle.mon_value.specs.declared.positions.Slot.{Slot}
use Rattle.mon_value.specs.declared.positions.SlotLeaf.{SlotLeaf}
use Rattle.mon_value.specs.declared.rows.Row.{Row}
use Rattle.mon_value.specs.Turns.{Turn}
use Rattle.owners.proofs.EntryLemmas.{same_opened, same_turns}
use Rattle.owners.specs.Calls.{HasCalled}
use Rattle.owners.specs.Openings.{MayOpen}
use Rattle.owners.specs.Puts.{number_or, pass_of}
use Rattle.range_cell.specs.Calls.{MayEnter}
use Rattle.range_cell.specs.Copying.{IsHolding}
use Rattle.range_cell.specs.Rest.{HasJust, HaveJust}
use Rattle.write_core.proofs.AckLemmas.{contains_one}
use Rattle.write_core.proofs.OpeningLemmas.{left_source, opened-opened, serving-opened}
use Rattle.write_core.specs.CopySteps.{next_slot}
use Rattle.write_core.specs.Recovering.{denial_of, denied_by}
use Rattle.write_core.specs.declared.copies.Denial.{Denial}
use Rattle.write_core.specs.declared.copies.Denial.TheVariants.{ServesFully, SlotsSpent}

-- ---- what stands in the way

none_by : (test : SlotLeaf → Bool) (x : SlotLeaf) (xs : List SlotLeaf) (b : Bool) → test x ≡ b
    → slice_get (cond b (x ∷ filter test xs) (filter test xs)) 0 ≡ None
    → (slice_get (filter test xs) 0 ≡ None → list_any test xs ≡ false) → (b || list_any test xs) ≡ false
none_by test x xs true is none rest = absurd cc
none_by test x xs false is none rest = rest none

-- where a filter keeps nothing, nothing passes
none_passes : (test : SlotLeaf → Bool) (xs : List SlotLeaf) → slice_get (filter test xs) 0 ≡ None
    → list_any test xs ≡ false
none_passes test [] none = refl
none_passes test (x ∷ xs) none =
    ap (λ b. b || list_any test xs) refl ∙ none_by test x xs (test x) refl none (none_passes test xs)

by_slots : (opened : ℕ) (b : Bool) → nat_lt opened MOST_SLOTS ≡ b
    → cond {A = Option Denial} b None (Some (SlotsSpent MOST_SLOTS)) ≡ None → b ≡ true
by_slots opened true is free = refl
by_slots opened false is free = absurd cc

by_serving : (serve opened : ℕ) (b : Bool) → nat_lt serve MOST_REPLICAS ≡ b
    → cond {A = Option Denial} b (cond (nat_lt opened MOST_SLOTS) None (Some (SlotsSpent MOST_SLOTS)))
    (Some ServesFully) ≡ None
    → (b ≡ true) × (nat_lt opened MOST_SLOTS ≡ true)
by_serving serve opened true is free = (refl, by_slots opened (nat_lt opened MOST_SLOTS) refl free)
by_serving serve opened false is free = absurd cc

by_first : (first : Option SlotLeaf) (serve opened : ℕ) → denied_by first serve opened ≡ None
    → (first ≡ None) × (nat_lt serve MOST_REPLICAS ≡ true) × (nat_lt opened MOST_SLOTS ≡ true)
by_first None serve opened free =
    let both = by_serving serve opened (nat_lt serve MOST_REPLICAS) refl free in
    (refl, both.0, both.1)
by_first (Some replica) serve opened free = absurd cc

-- who is not denied finds none on the leaf, fewer than three that serve and a slot that is left
pub record IsFree (history : List RangeEntry) (leaf : Leaf) : Type 0 where
  pub off : list_any (is_on leaf) (serving history) ≡ false
  pub few : length (serving history) < MOST_REPLICAS
  pub left : length (opened_slots history) < MOST_SLOTS

pub is_free : (history : List RangeEntry) (leaf : Leaf) → denial_of history leaf ≡ None → IsFree history leaf
is_free history leaf free =
    let parts = by_first (slice_get (filter (is_on leaf) (serving history)) 0) (length (serving history))
    (length (opened_slots history)) free in
    record {
      off = none_passes (is_on leaf) (serving history) parts.0;
      few = ltb-true (length (serving history)) MOST_REPLICAS parts.1;
      left = ltb-true (length (opened_slots history)) MOST_SLOTS parts.2;
    }

-- ---- on the leaf

module _ (setting : Setting) (range : Range) (leaf : Leaf) (history : List RangeEntry) (know : Knowledge)
    (holding : IsHolding setting range leaf history know) where
  abbrev slot : Slot
  slot = next_slot history

  there : leaf.0 < length (leaves_in setting.zones)
  there = subst (λ (n : ℕ). leaf.0 < n) (length-zones_of (λ (zone : ZoneSpec). zone.leaves) 0 setting.zones)
      holding.zoned.0

  pub may_open : (rows : List Row) → rows ≡ left_rows history → 0 < length (serving history)
      → MayOpen setting know leaf range slot rows
  may_open rows is some = record {
    there = there;
    number = holding.number;
    holds = holding.held;
    new = holding.just.fresh slot leaf (omega arith);
    home = λ row among. all_at (IsAtHome setting.held setting.zones range) (left_rows history) row
        (holding.home some)
        (subst (λ (xs : List Row). Contains xs row) is among);
    source = subst Rattle.mon_value.specs.LeafHistories.IsSource (sym is)
        (left_source setting.held setting.zones setting.points range history holding.legal);
  }

  -- ---- it was opened there

  module _ (found : List Entry) (opened : Knowledge)
      (called : HasCalled leaf found (entry.Opened (pass_of know) range slot (left_rows history) ∷ []) know opened)
    where
      abbrev brings : Entry
      brings = entry.Opened (pass_of know) range slot (left_rows history)

      abbrev replica : SlotLeaf
      replica = record { slot = slot; leaf = leaf }

      abbrev e : RangeEntry
      e = range_entry.Opened (pass_of know) slot leaf

      after : leaf_history opened.seen leaf ≡ found ++ brings ∷ []
      after = called.whole

      itself : (n m : ℕ) → (nat_eq n n && nat_eq m m) ≡ true
      itself n m = grind (arith, nat_tests)

      self_same : same_replica range slot range slot ≡ true
      self_same = itself range.0 slot.0

      other_slot : (place : Slot) → place.0 ≢ slot.0 → same_replica range place range slot ≡ false
      other_slot place apart = by (same_replica range place range slot) refl
        where
          by : (b : Bool) → same_replica range place range slot ≡ b → b ≡ false
          by true is = absurd (apart (ap (λ (s : Slot). s.0) (parts_same range range place slot is).1))
          by false is = refl

      -- no turn has come to it
      own_turns : replica_turns range slot (leaf_history opened.seen leaf) ≡ []
      own_turns =
          ap (replica_turns range slot) after
          ∙ flat_map-append (entry_turns range slot) found (brings ∷ [])
          ∙ append-nil (replica_turns range slot found)
          ∙ same_turns range slot found (leaf_history know.seen leaf) (called.here range holding.held)
          ∙ holding.bare

      or_true : (b : Bool) → (b || true) ≡ true
      or_true true = refl
      or_true false = refl

      own_opened : is_opened range slot (leaf_history opened.seen leaf) ≡ true
      own_opened =
          ap (is_opened range slot) after ∙ opened_more range slot found (brings ∷ [])
          ∙ ap (λ (b : Bool). is_opened range slot found || (b || false)) self_same ∙ or_true (is_opened range slot found)

      pub own_just : HasJust opened.seen range [] replica
      own_just = record { opened = own_opened; all = own_turns }

      -- a replica in another slot has what it had
      or_none : (b : Bool) → (b || false) ≡ b
      or_none true = refl
      or_none false = refl

      others_opened : (place : Slot) (at : Leaf) → place.0 ≢ slot.0
          → is_opened range place (leaf_history opened.seen at) ≡ is_opened range place (leaf_history know.seen at)
      others_opened place at apart = elim (cases_eq at.0 leaf.0) [
        | inl same ↦
            subst (λ (l : Leaf). is_opened range place (leaf_history opened.seen l)
            ≡ is_opened range place (leaf_history know.seen l)) (sym (leaf_same at leaf same))
            (ap (is_opened range place) after ∙ opened_more range place found (brings ∷ [])
            ∙ ap (λ (b : Bool). is_opened range place found || (b || false)) (other_slot place apart)
            ∙ or_none (is_opened range place found)
            ∙ same_opened range place found (leaf_history know.seen leaf) (called.here range holding.held))
        | inr away ↦ same_opened range place (leaf_history opened.seen at) (leaf_history know.seen at)
            (called.elsewhere range at holding.held away)
      ]

      others_turns : (place : Slot) (at : Leaf)
          → replica_turns range place (leaf_history opened.seen at) ≡ replica_turns range place (leaf_history know.seen at)
      others_turns place at = elim (cases_eq at.0 leaf.0) [
        | inl same ↦
            subst (λ (l : Leaf). replica_turns range place (leaf_history opened.seen l)
            ≡ replica_turns range place (leaf_history know.seen l)) (sym (leaf_same at leaf same))
            (ap (replica_turns range place) after ∙ flat_map-append (entry_turns range place) found (brings ∷ [])
            ∙ append-nil (replica_turns range place found)
            ∙ same_turns range place found (leaf_history know.seen leaf) (called.here range holding.held))
        | inr away ↦ same_turns range place (leaf_history opened.seen at) (leaf_history know.seen at)
            (called.elsewhere range at holding.held away)
      ]

      -- whoever served is opened, so it has another slot
      served_apart : (other : SlotLeaf) → Contains (serving history) other → other.slot.0 ≢ slot.0
      served_apart other among same =
          let place : other.slot ≡ slot = (λ i. record { 0 = same i }) in
          let was = (holding.just.turns other among).opened in
          let none = holding.just.fresh slot other.leaf (omega arith) in
          clash (is_opened range slot (leaf_history know.seen other.leaf))
          (subst (λ (s : Slot). is_opened range s (leaf_history know.seen other.leaf) ≡ true) place was) none
        where
          clash : (b : Bool) → b ≡ true → b ≡ false → ⊥
          clash true h k = cc
          clash false h k = cc

      -- nothing was acknowledged
      since : (other : SlotLeaf) → Contains (serving history) other
          → turns_since other.slot (history ++ e ∷ []) ≡ turns_since other.slot history
      since other among =
          serving_since setting.held setting.zones setting.points range know.seen history holding.legal other among e
          ∙ append-nil (turns_since other.slot history)

      no_such_slot : IsFresh slot history
      no_such_slot =
          all_from (λ (one : SlotLeaf). slot.0 ≢ one.slot.0) (opened_slots history)
          (λ one known same. (let below : one.slot.0 < length (opened_slots history) =
          slot_below history (numbered setting.held setting.zones setting.points range history holding.legal) one known in
          let own : length (opened_slots history) ≡ one.slot.0 = same in
          absurd (omega (arith, below, own))))

      none_since : turns_since slot (history ++ e ∷ []) ≡ []
      none_since = since_opened slot (pass_of know) replica history [] refl no_such_slot

      serve_then : serving (history ++ e ∷ []) ≡ serving history ++ replica ∷ []
      serve_then = serving-opened history (pass_of know) slot leaf

      just_by : (other : SlotLeaf) → Contains (serving history) other ⊎ Contains (replica ∷ []) other
          → HasJust opened.seen range (turns_since other.slot (history ++ e ∷ [])) other
      just_by other (inl before) =
          let was = holding.just.turns other before in
          record {
            opened = others_opened other.slot other.leaf (served_apart other before) ∙ was.opened;
            all = others_turns other.slot other.leaf ∙ was.all ∙ sym (since other before);
          }
      just_by other (inr here) =
          subst (λ (x : SlotLeaf). HasJust opened.seen range (turns_since x.slot (history ++ e ∷ [])) x)
          (contains_one replica other here)
          (subst (λ (turns : List Turn). HasJust opened.seen range turns replica) (sym none_since) own_just)

      just_then : (other : SlotLeaf) → Contains (serving (history ++ e ∷ [])) other
          → HasJust opened.seen range (turns_since other.slot (history ++ e ∷ [])) other
      just_then other among =
          just_by other (Contains-append_cases (serving history) (replica ∷ []) other
          (subst (λ (xs : List SlotLeaf). Contains xs other) serve_then among))

      count_then : length (opened_slots (history ++ e ∷ [])) ≡ length (opened_slots history) + 1
      count_then = ap length (opened-opened history (pass_of know) slot leaf)
          ∙ length-append (opened_slots history) (replica ∷ [])

      fresh_then : (place : Slot) (at : Leaf) → length (opened_slots (history ++ e ∷ [])) ≤ place.0
          → is_opened range place (leaf_history opened.seen at) ≡ false
      fresh_then place at past =
          others_opened place at (λ same. omega (arith, past, count_then, same))
          ∙ holding.just.fresh place at (omega (arith, past, count_then))

      pub just_opened : HaveJust opened.seen range (history ++ e ∷ [])
      just_opened = record {
        turns = just_then;
        fresh = fresh_then;
      }

      -- ---- the range may be told

      free : IsFree history leaf
      free = is_free history leaf holding.free

      may_follow : range_spec.MayFollow setting.held setting.zones setting.points range history e
      may_follow = (
        refl,
        free.left,
        (
          (λ under. absurd (let many = holding.begun in omega (arith, under, many))),
          (λ beyond. record { zoned = holding.zoned; free = free.off; few = free.few }),
        ),
      )

      module _ (seen : Histories) (up : AreFronts opened.seen seen) (whole : range_history seen range ≡ history)
          (here : range.0 < length seen.ranges) (held : AreHeld setting.held setting.zones setting.points seen) where
        keeps_turns : (other : SlotLeaf) → Contains (serving (history ++ e ∷ [])) other
            → BeginsWith (replica_turns range other.slot (leaf_history seen other.leaf))
            (turns_since other.slot (history ++ e ∷ []))
        keeps_turns other among =
            subst (λ (turns : List Turn). BeginsWith (replica_turns range other.slot (leaf_history seen other.leaf)) turns)
            (just_then other among).all
            (begins-flat_map (entry_turns range other.slot) (leaf_history seen other.leaf)
            (leaf_history opened.seen other.leaf)
            (begins_from (leaf_history seen other.leaf) (leaf_history opened.seen other.leaf) (up.0 other.leaf).0
            (sym (up.0 other.leaf).1)))

        borne : IsBorneOut seen range (history ++ e ∷ []) (length history) e
        borne = record {
          pass = pass_of know;
          entered = subst (λ (front : List RangeEntry). Contains (leaf_history seen leaf)
              (entry.Opened (pass_of know) range slot (left_rows front)))
              (sym (take_at history (e ∷ []) (length history) refl))
              (prefix_contains (leaf_history opened.seen leaf) (leaf_history seen leaf) brings (up.0 leaf)
              (subst (λ (h : List Entry). Contains h brings) (sym after) (Contains-push found brings)));
        }

        held_then : AreHeld setting.held setting.zones setting.points (with_range_entry range e seen)
        held_then =
            range_entry_held seen range e here setting.held setting.zones setting.points held
            (subst (λ (h : List RangeEntry). (other : SlotLeaf) → Contains (serving (h ++ e ∷ [])) other
            → BeginsWith (replica_turns range other.slot (leaf_history seen other.leaf))
            (turns_since other.slot (h ++ e ∷ [])))
            (sym whole) keeps_turns)
            (subst (λ (h : List RangeEntry). IsBorneOut seen range (h ++ e ∷ []) (length h) e) (sym whole) borne)
            (subst (λ (h : List RangeEntry). range_spec.MayFollow setting.held setting.zones setting.points range h e)
            (sym whole) may_follow)

      pub may_tell : MayEnter setting range history e opened
      may_tell = record { held = held_then; turns = just_opened }

      -- the caller still holds the range, under its number
      pub still_holds : 0 < times_range range opened.purse.holds
      still_holds = subst (λ xs. 0 < times_range range xs) (sym called.holds) holding.held

      number_in : (o : Option Kept)
          → option_map (λ (kept : Kept). kept.number)
          (option_map (Rattle.owners.specs.Calls.kept_with_all leaf (brings ∷ [])) o)
          ≡ option_map (λ (kept : Kept). kept.number) o
      number_in None = refl
      number_in (Some kept) = refl

      pub same_number : (hand_of opened.purse).own ≡ Some (pass_of know)
      same_number = ap (option_map (λ (kept : Kept). kept.number)) called.own ∙ number_in know.purse.own ∙ holding.number

      pub pass_then : pass_of opened ≡ pass_of know
      pass_then = ap (number_or 0) same_number
