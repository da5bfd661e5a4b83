-- A new weave is as a core in which nobody is declared.
use Rattle.std.proofs.Common.{◌≡◌, ◌∙◌, ◌<◌, ◌≤◌, ◌+◌, ℕ, suc, zero, Bool, true, false, cond, ◌||◌, ◌&&◌, Option, Some}
use Rattle.std.proofs.Common.{None, List, [], ◌∷◌, ◌++◌, length, replicate, refl, sym, ap, subst, arith, slice_get}
use Rattle.std.proofs.Common.{inl, inr, nat_eq}
use Rattle.std.specs.Prelude.{Contains, pos}
use Rattle.std.specs.List.{flat_map, range_with_len, AllByRecursion as All}
use Rattle.std.proofs.lemmas.Bool.{cases_eq, cases_lt, eq-eqb, ne_eqb, or_parts}
use Rattle.std.proofs.lemmas.List.{get_or_past, length-replicate}
use Rattle.mon_config.specs.declared.config.Config.{Config}
use Rattle.mon_hints.specs.Formulas.{is_among}
use Rattle.mon_hints.specs.Hints.{rows_buckets}
use Rattle.mon_topo.proofs.RangeHistoryLemmas.{all_at}
use Rattle.mon_value.specs.Histories.{leaf_history, range_history, leaf_numbered, range_numbered, same_leaf}
use Rattle.mon_topo.specs.RangeHistories.{opened_slots, serving, serving_after, turns_since}
use Rattle.mon_topo.specs.Zones.{first_replicas, leaves_in, leaves_named, no_range}
use Rattle.mon_topo.specs.Zones.{ranges_in}
use Rattle.mon_topo.specs.declared.zones.RangeSpec.{RangeSpec}
use Rattle.mon_topo.specs.declared.zones.ZoneSpec.{ZoneSpec}
use Rattle.mon_value.proofs.LeafHistoryLemmas.{opened_more}
use Rattle.mon_value.specs.LeafHistories.{entry_turns, is_opened, leaf_rows, replica_turns}
use Rattle.mon_value.specs.declared.histories.Entry.{Entry}
use Rattle.mon_value.specs.declared.histories.RangeEntry.{RangeEntry}
use Rattle.mon_value.specs.declared.positions.Leaf.{Leaf}
use Rattle.mon_value.specs.declared.positions.Range.{Range}
use Rattle.mon_value.specs.declared.positions.Slot.{Slot}
use Rattle.mon_value.specs.declared.positions.SlotLeaf.{SlotLeaf}
use Rattle.mon_value.specs.declared.rows.Row.{Row}
use Rattle.typed_trees.specs.declared.levels.Level.TheVariants as level
use Rattle.typed_trees.specs.declared.nodes.Node.TheVariants as node
use Rattle.typed_trees.specs.declared.plans.Plan.{Plan}
use Rattle.query_core.specs.Machine.{new_query}
use Rattle.query_traces.specs.Rounds.{QuerySetting}
use Rattle.write_core.specs.Deeds.{IsUnused, acks_by, puts_by}
use Rattle.write_core.specs.Invariant.{IsRangeSettled}
use Rattle.mon_topo.specs.Views.{IsSound}
use Rattle.core_theory.proofs.CoreLemmas.{new_woven}
use Rattle.mon_topo.proofs.FirstLemmas as begun
use Rattle.mon_topo.proofs.FirstLemmas.{HasNoRow, opened_count}
use Rattle.weave_core.specs.ActorAgreements.{IsActorSo, actor_numbered}
use Rattle.core_store.specs.Agreements.{AreShared, IsServed, first_view}
use Rattle.core_theory.specs.Core.{Reader}
use Rattle.mon_topo.specs.HeldHistories.{first_histories, opened_here, opened_of, opening, openings_from, slot_numbered}
use Rattle.core_theory.specs.Licensed.{IsNewCore}
use Rattle.core_store.specs.Openings.{first_world}
use Rattle.weave_core.specs.Schedules.{IsFirstState}
use Rattle.weave_core.specs.States.{State, Undeclared}
use Rattle.core_store.specs.Agreements.{store_of}
use Rattle.weave_core.specs.WeaveCalls.{BeginsSo}
use Rattle.weave_core.specs.declared.actors.Actor.{Actor}
use Rattle.schedule_lines.specs.declared.limits.TheConstants.{LAST_ACTOR}
use Rattle.weave_core.specs.declared.weave.Weave.{Weave}

-- ---- entries without rows

no_puts : (pass : ℕ) (history : List Entry) → All HasNoRow history → puts_by pass history ≡ []
no_puts pass [] h = refl
no_puts pass (e ∷ history) h =
    ap (λ (x : Entry). puts_by pass (x ∷ history)) h.0.is ∙ no_puts pass history h.1

no_acks_by : (pass slot : ℕ) (leaves : List Leaf) → acks_by pass (openings_from slot leaves) ≡ []
no_acks_by pass slot [] = refl
no_acks_by pass slot (leaf ∷ leaves) = no_acks_by pass (slot + 1) leaves

no_own_turns : (range : Range) (slot : Slot) (history : List Entry) → All HasNoRow history → replica_turns range slot
    history ≡ []
no_own_turns range slot [] h = refl
no_own_turns range slot (e ∷ history) h =
    ap (λ (x : Entry). entry_turns range slot x ++ replica_turns range slot history) h.0.is
    ∙ no_own_turns range slot history h.1

-- ---- what is opened

none_each : (range : Range) (slot : Slot) (history : List Entry) → is_opened range slot history ≡ false
    → All (λ (e : Entry). is_opened range slot (e ∷ []) ≡ false) history
none_each range slot [] is = tt
none_each range slot (e ∷ history) is =
    let both = or_parts (is_opened range slot (e ∷ [])) (is_opened range slot history)
    (sym (opened_more range slot (e ∷ []) history) ∙ is) in (both.0, none_each range slot history both.1)

same_itself : (range : Range) (k : ℕ) → is_opened range (slot_numbered k) (opening range k ∷ []) ≡ true
same_itself range k =
    ap (λ (b : Bool). (b && nat_eq k k) || false) (eq-eqb range.0 range.0 refl)
    ∙ ap (λ (b : Bool). b || false) (eq-eqb k k refl)

opened_in : (range : Range) (k : ℕ) (history : List Entry) → Contains history (opening range k)
    → is_opened range (slot_numbered k) history ≡ true
opened_in range k history there = by (is_opened range (slot_numbered k) history) refl
  where
    by : (b : Bool) → is_opened range (slot_numbered k) history ≡ b → b ≡ true
    by true is = refl
    by false is =
        sym (all_at (λ (e : Entry). is_opened range (slot_numbered k) (e ∷ []) ≡ false) history (opening range k)
        (none_each range (slot_numbered k) history is) there)
        ∙ same_itself range k

-- a slot that a range hasn't
module _ (range : Range) (slot : Slot) where
  apart_here : (r k : ℕ) → (range.0 ≡ r → suc k ≤ slot.0)
      → is_opened range slot (opening (range_numbered r) k ∷ []) ≡ false
  apart_here r k above = elim (cases_eq range.0 r) [
    | inl same ↦ ap (λ (b : Bool). (nat_eq range.0 r && b) || false)
        (ne_eqb slot.0 k (λ e. let more = above same in absurd (omega (arith, more, e))))
        ∙ none (nat_eq range.0 r)
    | inr differ ↦ ap (λ (b : Bool). (b && nat_eq slot.0 k) || false) (ne_eqb range.0 r differ)
  ]
    where
      none : (b : Bool) → ((b && false) || false) ≡ false
      none true = refl
      none false = refl

  one_apart : (b : Bool) (r k : ℕ) → (range.0 ≡ r → suc k ≤ slot.0)
      → is_opened range slot (cond b (opening (range_numbered r) k ∷ []) []) ≡ false
  one_apart true r k above = apart_here r k above
  one_apart false r k above = refl

  range_apart : (leaf : Leaf) (r k : ℕ) (leaves : List Leaf) → (range.0 ≡ r → k + length leaves ≤ slot.0)
      → is_opened range slot (opened_here leaf (range_numbered r) k leaves) ≡ false
  range_apart leaf r k [] above = refl
  range_apart leaf r k (other ∷ leaves) above =
      opened_more range slot (cond (same_leaf leaf other) (opening (range_numbered r) k ∷ []) [])
      (opened_here leaf (range_numbered r) (k + 1) leaves)
      ∙ ap (λ (b : Bool). b || is_opened range slot (opened_here leaf (range_numbered r) (k + 1) leaves))
      (one_apart (same_leaf leaf other) r k (λ e. let most = above e in omega (arith, most)))
      ∙ range_apart leaf r (k + 1) leaves (λ e. let most = above e in omega (arith, most))

  ranges_apart : (zones : List ZoneSpec) (leaf : Leaf) (from count : ℕ) → length (first_replicas zones range.0) ≤ slot.0
      → is_opened range slot (flat_map (opened_of zones leaf) (range_with_len from count)) ≡ false
  ranges_apart zones leaf from zero above = refl
  ranges_apart zones leaf from (suc count) above =
      opened_more range slot (opened_of zones leaf from) (flat_map (opened_of zones leaf)
      (range_with_len (from + 1) count))
      ∙ ap (λ (b : Bool). b || is_opened range slot (flat_map (opened_of zones leaf) (range_with_len (from + 1) count)))
      (range_apart leaf from 0 (first_replicas zones from)
      (λ e. let long : length (first_replicas zones range.0) ≡ length (first_replicas zones from)
      = ap (λ (r : ℕ). length (first_replicas zones r)) e in omega (arith, above, long)))
      ∙ ranges_apart zones leaf (from + 1) count above

-- ---- what a range has

-- a replica in its slot
record IsPlacedIn (firsts : List Leaf) (replica : SlotLeaf) : Type 0 where
  place : ℕ
  there : slice_get firsts place ≡ Some replica.leaf
  slot_is : replica.slot ≡ slot_numbered place

all_pushed : {X : Type 0} (P : X → Type 0) (xs : List X) (x : X) → All P xs → P x → All P (xs ++ x ∷ [])
all_pushed P [] x all here = (here, tt)
all_pushed P (y ∷ xs) x all here = (all.0, all_pushed P xs x all.1 here)

all_serve : (firsts : List Leaf) (slot : ℕ) (leaves : List Leaf) (base : List SlotLeaf)
    → ((k : ℕ) (leaf : Leaf) → slice_get leaves k ≡ Some leaf → slice_get firsts (slot + k) ≡ Some leaf)
    → All (IsPlacedIn firsts) base → All (IsPlacedIn firsts) (serving_after base (openings_from slot leaves))
all_serve firsts slot [] base at all = all
all_serve firsts slot (leaf ∷ leaves) base at all =
    let none : slot + 0 ≡ slot = omega arith in
    all_serve firsts (slot + 1) leaves (base ++ record { slot = slot_numbered slot; leaf = leaf } ∷ [])
    (λ k other is.
    let next : slot + suc k ≡ (slot + 1) + k = omega arith in
    sym (ap (λ (n : ℕ). slice_get firsts n) next) ∙ at (suc k) other is)
    (all_pushed (IsPlacedIn firsts) base (record { slot = slot_numbered slot; leaf = leaf }) all
    (record {
      place = slot;
      there = sym (ap (λ (n : ℕ). slice_get firsts n) none) ∙ at zero leaf refl;
      slot_is =
          refl;
    }))

first_none : (zones : List ZoneSpec) (r : ℕ) → length (ranges_in zones) ≤ r → length (first_replicas zones r) ≡ 0
first_none zones r past =
    ap (λ (range : RangeSpec). length (leaves_named zones range.leaves)) (get_or_past (ranges_in zones) r no_range past)

-- ---- the first world

module _ (config : Config) (served : IsServed config) where
  abbrev seen_leaf : Leaf → List Entry
  seen_leaf leaf = leaf_history (first_histories config.topology) leaf

  abbrev seen_range : Range → List RangeEntry
  seen_range range = range_history (first_histories config.topology) range

  abbrev firsts_of : Range → List Leaf
  firsts_of range = first_replicas config.topology range.0

  is_past : (range : Range) → length (ranges_in config.topology) ≤ range.0 → seen_range range ≡ []
  is_past range past =
      let many = begun.range_count config.topology in
      get_or_past (first_histories config.topology).ranges range.0 [] (omega (arith, past, many))

  leaf_past : (leaf : Leaf) → length (leaves_in config.topology) ≤ leaf.0 → seen_leaf leaf ≡ []
  leaf_past leaf past =
      let many = begun.leaf_count config.topology in
      get_or_past (first_histories config.topology).leaves leaf.0 [] (omega (arith, past, many))

  no_turns : (range : Range) (slot : Slot) → turns_since slot (seen_range range) ≡ []
  no_turns range slot = elim (cases_lt range.0 (length (ranges_in config.topology))) [
    | inl h ↦ ap (λ (l : List RangeEntry). turns_since slot l) (begun.range_is config.topology range h)
        ∙ begun.no_turns_since slot 0 (firsts_of range)
    | inr past ↦ ap (λ (l : List RangeEntry). turns_since slot l) (is_past range (omega (arith, past)))
  ]

  no_acks_of : (pass : ℕ) (range : Range) → acks_by pass (seen_range range) ≡ []
  no_acks_of pass range = elim (cases_lt range.0 (length (ranges_in config.topology))) [
    | inl h ↦ ap (λ (l : List RangeEntry). acks_by pass l) (begun.range_is config.topology range h)
        ∙ no_acks_by pass 0 (firsts_of range)
    | inr past ↦ ap (λ (l : List RangeEntry). acks_by pass l) (is_past range (omega (arith, past)))
  ]

  opened_first : (range : Range) (replica : SlotLeaf) → range.0 < length (ranges_in config.topology)
      → Contains (serving (seen_range range)) replica → is_opened range replica.slot (seen_leaf replica.leaf) ≡ true
  opened_first range replica h serves =
      let own : Contains (serving (openings_from 0 (firsts_of range))) replica
      = subst (λ (l : List RangeEntry). Contains (serving l) replica) (begun.range_is config.topology range h) serves in
      let at = all_at (IsPlacedIn (firsts_of range)) (serving (openings_from 0 (firsts_of range))) replica
      (all_serve (firsts_of range) 0 (firsts_of range) [] (λ k leaf is.
      let same : k ≡ 0 + k = omega arith in sym (ap (λ (n : ℕ). slice_get (firsts_of range) n) same) ∙ is) tt) own in
      subst (λ (s : Slot). is_opened range s (seen_leaf replica.leaf) ≡ true) (sym at.slot_is)
      (opened_in range at.place (seen_leaf replica.leaf)
      (begun.opened_there config.topology range h (served.replicas range.0 h) replica.leaf at.place at.there))

  nothing : {X : Type 0} (x : X) → Contains [] x → ⊥
  nothing x there = let l : there.0 < 0 = there.1 in absurd (omega (arith, l))

  opened_serving : (range : Range) (replica : SlotLeaf) → Contains (serving (seen_range range)) replica
      → is_opened range replica.slot (seen_leaf replica.leaf) ≡ true
  opened_serving range replica serves = elim (cases_lt range.0 (length (ranges_in config.topology))) [
    | inl h ↦ opened_first range replica h serves
    | inr past ↦ absurd (nothing replica
        (subst (λ (l : List RangeEntry). Contains (serving l) replica) (is_past range (omega (arith, past))) serves))
  ]

  leaf_apart : (range : Range) (slot : Slot) (leaf : Leaf) → length (firsts_of range) ≤ slot.0
      → is_opened range slot (seen_leaf leaf) ≡ false
  leaf_apart range slot leaf above = elim (cases_lt leaf.0 (length (leaves_in config.topology))) [
    | inl h ↦ ap (λ (l : List Entry). is_opened range slot l) (begun.leaf_is config.topology leaf h)
        ∙ ranges_apart range slot config.topology (leaf_numbered leaf.0) 0 (length (ranges_in config.topology)) above
    | inr past ↦ ap (λ (l : List Entry). is_opened range slot l) (leaf_past leaf (omega (arith, past)))
  ]

  never_opened : (range : Range) (slot : Slot) (leaf : Leaf) → length (ranges_in config.topology) ≤ range.0
      → is_opened range slot (seen_leaf leaf) ≡ false
  never_opened range slot leaf past = leaf_apart range slot leaf
      (let none = first_none config.topology range.0 past in omega (arith, none))

  fresh_from : (range : Range) (slot : Slot) (leaf : Leaf) → length (opened_slots (seen_range range)) ≤ slot.0
      → is_opened range slot (seen_leaf leaf) ≡ false
  fresh_from range slot leaf above = elim (cases_lt range.0 (length (ranges_in config.topology))) [
    | inl h ↦ leaf_apart range slot leaf
        (let many : length (opened_slots (seen_range range)) ≡ length (firsts_of range)
        = ap (λ (l : List RangeEntry). length (opened_slots l)) (begun.range_is config.topology range h)
        ∙ opened_count 0 (firsts_of range) in omega (arith, above, many))
    | inr past ↦ never_opened range slot leaf (omega (arith, past))
  ]

  settled : (range : Range) → IsRangeSettled (first_view config) range
  settled range = record {
    rows = λ replica serves. record {
      opened = opened_serving range replica serves;
      all = no_own_turns range replica.slot (seen_leaf replica.leaf) (begun.leaf_bare config.topology replica.leaf)
          ∙ sym (no_turns range replica.slot);
    };
    fresh = λ slot leaf above. fresh_from range slot leaf above;
  }

  none_among : (bucket : ℕ) (rows : List Row) → rows ≡ []
      → is_among bucket (rows_buckets (store_of config).buckets_of rows) ≡ false
  none_among bucket rows e = ap (λ (l : List Row). is_among bucket (rows_buckets (store_of config).buckets_of l)) e

  sound : IsSound (store_of config) (first_view config)
  sound = record {
    held = begun.first_held config.topology config.schemas config.range_points (λ range h. served.replicas range.0 h);
    covered = λ leaf bucket among.
        let never : is_among bucket (rows_buckets (store_of config).buckets_of (leaf_rows (seen_leaf leaf))) ≡ false
        = none_among bucket (leaf_rows (seen_leaf leaf)) (begun.first_rows config.topology leaf) in
        absurd (let both : true ≡ false = sym among ∙ never in cc);
  }

  unused : (pass : ℕ) → IsUnused (first_view config) pass
  unused pass = record {
    puts = λ leaf. no_puts pass (seen_leaf leaf) (begun.leaf_bare config.topology leaf);
    acks = λ range. no_acks_of pass range;
  }

  -- ---- the first core

  abbrev no_plan : Plan
  no_plan = record {
    typed = record {
      tree = node.Fetch (record { at = None; columns = []; fixed = []; level = level.Leaf }) [] [];
      every = pos 0;
      within = pos 0;
    };
    formulas = [];
    buckets = [];
  }

  abbrev no_setting : QuerySetting
  no_setting = record { plan = no_plan; areas = []; limit = 0 }

  abbrev first_reader : Reader (store_of config)
  first_reader = record {
    setting = no_setting;
    moment = pos 0;
    first = new_query no_setting;
    begin = first_view config;
    session = [];
    view = first_view config;
  }

  abbrev first_state : State (store_of config)
  first_state = record {
    core = record { world = first_world config; readers = λ i. first_reader };
    roles = λ k. Undeclared;
  }

  new_core : IsNewCore (store_of config) first_state.core
  new_core = record {
    world = record {
      sound = sound;
      settled = settled;
      leaves = λ leaf. refl;
      ranges = λ range. refl;
      actors = λ i. record { view = refl; unused = unused i };
      passes = λ i j same. same;
    };
    readers = λ i. record { begin = refl; session = refl; view = refl };
  }

  is_first : IsFirstState config first_state
  is_first = record {
    new = new_core;
    seen = refl;
    no_root_bit = λ zone bucket. refl;
    no_zone_bit = λ leaf bucket. refl;
    no_leaf_held = λ leaf. refl;
    no_range_held = λ range. refl;
    stand = λ k. refl;
    no_note = λ k. refl;
    roles = λ k. refl;
  }

-- ---- actors

none_numbered : (count i : ℕ) → actor_numbered (replicate count None) i ≡ None
none_numbered zero zero = refl
none_numbered zero (suc i) = refl
none_numbered (suc count) zero = refl
none_numbered (suc count) (suc i) = none_numbered count i

pub begins : (config : Config) (weave : Weave) → AreShared config (first_world config) weave.store
    → weave.actors.items ≡ replicate (LAST_ACTOR + 1) None → BeginsSo config weave
begins config weave shared none = record {
  state = first_state config shared.served;
  first = is_first config shared.served;
  agrees = record {
    woven = new_woven (store_of config) (first_state config shared.served).core (new_core config shared.served);
    holders = record { range = λ range j is. absurd cc; leaf = λ leaf j is. absurd cc };
    shared = shared;
    actors = record {
      count = ap (λ (l : List (Option Actor)). length l) none ∙ length-replicate {A = Option Actor} (LAST_ACTOR + 1)
          None;
      each = λ i. subst (λ (o : Option Actor). IsActorSo config i ((first_world config).actors i)
          (first_reader config shared.served) Undeclared o)
          (sym (ap (λ (l : List (Option Actor)). actor_numbered l i) none ∙ none_numbered (LAST_ACTOR + 1) i)) refl;
    };
  };
}
