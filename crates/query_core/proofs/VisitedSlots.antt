-- The slots that resolved to a leaf can be read together at its visit.
use Rattle.std.proofs.Common.{◌≡◌, ◌∙◌, ℕ, Bool, true, false, cond, Some, List, [], ◌∷◌, length, map, filter}
use Rattle.std.proofs.Common.{nat_eq, take, sym, ap, subst, refl, arith}
use Rattle.std.specs.List.{AllByRecursion}
use Rattle.mixer.proofs.ApartTargets as apart_targets
use Rattle.mon_meaning.specs.ReadableSlots.{AreApart, ShareNoTarget, CanBeRead, slot_rows}
use Rattle.mon_schema.specs.Fits.{fits}
use Rattle.mon_topo.proofs.RangeHistoryLemmas.{all_from}
use Rattle.mon_value.specs.Histories.{leaf_history, same_leaf}
use Rattle.mon_value.specs.declared.histories.Histories.{Histories}
use Rattle.mon_topo.specs.HeldHistories.{AreAtHome, AreHeld, IsAtHome, AreWithin}
use Rattle.mon_topo.specs.Locations.{range_for}
use Rattle.mon_topo.specs.Settings.{Setting}
use Rattle.mon_value.specs.LeafHistories.{is_opened, kept_rows}
use Rattle.mon_value.specs.declared.histories.Entry.{Entry}
use Rattle.mon_value.specs.declared.positions.Leaf.{Leaf}
use Rattle.mon_value.specs.declared.positions.Range.{Range}
use Rattle.mon_value.specs.declared.positions.RangeSlot.{RangeSlot}
use Rattle.mon_value.specs.declared.rows.Row.{Row}
use Rattle.typed_rows.proofs.JoinedRows.{all-map}
use Rattle.typed_rows.proofs.KeptRows.{all-filter, all-take}
use Rattle.query_traces.specs.Askings.{IsAskedOf}
use Rattle.query_traces.specs.declared.answers.Resolved.{Resolved}
use Rattle.query_traces.specs.declared.looks.Look.{Look}
use Rattle.query_traces.specs.Rounds.{typed_of, slot_of, slots_on, QuerySetting}
use Rattle.query_traces.specs.Traces.{IsBetween}
use Rattle.query_core.proofs.DividedRows.{AreOthers, IsOther}
use Rattle.query_traces.proofs.Spans.{IsLookedAt, StandsAt, StandsIn, look_at, stands_on, up_to}
use Rattle.query_core.proofs.TraceRows.{kept_at_home, typed_for}
use Rattle.query_core.proofs.TraceVisits.{fronts_begin}
use Rattle.query_traces.proofs.LeafLemmas.{same_leaves}
use Rattle.mon_value.proofs.PlainLemmas.{equal_itself, all_flat}

-- ---- ranges that differ share no target

module _ (store : Setting) (a b : Range) (apart : nat_eq a.0 b.0 ≡ false) where
  abbrev LiesIn : Range → Row → Type 0
  LiesIn = IsAtHome store.held store.zones

  ranges_apart : (row other : Row) → other.key.target ≡ row.key.target → LiesIn a row → LiesIn b other → ⊥
  ranges_apart row other alike here there =
      let both : Some b ≡ Some a = sym there.1 ∙ ap (range_for store.held store.zones) alike ∙ here.1 in
      let range : b ≡ a = cc in
      let test : nat_eq a.0 b.0 ≡ true = ap (λ (r : Range). nat_eq a.0 r.0) range ∙ equal_itself a.0 in
      cc

  no_targets : (rows others : List Row) → AllByRecursion (LiesIn a) rows → AllByRecursion (LiesIn b) others
      → ShareNoTarget rows others
  no_targets = apart_targets.no_targets (LiesIn a) (LiesIn b) ranges_apart

-- ---- slots of different ranges

others_by : (one : Resolved) (rest : List Resolved) (b : Bool) → AllByRecursion (IsOther one) rest → AreOthers rest
    → AreOthers (cond b (one ∷ rest) rest)
others_by one rest true first later = (first, later)
others_by one rest false first later = later

fewer_others : (test : Resolved → Bool) (some : List Resolved) → AreOthers some → AreOthers (filter test some)
fewer_others test [] others = tt
fewer_others test (one ∷ some) others =
    others_by one (filter test some) (test one) (all-filter (IsOther one) test some others.0)
    (fewer_others test some others.1)

module _ (store : Setting) (setting : QuerySetting) (asked : IsAskedOf store setting) (history : List Entry)
    (home : AllByRecursion (AreAtHome store.held store.zones) history) where
  abbrev own_rows : RangeSlot → List Row
  own_rows one = kept_rows one.range one.slot history

  own_home : (one : RangeSlot) → AllByRecursion (IsAtHome store.held store.zones one.range) (own_rows one)
  own_home one = kept_at_home store.held store.zones one.range one.slot history home

  apart_each : (one : Resolved) (some : List Resolved) → AllByRecursion (IsOther one) some
      → AllByRecursion (ShareNoTarget (own_rows (slot_of one))) (map own_rows (map slot_of some))
  apart_each one [] apart = tt
  apart_each one (other ∷ some) apart = (
    no_targets store one.range other.range apart.0 (own_rows (slot_of one)) (own_rows (slot_of other))
        (own_home (slot_of one)) (own_home (slot_of other)),
    apart_each one some apart.1,
  )

  slots_apart : (some : List Resolved) → AreOthers some → AreApart ShareNoTarget (map own_rows (map slot_of some))
  slots_apart [] others = tt
  slots_apart (one ∷ some) others = (apart_each one some others.0, slots_apart some others.1)

  slots_home : (slots : List RangeSlot)
      → AllByRecursion (λ (one : RangeSlot). AllByRecursion (λ row. fits store.held row ≡ true) (own_rows one)) slots
  slots_home [] = tt
  slots_home (one ∷ slots) = (
    all-map (IsAtHome store.held store.zones one.range) (λ row. fits store.held row ≡ true) (own_rows one)
        (λ row at. at.0) (own_home one),
    slots_home slots,
  )

  pub can_be_read : (leaf : Leaf) (resolved : List Resolved) → AreOthers resolved
      → AllByRecursion (λ (one : RangeSlot). is_opened one.range one.slot history ≡ true) (slots_on leaf resolved)
      → CanBeRead (typed_of setting) history (slots_on leaf resolved)
  can_be_read leaf resolved others opened = record {
    opened = opened;
    apart = slots_apart (filter (λ (one : Resolved). same_leaf one.leaf leaf) resolved)
        (fewer_others (λ (one : Resolved). same_leaf one.leaf leaf) resolved others);
    of = typed_for store setting asked (slot_rows history (slots_on leaf resolved))
        (all_flat (λ row. fits store.held row ≡ true) own_rows (slots_on leaf resolved)
        (slots_home (slots_on leaf resolved)));
  }

-- ---- each slot that resolved to the leaf was opened there

module _ (at_entry before after : Histories) (grown : AreWithin before after) (low : ℕ) (looks : List Look)
    (leaf : Leaf)
    (looked : IsLookedAt at_entry before leaf (look_at low looks leaf)) (cut : ℕ)
    (between : IsBetween (length (leaf_history before leaf)) (length (leaf_history after leaf)) cut) where
  abbrev IsOpened : RangeSlot → Type 0
  IsOpened one = is_opened one.range one.slot (take cut (leaf_history after leaf)) ≡ true

  opened_here : (one : Resolved) → one.leaf ≡ leaf → StandsAt at_entry before low looks one → IsOpened (slot_of one)
  opened_here one same stands =
      let look = look_at low looks leaf in
      let was : StandsIn at_entry before (up_to before leaf look) one =
      subst (λ (l : Leaf). StandsIn at_entry before (up_to before l (look_at low looks l)) one) same stands in
      (stands_on at_entry before (take cut (leaf_history after leaf)) (up_to before leaf look) one
      (fronts_begin (leaf_history after leaf) (leaf_history before leaf) look.cut cut (grown.leaves leaf) looked.to
      (omega (arith, looked.to, between.from))) was).opened

  opened_if : (one : Resolved) (rest : List Resolved) (b : Bool) → (b ≡ true → IsOpened (slot_of one))
      → AllByRecursion IsOpened (map slot_of rest) → AllByRecursion IsOpened (map slot_of (cond b (one ∷ rest) rest))
  opened_if one rest true own all = (own refl, all)
  opened_if one rest false own all = all

  pub all_opened : (resolved : List Resolved) → AllByRecursion (StandsAt at_entry before low looks) resolved
      → AllByRecursion IsOpened (slots_on leaf resolved)
  all_opened [] stand = tt
  all_opened (one ∷ resolved) stand =
      opened_if one (filter (λ (one : Resolved). same_leaf one.leaf leaf) resolved) (same_leaf one.leaf leaf)
      (λ same. opened_here one (same_leaves one.leaf leaf same) stand.0) (all_opened resolved stand.1)

-- the leaf's history up to a cut
pub front_home : (store : Setting) (seen : Histories) → AreHeld store.held store.zones store.points seen → (leaf : Leaf)
    (cut : ℕ) → AllByRecursion (AreAtHome store.held store.zones) (take cut (leaf_history seen leaf))
front_home store seen held leaf cut =
    all-take (AreAtHome store.held store.zones) cut (leaf_history seen leaf)
    (all_from (AreAtHome store.held store.zones) (leaf_history seen leaf) (held.at_home leaf))
