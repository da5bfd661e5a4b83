-- Leaves that were switched, and replicas that were opened: a history has one entry for each.
use Rattle.std.proofs.Common.{◌≡◌, ℕ, zero, suc, ◌+◌, ◌<◌, ◌≤◌, nat_eq, ◌&&◌, Bool, true, false, cond, List, []}
use Rattle.std.proofs.Common.{◌∷◌, ◌++◌, length, map, filter, slice_get, Some, None, refl, sym, ap, ◌∙◌, subst, arith}
use Rattle.std.specs.List.{slice_index_or}
use Rattle.std.proofs.lemmas.Bool.{and_parts, false≢true, or_left, or_right}
use Rattle.std.proofs.lemmas.List.{length-append}
use Rattle.std.proofs.lemmas.List.Concat.{flat_map-append}
use mathlib.Core.List.{IsPrefix}
use Rattle.history_book.specs.Histories.{AreFronts, book_entry_pass, entries, same_history}
use Rattle.history_book.specs.declared.views.BookEntry.{BookEntry}
use Rattle.history_book.specs.declared.views.BookEntry.TheVariants as one
use Rattle.history_book.specs.declared.views.History.{History}
use Rattle.history_book.specs.declared.views.History.TheVariants as of
use Rattle.mon_config.specs.declared.config.Config.{Config}
use Rattle.mon_topo.specs.HeldHistories.{AreHeld}
use Rattle.mon_topo.specs.RangeHistories as range_spec
use Rattle.mon_topo.specs.RangeHistories.{opened_slot, opened_slots}
use Rattle.mon_value.proofs.LeafHistoryLemmas.{is_opened-append, ranges_same, same_replica-itself}
use Rattle.mon_value.proofs.PlainLemmas.{equal_means}
use Rattle.mon_value.specs.Histories.{leaf_history, range_history, same_leaf, same_range, same_slot}
use Rattle.mon_value.specs.LeafHistories as leaf_spec
use Rattle.mon_value.specs.LeafHistories.{is_opened, same_replica}
use Rattle.mon_value.specs.declared.histories.Entry.{Entry}
use Rattle.mon_value.specs.declared.histories.Entry.TheVariants as entry
use Rattle.mon_value.specs.declared.histories.Histories.{Histories}
use Rattle.mon_value.specs.declared.histories.RangeEntry.{RangeEntry}
use Rattle.mon_value.specs.declared.histories.RangeEntry.TheVariants as range_entry
use Rattle.mon_value.specs.declared.positions.Leaf.{Leaf}
use Rattle.mon_value.specs.declared.positions.Range.{Range}
use Rattle.mon_value.specs.declared.positions.Slot.{Slot}
use Rattle.mon_value.specs.declared.rows.Row.{Row}
use Rattle.mon_script.specs.declared.forms.LineForm.{LineForm}
use Rattle.run_theory.specs.Parts.{AreBelow, between}
use Rattle.run_theory.proofs.Stands.{kept_stands}
use Rattle.run_traces.specs.LineAsks.{Recovery, recovery_of, switch_of}
use Rattle.run_traces.specs.LineSwitches.{is_fed, IsRecoveredBetween, IsSwitchedBetween, StandsBetween, goes}
use Rattle.run_traces.specs.LineSwitches.{opens, recovers, switch_entry, switches}
use Rattle.run_traces.proofs.ListFacts.{no_item}
use Rattle.query_traces.proofs.LeafLemmas.{same_leaves}

-- ---- tests

abbrev slot_numbered : ℕ → Slot
slot_numbered n = record { 0 = n }

pub slots_same : (a b : Slot) → nat_eq a.0 b.0 ≡ true → a ≡ b
slots_same a b is = let number : a.0 ≡ b.0 = equal_means a.0 b.0 is in ap slot_numbered number

history_same : (leaf : Leaf) (h : History) → same_history (of.Leaf leaf) h ≡ true → of.Leaf leaf ≡ h
history_same leaf (of.Leaf other) is = ap (λ (l : Leaf). of.Leaf l) (same_leaves leaf other is)
history_same leaf (of.Range range) is = absurd (false≢true is)

-- ---- lists

module _ {X : Type 0} where
  pub get_mapped : {Y : Type 0} (f : X → Y) (xs : List X) (k : ℕ) (x : X) → slice_get xs k ≡ Some x
      → slice_get (map f xs) k ≡ Some (f x)
  get_mapped f [] k x there = absurd (no_item k x there)
  get_mapped f (y ∷ xs) zero x there = let same : y ≡ x = cc in ap (λ w. Some (f w)) same
  get_mapped f (y ∷ xs) (suc k) x there = get_mapped f xs k x there

  pub get_more : (xs rest : List X) (k : ℕ) (x : X) → slice_get xs k ≡ Some x → slice_get (xs ++ rest) k ≡ Some x
  get_more [] rest k x there = absurd (no_item k x there)
  get_more (y ∷ xs) rest zero x there = there
  get_more (y ∷ xs) rest (suc k) x there = get_more xs rest k x there

  pub get_front : (xs ys : List X) (k : ℕ) (x : X) → IsPrefix xs ys → slice_get xs k ≡ Some x → slice_get ys k ≡ Some x
  get_front xs ys k x front there = ap (λ w. slice_get w k) (sym front.1) ∙ get_more xs front.0 k x there

  some_index : (xss : List (List X)) (i k : ℕ) (x : X) → slice_get (slice_index_or xss i []) k ≡ Some x → i < length xss
  some_index [] zero k x there = absurd (no_item k x there)
  some_index [] (suc i) k x there = absurd (no_item k x there)
  some_index (xs ∷ xss) zero k x there = omega arith
  some_index (xs ∷ xss) (suc i) k x there = let l = some_index xss i k x there in omega arith

  at_place : (from to : ℕ) (xs : List X) (k : ℕ) (x : X) → slice_get xs k ≡ Some x → from ≤ k → k < to
      → (j : ℕ) × (from + j ≡ k) × (slice_get (between from to xs) j ≡ Some x)
  at_place from zero xs k x there low high = absurd (omega arith)
  at_place from (suc to) [] k x there low high = absurd (no_item k x there)
  at_place zero (suc to) (y ∷ xs) zero x there low high = (0, omega arith, there)
  at_place zero (suc to) (y ∷ xs) (suc k) x there low high =
      let at = at_place zero to xs k x there (omega arith) (omega arith) in
      let e : zero + at.0 ≡ k = at.1 in (suc at.0, omega arith, at.2)
  at_place (suc from) (suc to) (y ∷ xs) zero x there low high = absurd (omega arith)
  at_place (suc from) (suc to) (y ∷ xs) (suc k) x there low high =
      let at = at_place from to xs k x there (omega arith) (omega arith) in
      let e : from + at.0 ≡ k = at.1 in (at.0, omega arith, at.2)

  has_some : (xs : List X) (k : ℕ) (x : X) → slice_get xs k ≡ Some x → 0 < length xs
  has_some [] k x there = absurd (no_item k x there)
  has_some (y ∷ xs) k x there = omega arith

  few_rest : (b : Bool) (x : X) (xs : List X) → length (cond b (x ∷ xs) xs) ≤ 1 → length xs ≤ 1
  few_rest true x xs few = omega arith
  few_rest false x xs few = few

  none_rest : (b : Bool) (x : X) (xs : List X) → b ≡ true → length (cond b (x ∷ xs) xs) ≤ 1 → length xs ≤ 0
  none_rest true x xs is few = omega arith
  none_rest false x xs is few = absurd (false≢true is)

  no_other : (p : X → Bool) (x : X) (xs : List X) (k : ℕ) (y : X) → length (filter p (x ∷ xs)) ≤ 1 → p x ≡ true
      → slice_get xs k ≡ Some y → p y ≡ true → ⊥
  no_other p x xs k y few first there passes =
      let none = none_rest (p x) x (filter p xs) first few in
      let kept = kept_stands p xs k y there passes in
      let some = has_some (filter p xs) kept.0 y kept.1 in
      omega arith

  -- where one item of a list passes at most, it stands at one place
  lone_place : (p : X → Bool) (xs : List X) (j k : ℕ) (x y : X) → length (filter p xs) ≤ 1 → slice_get xs j ≡ Some x
      → p x ≡ true → slice_get xs k ≡ Some y → p y ≡ true → j ≡ k
  lone_place p [] j k x y few here first there second = absurd (no_item j x here)
  lone_place p (z ∷ xs) zero zero x y few here first there second = refl
  lone_place p (z ∷ xs) zero (suc k) x y few here first there second =
      let same : z ≡ x = cc in absurd (no_other p z xs k y few (ap p same ∙ first) there second)
  lone_place p (z ∷ xs) (suc j) zero x y few here first there second =
      let same : z ≡ y = cc in absurd (no_other p z xs j x few (ap p same ∙ second) here first)
  lone_place p (z ∷ xs) (suc j) (suc k) x y few here first there second =
      ap suc (lone_place p xs j k x y (few_rest (p z) z (filter p xs) few) here first there second)

  pub lone_between : (p : X → Bool) (from to : ℕ) (xs : List X) (j k : ℕ) (x y : X)
      → length (filter p (between from to xs)) ≤ 1 → slice_get xs j ≡ Some x → from ≤ j → j < to → p x ≡ true
      → slice_get xs k ≡ Some y → from ≤ k → k < to → p y ≡ true → j ≡ k
  lone_between p from to xs j k x y few here low high first there from_low to_high second =
      let a = at_place from to xs j x here low high in
      let b = at_place from to xs k y there from_low to_high in
      let same : a.0 ≡ b.0 = lone_place p (between from to xs) a.0 b.0 x y few a.2 first b.2 second in
      let first_is : from + a.0 ≡ j = a.1 in
      let second_is : from + b.0 ≡ k = b.1 in
      omega arith

  -- what stands in a list stands there still as the list goes on, between wider lengths
  abbrev pub stands_wider : (from to first last : ℕ) (xs ys : List X) (x : X) → first ≤ from → to ≤ last → IsPrefix xs ys
      → StandsBetween from to xs x → StandsBetween first last ys x
  stands_wider from to first last xs ys x low high goes_on stands = record {
    place = stands.place;
    since = let a = stands.since in omega arith;
    until = let a = stands.until in omega arith;
    there = ap (λ w. slice_get w stands.place) (sym goes_on.1)
        ∙ get_more xs goes_on.0 stands.place x stands.there;
  }

module _ (e : Entry) where
  pub leaf_there : (xs : List Entry) (k : ℕ) → slice_get (map (λ e. one.Leaf e) xs) k ≡ Some (one.Leaf e)
      → slice_get xs k ≡ Some e
  leaf_there [] k there = absurd (no_item k (one.Leaf e) there)
  leaf_there (x ∷ xs) zero there = let same : x ≡ e = cc in ap Some same
  leaf_there (x ∷ xs) (suc k) there = leaf_there xs k there

module _ (e : RangeEntry) where
  pub range_there : (xs : List RangeEntry) (k : ℕ) → slice_get (map (λ e. one.Range e) xs) k ≡ Some (one.Range e)
      → slice_get xs k ≡ Some e
  range_there [] k there = absurd (no_item k (one.Range e) there)
  range_there (x ∷ xs) zero there = let same : x ≡ e = cc in ap Some same
  range_there (x ∷ xs) (suc k) there = range_there xs k there

-- ---- a replica is opened once

module _ (range : Range) (slot : Slot) where
  abbrev opening : ℕ → List Row → Entry
  opening pass rows = entry.Opened pass range slot rows

  opened_here : (front : List Entry) (pass : ℕ) (rows : List Row)
      → is_opened range slot (front ++ opening pass rows ∷ []) ≡ true
  opened_here [] pass rows = or_left (same_replica range slot range slot) false (same_replica-itself range slot)
  opened_here (entry.Opened by other place held ∷ front) pass rows =
      or_right (same_replica range slot other place) _ (opened_here front pass rows)
  opened_here (entry.Put by other place row ∷ front) pass rows = opened_here front pass rows
  opened_here (entry.Trim by other place before ∷ front) pass rows = opened_here front pass rows
  opened_here (entry.Down by ∷ front) pass rows = opened_here front pass rows
  opened_here (entry.Up by ∷ front) pass rows = opened_here front pass rows

  -- not again behind its opening
  not_again : (front history : List Entry) (k pass : ℕ) (rows : List Row) → leaf_spec.GoesOn front history
      → is_opened range slot front ≡ true → slice_get history k ≡ Some (opening pass rows) → ⊥
  not_again front [] k pass rows formed was there = no_item k (opening pass rows) there
  not_again front (e ∷ history) zero pass rows formed was there =
      let same : e ≡ opening pass rows = cc in
      let may = subst (leaf_spec.MayFollow front) same formed.0 in
      false≢true (sym may.1 ∙ was)
  not_again front (e ∷ history) (suc k) pass rows formed was there =
      not_again (front ++ e ∷ []) history k pass rows formed.1 (is_opened-append range slot front (e ∷ []) was) there

  first_place : (front history : List Entry) (e : Entry) (k pass by : ℕ) (rows held : List Row)
      → e ≡ opening by held → leaf_spec.GoesOn (front ++ e ∷ []) history
      → slice_get history k ≡ Some (opening pass rows) → ⊥
  first_place front history e k pass by rows held same formed there =
      not_again (front ++ e ∷ []) history k pass rows formed
      (subst (λ w. is_opened range slot (front ++ w ∷ []) ≡ true) (sym same) (opened_here front by held)) there

  once_from : (front history : List Entry) (j k pass by : ℕ) (rows held : List Row)
      → leaf_spec.GoesOn front history → slice_get history j ≡ Some (opening pass rows)
      → slice_get history k ≡ Some (opening by held) → j ≡ k
  once_from front [] j k pass by rows held formed here there = absurd (no_item j (opening pass rows) here)
  once_from front (e ∷ history) zero zero pass by rows held formed here there = refl
  once_from front (e ∷ history) zero (suc k) pass by rows held formed here there =
      let same : e ≡ opening pass rows = cc in
      absurd (first_place front history e k by pass held rows same formed.1 there)
  once_from front (e ∷ history) (suc j) zero pass by rows held formed here there =
      let same : e ≡ opening by held = cc in
      absurd (first_place front history e j pass by rows held same formed.1 here)
  once_from front (e ∷ history) (suc j) (suc k) pass by rows held formed here there =
      ap suc (once_from (front ++ e ∷ []) history j k pass by rows held formed.1 here there)

module _ (config : Config) (range : Range) (slot : Slot) where
  abbrev Goes : List RangeEntry → List RangeEntry → Type 0
  Goes = range_spec.GoesOn config.schemas config.topology config.range_points range

  abbrev naming : ℕ → Leaf → RangeEntry
  naming pass leaf = range_entry.Opened pass slot leaf

  more_slots : (front : List RangeEntry) (e : RangeEntry)
      → length (opened_slots front) ≤ length (opened_slots (front ++ e ∷ []))
  more_slots front e =
      let both : length (opened_slots (front ++ e ∷ [])) ≡ length (opened_slots front) + length (opened_slots (e ∷ [])) =
      ap length (flat_map-append opened_slot front (e ∷ []))
      ∙ length-append (opened_slots front) (opened_slots (e ∷ [])) in
      omega arith

  one_slot_more : (front : List RangeEntry) (pass : ℕ) (leaf : Leaf)
      → length (opened_slots (front ++ naming pass leaf ∷ [])) ≡ length (opened_slots front) + 1
  one_slot_more front pass leaf =
      ap length (flat_map-append opened_slot front (naming pass leaf ∷ []))
      ∙ length-append (opened_slots front) (opened_slots (naming pass leaf ∷ []))

  slot_not_again : (front history : List RangeEntry) (k pass : ℕ) (leaf : Leaf) → Goes front history
      → slot.0 < length (opened_slots front) → slice_get history k ≡ Some (naming pass leaf) → ⊥
  slot_not_again front [] k pass leaf legal was there = no_item k (naming pass leaf) there
  slot_not_again front (e ∷ history) zero pass leaf legal was there =
      let same : e ≡ naming pass leaf = cc in
      let may = subst (range_spec.MayFollow config.schemas config.topology config.range_points range front) same
      legal.0 in
      let number : slot.0 ≡ length (opened_slots front) = may.0 in
      omega arith
  slot_not_again front (e ∷ history) (suc k) pass leaf legal was there =
      slot_not_again (front ++ e ∷ []) history k pass leaf legal.1 (let m = more_slots front e in omega arith) there

  slot_first : (front history : List RangeEntry) (e : RangeEntry) (k pass by : ℕ) (leaf on : Leaf) → e ≡ naming by on
      → Goes front (e ∷ history) → slice_get history k ≡ Some (naming pass leaf) → ⊥
  slot_first front history e k pass by leaf on same legal there =
      let may = subst (range_spec.MayFollow config.schemas config.topology config.range_points range front) same
      legal.0 in
      let number : slot.0 ≡ length (opened_slots front) = may.0 in
      let more : length (opened_slots (front ++ e ∷ [])) ≡ length (opened_slots front) + 1 =
      ap (λ w. length (opened_slots (front ++ w ∷ []))) same ∙ one_slot_more front by on in
      slot_not_again (front ++ e ∷ []) history k pass leaf legal.1 (omega arith) there

  slot_once : (front history : List RangeEntry) (j k pass by : ℕ) (leaf on : Leaf) → Goes front history
      → slice_get history j ≡ Some (naming pass leaf) → slice_get history k ≡ Some (naming by on) → j ≡ k
  slot_once front [] j k pass by leaf on legal here there = absurd (no_item j (naming pass leaf) here)
  slot_once front (e ∷ history) zero zero pass by leaf on legal here there = refl
  slot_once front (e ∷ history) zero (suc k) pass by leaf on legal here there =
      let same : e ≡ naming pass leaf = cc in
      absurd (slot_first front history e k by pass on leaf same legal there)
  slot_once front (e ∷ history) (suc j) zero pass by leaf on legal here there =
      let same : e ≡ naming by on = cc in
      absurd (slot_first front history e j pass by leaf on same legal here)
  slot_once front (e ∷ history) (suc j) (suc k) pass by leaf on legal here there =
      ap suc (slot_once (front ++ e ∷ []) history j k pass by leaf on legal.1 here there)

-- ---- entries that are told to be a line's stand where it ran

-- an entry stands between two marks, under a number
pub record IsTheirs (from to : History → ℕ) (number : ℕ) (h : History) (k : ℕ) (e : BookEntry) : Type 0 where
  pub low : from h ≤ k
  pub high : k < to h
  pub under : book_entry_pass e ≡ number

pub switch_pass : (down : Bool) (n : ℕ) → book_entry_pass (one.Leaf (switch_entry down n)) ≡ n
switch_pass true n = refl
switch_pass false n = refl

module _ (config : Config) (ended : Histories) (from to : History → ℕ) (number : ℕ) (what : LineForm) where
  -- of a switch
  module _ (cut : ℕ) (found : IsSwitchedBetween ended from to number what cut) where
    pub switched_leaf : (h : History) (e : BookEntry) → switches (switch_of what) h e ≡ true
        → of.Leaf found.switch.leaf ≡ h
    switched_leaf h e is =
        let mine = subst (λ o. switches o h e ≡ true) found.asked is in
        history_same found.switch.leaf h
        (and_parts (same_history (of.Leaf found.switch.leaf) h) (goes found.switch.down e) mine).0

    pub switched_entry : (h : History) → of.Leaf found.switch.leaf ≡ h
        → slice_get (entries ended h) found.stands.place ≡ Some (one.Leaf (switch_entry found.switch.down number))
    switched_entry h same = subst
        (λ w. slice_get (entries ended w) found.stands.place ≡ Some (one.Leaf (switch_entry found.switch.down number)))
        same
        (get_mapped (λ e. one.Leaf e) (leaf_history ended found.switch.leaf) found.stands.place
        (switch_entry found.switch.down number) found.stands.there)

    pub switched_there : (h : History) (k : ℕ) (e : BookEntry) → slice_get (entries ended h) k ≡ Some e
        → (switches (switch_of what) h e && nat_eq (k + 1) cut) ≡ true → IsTheirs from to number h k e
    switched_there h k e there is =
        let two = and_parts (switches (switch_of what) h e) (nat_eq (k + 1) cut) is in
        let leaf = switched_leaf h e two.0 in
        let last : k + 1 ≡ cut = equal_means (k + 1) cut two.1 in
        let stands = found.stands in
        let counted : stands.place + 1 ≡ cut = found.last in
        let place : stands.place ≡ k = omega arith in
        let mine = subst (λ n. slice_get (entries ended h) n ≡ Some (one.Leaf (switch_entry found.switch.down number)))
        place (switched_entry h leaf) in
        let same : one.Leaf (switch_entry found.switch.down number) ≡ e = cc in
        record {
          low = subst (λ w. from w ≤ k) leaf (subst (λ n. from (of.Leaf found.switch.leaf) ≤ n) place stands.since);
          high = subst (λ w. k < to w) leaf (subst (λ n. n < to (of.Leaf found.switch.leaf)) place stands.until);
          under = ap book_entry_pass (sym same) ∙ switch_pass found.switch.down number;
        }

  -- of a recovery
  module _ (slot : Slot) (found : IsRecoveredBetween ended from to number what slot)
      (whole : Histories) (fronts : AreFronts ended whole)
      (held : AreHeld config.schemas config.topology config.range_points whole) where
    leaf_theirs : (leaf : Leaf) (k : ℕ) (by : ℕ) (rows : List Row) → found.recovery.leaf ≡ leaf
        → slice_get (leaf_history ended leaf) k ≡ Some (entry.Opened by found.recovery.range slot rows)
        → IsTheirs from to number (of.Leaf leaf) k (one.Leaf (entry.Opened by found.recovery.range slot rows))
    leaf_theirs leaf k by rows leaf_is there =
        let stands = subst (λ (l : Leaf). StandsBetween (from (of.Leaf l)) (to (of.Leaf l)) (leaf_history ended l)
        (entry.Opened number found.recovery.range slot found.rows)) leaf_is found.held in
        let further = get_front (leaf_history ended leaf) (leaf_history whole leaf) k
        (entry.Opened by found.recovery.range slot rows) (fronts.0 leaf) there in
        let place : stands.place ≡ k = once_from found.recovery.range slot [] (leaf_history whole leaf) stands.place k
        number by found.rows rows
        (held.formed leaf (some_index whole.leaves leaf.0 k (entry.Opened by found.recovery.range slot rows) further))
        (get_front (leaf_history ended leaf) (leaf_history whole leaf) stands.place
        (entry.Opened number found.recovery.range slot found.rows) (fronts.0 leaf) stands.there) further in
        let mine = subst (λ n. slice_get (leaf_history ended leaf) n ≡ Some
        (entry.Opened number found.recovery.range slot found.rows)) place stands.there in
        let same : entry.Opened number found.recovery.range slot found.rows
        ≡ entry.Opened by found.recovery.range slot rows = cc in
        record {
          low = subst (λ n. from (of.Leaf leaf) ≤ n) place stands.since;
          high = subst (λ n. n < to (of.Leaf leaf)) place stands.until;
          under = ap (λ (e : Entry). book_entry_pass (one.Leaf e)) (sym same);
        }

    range_theirs : (range : Range) (k : ℕ) (by : ℕ) (on : Leaf) → found.recovery.range ≡ range
        → slice_get (range_history ended range) k ≡ Some (range_entry.Opened by slot on)
        → IsTheirs from to number (of.Range range) k (one.Range (range_entry.Opened by slot on))
    range_theirs range k by on range_is there =
        let stands = subst (λ (r : Range). StandsBetween (from (of.Range r)) (to (of.Range r)) (range_history ended r)
        (range_entry.Opened number slot found.recovery.leaf)) range_is found.told in
        let further = get_front (range_history ended range) (range_history whole range) k
        (range_entry.Opened by slot on) (fronts.1 range) there in
        let place : stands.place ≡ k = slot_once config range slot [] (range_history whole range) stands.place k number
        by found.recovery.leaf on
        (held.legal range (some_index whole.ranges range.0 k (range_entry.Opened by slot on) further))
        (get_front (range_history ended range) (range_history whole range) stands.place
        (range_entry.Opened number slot found.recovery.leaf) (fronts.1 range) stands.there) further in
        let mine = subst (λ n. slice_get (range_history ended range) n ≡ Some
        (range_entry.Opened number slot found.recovery.leaf)) place stands.there in
        let same : range_entry.Opened number slot found.recovery.leaf ≡ range_entry.Opened by slot on = cc in
        record {
          low = subst (λ n. from (of.Range range) ≤ n) place stands.since;
          high = subst (λ n. n < to (of.Range range)) place stands.until;
          under = ap (λ (e : RangeEntry). book_entry_pass (one.Range e)) (sym same);
        }

    opened_there : (h : History) (k : ℕ) (e : BookEntry) → slice_get (entries ended h) k ≡ Some e
        → opens found.recovery slot h e ≡ true → IsTheirs from to number h k e
    opened_there (of.Leaf leaf) k (one.Leaf (entry.Opened by other place rows)) there is =
        let two = and_parts (same_leaf found.recovery.leaf leaf)
        (same_replica found.recovery.range slot other place) is in
        let replica = and_parts (nat_eq found.recovery.range.0 other.0) (nat_eq slot.0 place.0) two.1 in
        let range_is = ranges_same found.recovery.range other replica.0 in
        let slot_is = slots_same slot place replica.1 in
        let stood = leaf_there (entry.Opened by other place rows) (leaf_history ended leaf) k there in
        let mine = subst (λ (s : Slot). slice_get (leaf_history ended leaf) k ≡ Some
        (entry.Opened by found.recovery.range s rows)) (sym slot_is)
        (subst (λ (r : Range). slice_get (leaf_history ended leaf) k ≡ Some (entry.Opened by r place rows))
        (sym range_is) stood) in
        let theirs = leaf_theirs leaf k by rows (same_leaves found.recovery.leaf leaf two.0) mine in
        record { low = theirs.low; high = theirs.high; under = theirs.under }
    opened_there (of.Leaf leaf) k (one.Leaf (entry.Put by other place row)) there is =
        absurd (false≢true (and_parts (same_leaf found.recovery.leaf leaf) false is).1)
    opened_there (of.Leaf leaf) k (one.Leaf (entry.Trim by other place before)) there is =
        absurd (false≢true (and_parts (same_leaf found.recovery.leaf leaf) false is).1)
    opened_there (of.Leaf leaf) k (one.Leaf (entry.Down by)) there is =
        absurd (false≢true (and_parts (same_leaf found.recovery.leaf leaf) false is).1)
    opened_there (of.Leaf leaf) k (one.Leaf (entry.Up by)) there is =
        absurd (false≢true (and_parts (same_leaf found.recovery.leaf leaf) false is).1)
    opened_there (of.Leaf leaf) k (one.Range e) there is = absurd (false≢true is)
    opened_there (of.Range range) k (one.Leaf e) there is = absurd (false≢true is)
    opened_there (of.Range range) k (one.Range (range_entry.Opened by place on)) there is =
        let two = and_parts (same_range found.recovery.range range)
        (same_slot slot place && same_leaf found.recovery.leaf on) is in
        let slot_is = slots_same slot place
        (and_parts (same_slot slot place) (same_leaf found.recovery.leaf on) two.1).0 in
        let stood = range_there (range_entry.Opened by place on) (range_history ended range) k there in
        let mine = subst (λ (s : Slot). slice_get (range_history ended range) k ≡ Some (range_entry.Opened by s on))
        (sym slot_is) stood in
        let theirs = range_theirs range k by on (ranges_same found.recovery.range range two.0) mine in
        record { low = theirs.low; high = theirs.high; under = theirs.under }
    opened_there (of.Range range) k (one.Range (range_entry.Acked by row ack)) there is =
        absurd (false≢true (and_parts (same_range found.recovery.range range) false is).1)
    opened_there (of.Range range) k (one.Range (range_entry.Trimmed by before ack)) there is =
        absurd (false≢true (and_parts (same_range found.recovery.range range) false is).1)
    opened_there (of.Range range) k (one.Range (range_entry.Retired by place)) there is =
        absurd (false≢true (and_parts (same_range found.recovery.range range) false is).1)

    pub recovered_there : (h : History) (k : ℕ) (e : BookEntry) → slice_get (entries ended h) k ≡ Some e
        → recovers (recovery_of what) slot h e ≡ true → IsTheirs from to number h k e
    recovered_there h k e there is =
        opened_there h k e there (subst (λ o. recovers o slot h e ≡ true) found.asked is)

-- ---- and are none of a feed

module _ (pass : ℕ) (rows : List Row) where
  not_going : (down b : Bool) (e : BookEntry) → (b && goes down e) ≡ true → is_fed pass rows e ≡ true → ⊥
  not_going down b (one.Leaf (entry.Opened by range slot held)) is fed = false≢true fed
  not_going down b (one.Leaf (entry.Put by range slot row)) is fed = false≢true (and_parts b false is).1
  not_going down b (one.Leaf (entry.Trim by range slot before)) is fed = false≢true fed
  not_going down b (one.Leaf (entry.Down by)) is fed = false≢true fed
  not_going down b (one.Leaf (entry.Up by)) is fed = false≢true fed
  not_going down b (one.Range e) is fed = false≢true (and_parts b false is).1

  pub not_switching : (switch : _) (h : History) (e : BookEntry) → switches switch h e ≡ true
      → is_fed pass rows e ≡ true → ⊥
  not_switching None h e is fed = false≢true is
  not_switching (Some switch) h e is fed =
      not_going switch.down (same_history (of.Leaf switch.leaf) h) e is fed

  not_opening : (recovery : Recovery) (slot : Slot) (h : History) (e : BookEntry) → opens recovery slot h e ≡ true
      → is_fed pass rows e ≡ true → ⊥
  not_opening recovery slot (of.Leaf leaf) (one.Leaf (entry.Opened by range place held)) is fed = false≢true fed
  not_opening recovery slot (of.Leaf leaf) (one.Leaf (entry.Put by range place row)) is fed =
      false≢true (and_parts (same_leaf recovery.leaf leaf) false is).1
  not_opening recovery slot (of.Leaf leaf) (one.Leaf (entry.Trim by range place before)) is fed = false≢true fed
  not_opening recovery slot (of.Leaf leaf) (one.Leaf (entry.Down by)) is fed = false≢true fed
  not_opening recovery slot (of.Leaf leaf) (one.Leaf (entry.Up by)) is fed = false≢true fed
  not_opening recovery slot (of.Leaf leaf) (one.Range e) is fed = false≢true is
  not_opening recovery slot (of.Range range) (one.Leaf e) is fed = false≢true is
  not_opening recovery slot (of.Range range) (one.Range (range_entry.Opened by place on)) is fed = false≢true fed
  not_opening recovery slot (of.Range range) (one.Range (range_entry.Acked by row ack)) is fed =
      false≢true (and_parts (same_range recovery.range range) false is).1
  not_opening recovery slot (of.Range range) (one.Range (range_entry.Trimmed by before ack)) is fed = false≢true fed
  not_opening recovery slot (of.Range range) (one.Range (range_entry.Retired by place)) is fed = false≢true fed

  pub not_recovering : (recovery : _) (slot : Slot) (h : History) (e : BookEntry) → recovers recovery slot h e ≡ true
      → is_fed pass rows e ≡ true → ⊥
  not_recovering None slot h e is fed = false≢true is
  not_recovering (Some recovery) slot h e is fed = not_opening recovery slot h e is fed

-- ---- between wider marks, and as histories grow

module _ (seen more : Histories) (from to first last : History → ℕ) (low : AreBelow first from) (high : AreBelow to last)
    (leaves : (leaf : Leaf) → IsPrefix (leaf_history seen leaf) (leaf_history more leaf))
    (ranges : (range : Range) → IsPrefix (range_history seen range) (range_history more range))
    (number : ℕ) (what : LineForm) where
  pub switched_wider : (cut : ℕ) → IsSwitchedBetween seen from to number what cut
      → IsSwitchedBetween more first last number what cut
  switched_wider cut found =
      let h = of.Leaf found.switch.leaf in
      record {
        switch = found.switch;
        asked = found.asked;
        stands = stands_wider (from h) (to h) (first h) (last h) (leaf_history seen found.switch.leaf)
            (leaf_history more found.switch.leaf) (switch_entry found.switch.down number) (low h) (high h)
            (leaves found.switch.leaf) found.stands;
        last = found.last;
      }

  pub recovered_wider : (slot : Slot) → IsRecoveredBetween seen from to number what slot
      → IsRecoveredBetween more first last number what slot
  recovered_wider slot found =
      let h = of.Leaf found.recovery.leaf in let r = of.Range found.recovery.range in
      record {
        recovery = found.recovery;
        asked = found.asked;
        told = stands_wider (from r) (to r) (first r) (last r) (range_history seen found.recovery.range)
            (range_history more found.recovery.range) (range_entry.Opened number slot found.recovery.leaf) (low r)
            (high r) (ranges found.recovery.range) found.told;
        rows = found.rows;
        held = stands_wider (from h) (to h) (first h) (last h) (leaf_history seen found.recovery.leaf)
            (leaf_history more found.recovery.leaf) (entry.Opened number found.recovery.range slot found.rows) (low h)
            (high h) (leaves found.recovery.leaf) found.held;
      }
