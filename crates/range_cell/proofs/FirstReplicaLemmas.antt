-- The openings of a range's first replicas come to its history one by one, and each next one is held.
use Rattle.std.proofs.Common.{◌≡◌, ℕ, zero, suc, ◌+◌, ◌<◌, ◌≤◌, List, [], ◌∷◌, ◌++◌, length, take, get_or, refl}
use Rattle.std.proofs.Common.{sym, ap}
use Rattle.std.proofs.Common.{subst, ◌∙◌, arith, slice_get, Some}
use Rattle.std.proofs.lemmas.List.{length-take-le, take_at}
use Rattle.std.proofs.lemmas.Option.{slice_get_within}
use Rattle.history_book.specs.declared.views.BookEntry.TheVariants as one
use Rattle.history_book.specs.declared.views.History.TheVariants as of
use Rattle.history_book.specs.Histories.{with_book_entry}
use Rattle.history_book.specs.Seats.{Owner}
use Rattle.know.specs.Sound.{IsSound}
use Rattle.mon_topo.proofs.FirstLemmas.{no_turns, no_turns_since, no_turns_yet, opened_count}
use Rattle.mon_topo.proofs.HeldLemmas.{range_entry_held}
use Rattle.mon_topo.specs.HeldHistories.{openings_from, slot_numbered, AreHeld, BeginsWith, IsBorneOut, IsHeldBy}
use Rattle.mon_topo.specs.HeldHistories.{IsOpened}
use Rattle.mon_topo.specs.RangeHistories.{MayFollow, left_rows, opened_slots, serving, serving_after, turns_since}
use Rattle.mon_topo.specs.Replicas.{HasReplicas}
use Rattle.mon_topo.specs.Settings.{Setting}
use Rattle.mon_topo.specs.Zones.{first_replicas, ranges_in}
use Rattle.mon_value.specs.Histories.{leaf_history, range_history}
use Rattle.mon_value.specs.LeafHistories.{replica_turns}
use Rattle.mon_value.specs.Turns.{after_turns}
use Rattle.mon_value.specs.declared.histories.Histories.{Histories}
use Rattle.mon_value.specs.declared.histories.RangeEntry.{RangeEntry}
use Rattle.mon_value.specs.declared.histories.RangeEntry.TheVariants as range_entry
use Rattle.mon_value.specs.declared.positions.Leaf.{Leaf}
use Rattle.mon_value.specs.declared.positions.Range.{Range}
use Rattle.mon_value.specs.declared.positions.Slot.{Slot}
use Rattle.mon_value.specs.declared.positions.SlotLeaf.{SlotLeaf}
use Rattle.mon_value.specs.declared.rows.Row.{Row}
use Rattle.owners.proofs.EntryLemmas.{same_range_entry}
use Rattle.owners.specs.Owners.{RangeView}
use Rattle.raise_table.specs.declared.views.Hints.{Hints}
use Rattle.range_cell.proofs.NewRangeLemmas.{held_with_entries, range_with_entries}
use Rattle.range_cell.specs.NewRanges.{after_entries, with_entries}

-- ---- openings

pub length-openings : (slot : ℕ) (leaves : List Leaf) → length (openings_from slot leaves) ≡ length leaves
length-openings slot [] = refl
length-openings slot (leaf ∷ leaves) = ap suc (length-openings (slot + 1) leaves)

opening_there : (leaves : List Leaf) (slot k : ℕ) (leaf : Leaf) → slice_get leaves k ≡ Some leaf
    → slice_get (openings_from slot leaves) k ≡ Some (range_entry.Opened 0 (slot_numbered (slot + k)) leaf)
opening_there [] slot k leaf is = let l = slice_get_within [] k leaf is in absurd (omega (arith, l))
opening_there (first ∷ leaves) slot zero leaf is =
    let same : first ≡ leaf = cc in
    let at : slot ≡ slot + 0 = omega arith in
    λ i. Some (range_entry.Opened 0 (slot_numbered (at i)) (same i))
opening_there (first ∷ leaves) slot (suc k) leaf is =
    let at : (slot + 1) + k ≡ slot + suc k = omega arith in
    opening_there leaves (slot + 1) k leaf is ∙ ap (λ n. Some (range_entry.Opened 0 (slot_numbered n) leaf)) at

pub next_opening : (leaves : List Leaf) (slot k : ℕ) (leaf : Leaf) → slice_get leaves k ≡ Some leaf
    → openings_from slot (take k leaves) ++ range_entry.Opened 0 (slot_numbered (slot + k)) leaf ∷ []
    ≡ openings_from slot (take (k + 1) leaves)
next_opening [] slot k leaf is = let l = slice_get_within [] k leaf is in absurd (omega (arith, l))
next_opening (first ∷ leaves) slot zero leaf is =
    let same : first ≡ leaf = cc in
    let at : slot ≡ slot + 0 = omega arith in
    λ i. range_entry.Opened 0 (slot_numbered (sym at i)) (sym same i) ∷ []
next_opening (first ∷ leaves) slot (suc k) leaf is =
    let at : slot + suc k ≡ (slot + 1) + k = omega arith in
    let more : suc k + 1 ≡ suc (k + 1) = omega arith in
    let one : RangeEntry = range_entry.Opened 0 (slot_numbered slot) first in
    ap (λ n. one ∷ (openings_from (slot + 1) (take k leaves) ++ range_entry.Opened 0 (slot_numbered n) leaf ∷ [])) at
    ∙ ap (λ (l : List RangeEntry). one ∷ l) (next_opening leaves (slot + 1) k leaf is)
    ∙ ap (λ n. openings_from slot (take n (first ∷ leaves))) (sym more)

-- the first replica stays the first
first_stays : (replica : SlotLeaf) (others : List SlotLeaf) (slot : ℕ) (leaves : List Leaf)
    → slice_get (serving_after (replica ∷ others) (openings_from slot leaves)) 0 ≡ Some replica
first_stays replica others slot [] = refl
first_stays replica others slot (leaf ∷ leaves) =
    first_stays replica (others ++ record { slot = slot_numbered slot; leaf = leaf } ∷ []) (slot + 1) leaves

pub first_serves : (leaves : List Leaf) (count : ℕ) (d : Leaf) → 0 < count → count ≤ length leaves
    → slice_get (serving (openings_from 0 (take count leaves))) 0
    ≡ Some (record { slot = slot_numbered 0; leaf = get_or leaves 0 d })
first_serves [] count d some within = absurd (omega (arith, some, within))
first_serves (leaf ∷ leaves) zero d some within = absurd (omega (arith, some))
first_serves (leaf ∷ leaves) (suc count) d some within =
    first_stays (record { slot = slot_numbered 0; leaf = leaf }) [] 1 (take count leaves)

-- ---- the next one

module _ (setting : Setting) (r : Range) (has : HasReplicas setting.zones r) (k : ℕ) (leaf : Leaf)
    (at : slice_get (first_replicas setting.zones r.0) k ≡ Some leaf) (hints : Hints) (seen : Histories)
    (whole : range_history seen r ≡ openings_from 0 (take k (first_replicas setting.zones r.0))) where
  abbrev firsts : List Leaf
  firsts = first_replicas setting.zones r.0

  abbrev e : RangeEntry
  e = range_entry.Opened 0 (slot_numbered k) leaf

  within : k < length firsts
  within = slice_get_within firsts k leaf at

  -- the history with it
  pub with_next : range_history seen r ++ e ∷ [] ≡ openings_from 0 (take (k + 1) firsts)
  with_next = ap (λ h. h ++ e ∷ []) whole
      ∙ ap (λ n. openings_from 0 (take k firsts) ++ range_entry.Opened 0 (slot_numbered n) leaf ∷ []) (omega arith)
      ∙ next_opening firsts 0 k leaf at

  may_follow : MayFollow setting.held setting.zones setting.points r (range_history seen r) e
  may_follow =
      let few : length firsts ≤ 3 = has.few in
      let count : length (opened_slots (openings_from 0 (take k firsts))) ≡ k =
      opened_count 0 (take k firsts) ∙ length-take-le k firsts (omega (arith, within)) in
      subst (λ (h : List RangeEntry). MayFollow setting.held setting.zones setting.points r h e) (sym whole) (
        sym count,
        omega (arith, within, few),
        ((λ below. at), (λ past. absurd (omega (arith, past, within)))),
      )

  none_since : (slot : Slot) → turns_since slot (range_history seen r ++ e ∷ []) ≡ []
  none_since slot = ap (turns_since slot) with_next ∙ no_turns_since slot 0 (take (k + 1) firsts)

  none_left : left_rows (take (length (range_history seen r)) (range_history seen r ++ e ∷ [])) ≡ []
  none_left = ap left_rows (take_at (range_history seen r) (e ∷ []) (length (range_history seen r)) refl)
      ∙ ap left_rows whole ∙ ap (after_turns []) (no_turns 0 (take k firsts))

  borne_next : IsHeldBy seen r (openings_from 0 firsts)
      → IsBorneOut seen r (range_history seen r ++ e ∷ []) (length (range_history seen r)) e
  borne_next borne =
      let was : IsBorneOut seen r (openings_from 0 firsts) k e =
      borne.borne_out k e (opening_there firsts 0 k leaf at
      ∙ ap (λ n. Some (range_entry.Opened 0 (slot_numbered n) leaf)) (omega arith)) in
      subst (λ (rows : List Row). IsOpened r (record { slot = slot_numbered k; leaf = leaf }) rows
      (leaf_history seen leaf)) (ap (after_turns []) (no_turns_yet k 0 firsts) ∙ sym none_left) was

  pub sound_next : r.0 < length (ranges_in setting.zones) → IsHeldBy seen r (openings_from 0 firsts)
      → IsSound setting hints seen
      → IsSound setting hints (with_book_entry (of.Range r) (one.Range e) seen)
  sound_next there borne sound =
      let here : r.0 < length seen.ranges = subst (λ (n : ℕ). r.0 < n) (sym sound.held.all_ranges) there in
      record {
        held = subst (AreHeld setting.held setting.zones setting.points) (sym (same_range_entry r e seen here))
            (range_entry_held seen r e here setting.held setting.zones setting.points sound.held
            (λ replica served. subst (BeginsWith (replica_turns r replica.slot (leaf_history seen replica.leaf)))
            (sym (none_since replica.slot)) refl) (borne_next borne) may_follow);
        covered = sound.covered;
      }

-- ---- what was appended so far

module _ (setting : Setting) (start owner : RangeView) (first : List Leaf)
    (same : first ≡ first_replicas setting.zones start.range.0) (has : HasReplicas setting.zones start.range) (k : ℕ)
    (leaf : Leaf) (at : slice_get (first_replicas setting.zones start.range.0) k ≡ Some leaf)
    (none : range_history start.book.seen start.range ≡ [])
    (here : start.range.0 < length (ranges_in setting.zones))
    (borne : IsHeldBy start.book.seen start.range (openings_from 0 first))
    (book : owner.book ≡ after_entries start.range (openings_from 0 (take k first)) start.book)
    (range : owner.range ≡ start.range) where
  abbrev so_far : List RangeEntry
  so_far = openings_from 0 (take k first)

  seen_is : owner.book.seen ≡ with_entries start.range so_far start.book.seen
  seen_is = ap (λ (o : Owner). o.seen) book

  pub whole_so_far : range_history owner.book.seen start.range
      ≡ openings_from 0 (take k (first_replicas setting.zones start.range.0))
  whole_so_far =
      ap (λ (s : Histories). range_history s start.range) seen_is
      ∙ range_with_entries start.range so_far start.book.seen
      ∙ ap (λ h. h ++ so_far) none ∙ ap (λ (l : List Leaf). openings_from 0 (take k l)) same

  borne_so_far : IsHeldBy owner.book.seen start.range
      (openings_from 0 (first_replicas setting.zones start.range.0))
  borne_so_far =
      subst (λ (s : Histories).
      IsHeldBy s start.range (openings_from 0 (first_replicas setting.zones start.range.0))) (sym seen_is)
      (subst (λ (l : List Leaf).
      IsHeldBy (with_entries start.range so_far start.book.seen) start.range (openings_from 0 l)) same
      (held_with_entries start.range so_far start.book.seen (openings_from 0 first) borne))

  -- the next opening is held too
  pub sound_so_far : IsSound setting owner.hints owner.book.seen
      → IsSound setting owner.hints (with_book_entry (of.Range owner.range)
      (one.Range (range_entry.Opened 0 (slot_numbered k) leaf)) owner.book.seen)
  sound_so_far sound =
      subst (λ (r : Range). IsSound setting owner.hints (with_book_entry (of.Range r)
      (one.Range (range_entry.Opened 0 (slot_numbered k) leaf)) owner.book.seen)) (sym range)
      (sound_next setting start.range has k leaf at owner.hints owner.book.seen whole_so_far here borne_so_far sound)
