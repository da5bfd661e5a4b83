-- Which entries a turn adds to what its caller keeps, be it a row or a bound, and that no two of them are one.
use Rattle.std.proofs.Common.{◌≡◌, ℕ, Bool, true, false, List, [], ◌∷◌, ◌++◌, map}
use Rattle.std.proofs.Common.{refl, sym, ap, subst, ◌∙◌, cond, inl, inr, ◌⊎◌}
use Rattle.std.specs.Prelude.{Contains}
use Rattle.std.specs.List.{AllByRecursion, flat_map}
use Rattle.std.proofs.lemmas.List.{append-nil, append_assoc}
use Rattle.std.proofs.lemmas.List.Concat.{flat_map-append}
use Rattle.history_book.proofs.HistoryLemmas.{entries_added, entries_else, same_cases, same_history_refl}
use Rattle.history_book.specs.Histories.{IsFor, entries, same_history, with_book_entry}
use Rattle.history_book.specs.declared.views.BookEntry.{BookEntry}
use Rattle.history_book.specs.declared.views.BookEntry.TheVariants as one
use Rattle.history_book.specs.declared.views.History.{History}
use Rattle.history_book.specs.declared.views.History.TheVariants as of
use Rattle.history_book.specs.declared.views.Kept.{Kept}
use Rattle.mon_topo.proofs.RangeHistoryLemmas.{AreApart, all_at}
use Rattle.mon_topo.proofs.RangeHistoryLemmas as topo
use Rattle.mon_topo.specs.RangeHistories.{turn_ack}
use Rattle.mon_value.specs.declared.histories.Ack.{Ack}
use Rattle.mon_value.specs.declared.histories.Entry.{Entry}
use Rattle.mon_value.specs.declared.histories.Entry.TheVariants as entry
use Rattle.mon_value.specs.declared.histories.Histories.{Histories}
use Rattle.mon_value.specs.declared.positions.Range.{Range}
use Rattle.mon_value.specs.declared.positions.Slot.{Slot}
use Rattle.mon_value.specs.declared.positions.SlotLeaf.{SlotLeaf}
use Rattle.mon_value.specs.LeafHistories.{turn_entry}
use Rattle.mon_value.specs.Turns.{Turn, Adds, Hides}
use Rattle.mon_store.proofs.ListLemmas.{Differ, differ-append}
use Rattle.mon_store.specs.Writes.{only_in, turn_in, turned}
use Rattle.range_cell.specs.Writing.{put_of, with_put_of, with_puts}
use Rattle.write_core.proofs.AckLemmas.{contains_flat, contains_one}
use Rattle.mon_value.proofs.PlainLemmas.{contains_none, in_map}
use Rattle.write_core.specs.Marks.{replica_of, taken_slot, with_fate}
use Rattle.write_core.specs.declared.marks.Fate.{Fate}
use Rattle.write_core.specs.declared.marks.Fate.TheVariants as fate
use Rattle.write_core.specs.declared.marks.Mark.{Mark}

pub map_both : {X Y : Type 0} (f : X → Y) (xs ys : List X) → map f (xs ++ ys) ≡ map f xs ++ map f ys
map_both f [] ys = refl
map_both f (x ∷ xs) ys = ap (λ rest. f x ∷ rest) (map_both f xs ys)

-- ---- an entry more

by_test : (h g : History) (e : BookEntry) (xs : List BookEntry) → same_history h g ≡ false
    → xs ≡ xs ++ only_in h e g
by_test h g e xs f = sym (append-nil xs) ∙ ap (λ b. xs ++ cond b (e ∷ []) []) (sym f)

pub entries_with : (h g : History) (e : BookEntry) (a : Histories) → IsFor h e
    → entries (with_book_entry h e a) g ≡ entries a g ++ only_in h e g
entries_with h g e a fits =
    elim (same_cases h g) [
      | inl same ↦ subst (λ (x : History). entries (with_book_entry h e a) x ≡ entries a x ++ only_in h e x) same
          (entries_added h e a fits ∙ ap (λ b. entries a h ++ cond b (e ∷ []) []) (sym (same_history_refl h)))
      | inr apart ↦ entries_else h g e a apart ∙ by_test h g e (entries a g) apart
    ]

-- ---- the replicas that took a turn

abbrev took_at : Mark → Fate → List SlotLeaf
took_at mark fate.Waiting = []
took_at mark fate.Ready = []
took_at mark fate.Took = replica_of mark ∷ []
took_at mark (fate.Missed cut) = []

abbrev took_mark : Mark → List SlotLeaf
took_mark mark = took_at mark mark.fate

abbrev pub took_of : List Mark → List SlotLeaf
took_of = flat_map took_mark

slot_at : (mark : Mark) (f : Fate)
    → map (λ (replica : SlotLeaf). replica.slot) (took_at mark f) ≡ taken_slot (with_fate mark f)
slot_at mark fate.Waiting = refl
slot_at mark fate.Ready = refl
slot_at mark fate.Took = refl
slot_at mark (fate.Missed cut) = refl

-- their slots are those that the acknowledgement names
pub took_slots : (marks : List Mark) → map (λ (replica : SlotLeaf). replica.slot) (took_of marks)
    ≡ flat_map taken_slot marks
took_slots [] = refl
took_slots (mark ∷ marks) =
    map_both (λ (replica : SlotLeaf). replica.slot) (took_mark mark) (took_of marks)
    ∙ (λ i. slot_at mark mark.fate i ++ took_slots marks i)

took_here : (mark : Mark) (f : Fate) (replica : SlotLeaf) → Contains (took_at mark f) replica
    → (f ≡ fate.Took) × (replica_of mark ≡ replica)
took_here mark fate.Waiting replica there = absurd (contains_none replica there)
took_here mark fate.Ready replica there = absurd (contains_none replica there)
took_here mark fate.Took replica there = (refl, contains_one (replica_of mark) replica there)
took_here mark (fate.Missed cut) replica there = absurd (contains_none replica there)

-- each is a mark's that took the turn
pub took_in : (marks : List Mark) (replica : SlotLeaf) → Contains (took_of marks) replica
    → (mark : Mark) × Contains marks mark × (mark.fate ≡ fate.Took) × (replica_of mark ≡ replica)
took_in marks replica there =
    let found = contains_flat took_mark marks replica there in
    let here = took_here found.0 found.0.fate replica found.2 in
    (found.0, found.1, here.0, here.1)

took_apart_at : (mark : Mark) (f : Fate) (marks : List Mark)
    → AllByRecursion (topo.IsFrom (replica_of mark)) (map replica_of marks) → AreApart (took_of marks)
    → AreApart (took_at mark f ++ took_of marks)
took_apart_at mark fate.Waiting marks h rest = rest
took_apart_at mark fate.Ready marks h rest = rest
took_apart_at mark fate.Took marks h rest = (
  topo.all_from (topo.IsFrom (replica_of mark)) (took_of marks) (λ x there.
      let found = took_in marks x there in
      subst (λ (other : SlotLeaf). topo.IsFrom (replica_of mark) other) found.3
      (all_at (topo.IsFrom (replica_of mark)) (map replica_of marks) (replica_of found.0) h
      (in_map replica_of marks found.0 found.1))),
  rest,
)
took_apart_at mark (fate.Missed cut) marks h rest = rest

-- they have different slots where all have
pub took_apart : (marks : List Mark) → AreApart (map replica_of marks) → AreApart (took_of marks)
took_apart [] h = tt
took_apart (mark ∷ marks) h = took_apart_at mark mark.fate marks h.0 (took_apart marks h.1)

-- ---- what they add to what is kept

module _ (pass : ℕ) (range : Range) (turn : Turn) (whose : History) where
  abbrev put : SlotLeaf → List BookEntry
  put = turn_in pass range turn whose

  one_put : (mark : Mark) (f : Fate) (kept : Kept) → entries (with_put_of pass range turn mark f kept).own whose
      ≡ entries kept.own whose ++ flat_map put (took_at mark f)
  one_put mark fate.Waiting kept = sym (append-nil (entries kept.own whose))
  one_put mark fate.Ready kept = sym (append-nil (entries kept.own whose))
  one_put mark fate.Took kept =
      entries_with (of.Leaf mark.leaf) whose (one.Leaf (put_of pass range turn mark)) kept.own tt
      ∙ ap (λ (xs : List BookEntry). entries kept.own whose ++ xs) (sym (append-nil (put (replica_of mark))))
  one_put mark (fate.Missed cut) kept = sym (append-nil (entries kept.own whose))

  pub puts_added : (marks : List Mark) (kept : Kept) → entries (with_puts pass range turn marks kept).own whose
      ≡ entries kept.own whose ++ flat_map put (took_of marks)
  puts_added [] kept = sym (append-nil (entries kept.own whose))
  puts_added (mark ∷ marks) kept =
      puts_added marks (with_put_of pass range turn mark mark.fate kept)
      ∙ ap (λ (xs : List BookEntry). xs ++ flat_map put (took_of marks)) (one_put mark mark.fate kept)
      ∙ append_assoc (entries kept.own whose) (flat_map put (took_mark mark)) (flat_map put (took_of marks))
      ∙ ap (λ (xs : List BookEntry). entries kept.own whose ++ xs)
      (sym (flat_map-append put (took_mark mark) (took_of marks)))

pub ack_added : (pass : ℕ) (range : Range) (turn : Turn) (ack : Ack) (whose : History) (kept : Histories)
    → entries (with_book_entry (of.Range range) (one.Range (turn_ack pass turn ack)) kept) whose
    ≡ entries kept whose ++ only_in (of.Range range) (one.Range (turn_ack pass turn ack)) whose
ack_added pass range turn ack whose kept =
    entries_with (of.Range range) whose (one.Range (turn_ack pass turn ack)) kept tt

put_number : (pass : ℕ) (range : Range) (turn : Turn) (mark : Mark) (f : Fate) (kept : Kept)
    → (with_put_of pass range turn mark f kept).number ≡ kept.number
put_number pass range turn mark fate.Waiting kept = refl
put_number pass range turn mark fate.Ready kept = refl
put_number pass range turn mark fate.Took kept = refl
put_number pass range turn mark (fate.Missed cut) kept = refl

pub puts_number : (pass : ℕ) (range : Range) (turn : Turn) (marks : List Mark) (kept : Kept)
    → (with_puts pass range turn marks kept).number ≡ kept.number
puts_number pass range turn [] kept = refl
puts_number pass range turn (mark ∷ marks) kept =
    puts_number pass range turn marks (with_put_of pass range turn mark mark.fate kept)
    ∙ put_number pass range turn mark mark.fate kept

-- ---- the entries of a turn differ

only_at : (own : History) (e x : BookEntry) (whose : History) (b : Bool) → same_history own whose ≡ b
    → Contains (cond b (e ∷ []) []) x → (own ≡ whose) × (e ≡ x)
only_at own e x whose false f there = absurd (contains_none x there)
only_at own e x whose true f there = (by (same_cases own whose), contains_one e x there)
  where
    by : (own ≡ whose) ⊎ (same_history own whose ≡ false) → own ≡ whose
    by (inl same) = same
    by (inr apart) = absurd cc

-- an entry that is asked for is that of its history
pub only_is : (own : History) (e x : BookEntry) (whose : History) → Contains (only_in own e whose) x
    → (own ≡ whose) × (e ≡ x)
only_is own e x whose there = only_at own e x whose (same_history own whose) refl there

only_differ : (own : History) (e : BookEntry) (whose : History) (b : Bool) → Differ (cond b (e ∷ []) [])
only_differ own e whose false = tt
only_differ own e whose true = (λ y there. absurd (contains_none y there), tt)

abbrev slot_of : Entry → ℕ
slot_of (entry.Opened pass range slot rows) = slot.0
slot_of (entry.Put pass range slot row) = slot.0
slot_of (entry.Trim pass range slot before) = slot.0
slot_of (entry.Down pass) = 0
slot_of (entry.Up pass) = 0

abbrev slot_in : BookEntry → ℕ
slot_in (one.Leaf e) = slot_of e
slot_in (one.Range e) = 0

abbrev is_leaf_entry : BookEntry → Bool
is_leaf_entry (one.Leaf e) = true
is_leaf_entry (one.Range e) = false

slot_of_turn : (pass : ℕ) (range : Range) (slot : Slot) (turn : Turn) → slot_of (turn_entry pass range slot turn) ≡ slot.0
slot_of_turn pass range slot (Adds row) = refl
slot_of_turn pass range slot (Hides before) = refl

module _ (pass : ℕ) (range : Range) (turn : Turn) (whose : History) where
  -- an entry of a replica is that of one on that leaf
  pub put_is : (took : List SlotLeaf) (x : BookEntry) → Contains (flat_map (turn_in pass range turn whose) took) x
      → (replica : SlotLeaf) × Contains took replica × (of.Leaf replica.leaf ≡ whose)
      × (one.Leaf (turn_entry pass range replica.slot turn) ≡ x)
  put_is took x there =
      let found = contains_flat (turn_in pass range turn whose) took x there in
      let is = only_is (of.Leaf found.0.leaf) (one.Leaf (turn_entry pass range found.0.slot turn)) x whose found.2 in
      (found.0, found.1, is.0, is.1)

  puts_differ : (took : List SlotLeaf) → AreApart took → Differ (flat_map (turn_in pass range turn whose) took)
  puts_differ [] h = tt
  puts_differ (replica ∷ took) h =
      differ-append (turn_in pass range turn whose replica) (flat_map (turn_in pass range turn whose) took)
      (only_differ (of.Leaf replica.leaf) (one.Leaf (turn_entry pass range replica.slot turn)) whose
      (same_history (of.Leaf replica.leaf) whose))
      (puts_differ took h.1)
      (λ x y in_x in_y e.
      let mine = only_is (of.Leaf replica.leaf) (one.Leaf (turn_entry pass range replica.slot turn)) x whose in_x in
      let theirs = put_is took y in_y in
      let slots : replica.slot.0 ≡ theirs.0.slot.0 =
      sym (slot_of_turn pass range replica.slot turn) ∙ ap slot_in (mine.1 ∙ e ∙ sym theirs.3)
      ∙ slot_of_turn pass range theirs.0.slot turn in
      all_at (topo.IsFrom replica) took theirs.0 h.0 theirs.1 (sym slots))

  pub turned_differ : (ack : Ack) (took : List SlotLeaf) → AreApart took → Differ (turned pass range turn ack took whose)
  turned_differ ack took h =
      differ-append (flat_map (turn_in pass range turn whose) took)
      (only_in (of.Range range) (one.Range (turn_ack pass turn ack)) whose)
      (puts_differ took h)
      (only_differ (of.Range range) (one.Range (turn_ack pass turn ack)) whose (same_history (of.Range range) whose))
      (λ x y in_x in_y e.
      let mine = put_is took x in_x in
      let theirs = only_is (of.Range range) (one.Range (turn_ack pass turn ack)) y whose in_y in
      both_kinds (ap is_leaf_entry (mine.3 ∙ e ∙ sym theirs.1)))
    where
      both_kinds : true ≡ false → ⊥
      both_kinds e = cc
