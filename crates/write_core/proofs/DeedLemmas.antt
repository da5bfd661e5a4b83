-- What a write has done, one event on.
use Rattle.mon_value.specs.declared.histories.Ack.{Ack}
use Rattle.mon_value.specs.declared.positions.Slot.{Slot}
use Rattle.mon_value.specs.LeafHistories.{turn_entry}
use Rattle.mon_value.specs.Turns.{Turn, Adds, Hides}
use Rattle.mon_topo.specs.RangeHistories.{turn_ack}
use Rattle.std.proofs.Common.{◌≡◌, ◌≢◌, ℕ, ◌<◌, Bool, true, false, ◌&&◌, cond, List, [], ◌∷◌, ◌++◌, length, map, refl}
use Rattle.std.proofs.Common.{sym, ap, ap₂, subst, ◌∙◌, append-nil, append_assoc, inl, inr}
use Rattle.std.specs.Prelude.{nat_eq}
use Rattle.std.proofs.lemmas.Bool.{cases_eq, cond-true, cond_both, eq-eqb, ne_eqb}
use Rattle.std.proofs.lemmas.List.Concat.{flat_map-append}
use Rattle.std.proofs.lemmas.List.Elements.{filter-append}
use Rattle.mon_value.specs.LeafHistories.{is_switch}
use Rattle.mon_value.specs.declared.histories.Entry.{Entry}
use Rattle.mon_value.specs.declared.histories.Entry.TheVariants as entry
use Rattle.mon_value.specs.declared.histories.RangeEntry.{RangeEntry}
use Rattle.mon_value.specs.declared.positions.Leaf.{Leaf}
use Rattle.mon_value.specs.declared.positions.Range.{Range}
use Rattle.mon_value.specs.declared.positions.SlotLeaf.{SlotLeaf}
use Rattle.mon_topo.proofs.HeldLemmas.{leaf_entry_by, leaf_entry_other, leaf_entry_same, leaf_same, range_entry_by}
use Rattle.mon_topo.proofs.HeldLemmas.{range_entry_other, range_entry_same, range_same}
use Rattle.write_core.specs.Deeds.{HasDone, ack_on, acks_at, acks_by, is_ack_by, is_put_by, marks_at, put_on, puts_by}
use Rattle.write_core.specs.Deeds.{puts_on}
use Rattle.write_core.specs.Invariant.{AreAll, is_asked}
use Rattle.write_core.specs.Marks.{ack_of, is_ready, has_taken, with_fate, some_took, waiting}
use Rattle.write_core.specs.Program.{Acking, Ended, Entering, Inside, Locking, Marked, Reserving, entering, reserving}
use Rattle.write_core.specs.Rounds.{Round, again, is_through, after_look, round_marks, skip_unready, after_skip}
use Rattle.mon_topo.specs.Views.{View, of_leaf, of_range, with_entry, with_range_entry}
use Rattle.write_core.specs.World.{Writer, put_of}
use Rattle.write_core.specs.declared.marks.Fate.{Fate}
use Rattle.write_core.specs.declared.marks.Fate.TheVariants as fate
use Rattle.write_core.specs.declared.marks.Mark.{Mark}
use Rattle.write_core.proofs.StageLemmas.{untaken_ready}

-- ---- where a round goes on, its marks are the same

pub skip_marks : (done left : List Mark) → round_marks (skip_unready done left) ≡ done ++ left
skip_marks done [] = refl
skip_marks done (mark ∷ left) =
    cond_both (is_ready mark.fate) (record { done = done; left = mark ∷ left }) (skip_unready (done ++ mark ∷ []) left)
    (λ (round : Round). round_marks round ≡ done ++ mark ∷ left) (λ ready. refl)
    (λ not_ready. skip_marks (done ++ mark ∷ []) left ∙ append_assoc done (mark ∷ []) left)

pub marks_entering : (round : Round) → marks_at (entering round) ≡ round_marks round
marks_entering round =
    cond_both (is_through (after_skip round)) (Acking (Marked (round_marks (after_skip round))))
    (Entering (after_skip round))
    (λ stage. marks_at stage ≡ round_marks round) (λ e. skip_marks round.done round.left)
    (λ e. skip_marks round.done round.left)

pub marks_reserving : (round : Round) → marks_at (reserving round) ≡ round_marks round
marks_reserving round =
    cond_both (is_through round) (entering (again round)) (Reserving round)
    (λ stage. marks_at stage ≡ round_marks round)
    (λ e. marks_entering (again round)) (λ e. refl)

acks_entering : (writer : Writer) (r : Range) (round : Round) → acks_at writer r (entering round) ≡ []
acks_entering writer r round =
    cond_both (is_through (after_skip round)) (Acking (Marked (round_marks (after_skip round))))
    (Entering (after_skip round))
    (λ stage. acks_at writer r stage ≡ []) (λ e. refl) (λ e. refl)

acks_reserving : (writer : Writer) (r : Range) (round : Round) → acks_at writer r (reserving round) ≡ []
acks_reserving writer r round =
    cond_both (is_through round) (entering (again round)) (Reserving round) (λ stage. acks_at writer r stage ≡ [])
    (λ e. acks_entering writer r (again round)) (λ e. refl)

-- ---- puts of marks

module _ (writer : Writer) (l : Leaf) where
  untaken_nothing : (mark : Mark) → has_taken mark.fate ≡ false → put_on writer l mark ≡ []
  untaken_nothing mark e = ap (λ b. cond (b && nat_eq mark.leaf.0 l.0) (put_of writer mark ∷ []) []) e

  -- one mark among others
  puts_around : (done left : List Mark) (mark : Mark)
      → puts_on writer l (done ++ mark ∷ left) ≡ puts_on writer l done
      ++ (put_on writer l mark ++ puts_on writer l left)
  puts_around done left mark = flat_map-append (put_on writer l) done (mark ∷ left)

  puts_marked : (done left : List Mark) (mark : Mark)
      → puts_on writer l ((done ++ mark ∷ []) ++ left) ≡ puts_on writer l done
      ++ (put_on writer l mark ++ puts_on writer l left)
  puts_marked done left mark =
      ap (puts_on writer l) (append_assoc done (mark ∷ []) left) ∙ puts_around done left mark

  none_waiting : (replicas : List SlotLeaf) → puts_on writer l (map waiting replicas) ≡ []
  none_waiting [] = refl
  none_waiting (replica ∷ replicas) = none_waiting replicas

  untaken_asked : (f : Fate) → is_asked f ≡ true → has_taken f ≡ false
  untaken_asked fate.Waiting e = refl
  untaken_asked fate.Ready e = refl
  untaken_asked fate.Took e = absurd cc
  untaken_asked (fate.Missed cut) e = refl

  none_asked : (left : List Mark) → AreAll is_asked left → puts_on writer l left ≡ []
  none_asked [] h = refl
  none_asked (mark ∷ left) h =
      ap₂ (λ some more. some ++ more) (untaken_nothing mark (untaken_asked mark.fate h.0)) (none_asked left h.1)

-- ---- events that put nothing

module _ (truth : View) (writer : Writer) where
  -- the lock was taken
  pub done_locked : (replicas : List SlotLeaf) (round : Round) → round_marks round ≡ map waiting replicas
      → HasDone truth writer Locking → HasDone truth writer (reserving round)
  done_locked replicas round all h = record {
    puts = λ l. h.puts l ∙ sym (none_waiting writer l replicas) ∙ ap (puts_on writer l) (sym all)
        ∙ ap (puts_on writer l) (sym (marks_reserving round));
    acks = λ r. h.acks r ∙ sym (acks_reserving writer r round);
  }

  -- a replica that has not taken the row is looked at, and still has not
  module _ (done left : List Mark) (mark : Mark) (f : Fate) (was : has_taken mark.fate ≡ false)
      (is : has_taken f ≡ false) where
    same_puts : (l : Leaf) → puts_on writer l (done ++ mark ∷ left) ≡ puts_on writer l
        ((done ++ with_fate mark f ∷ []) ++ left)
    same_puts l =
        puts_around writer l done left mark
        ∙ ap (λ some. puts_on writer l done ++ (some ++ puts_on writer l left))
        (untaken_nothing writer l mark was ∙ sym (untaken_nothing writer l (with_fate mark f) is))
        ∙ sym (puts_marked writer l done left (with_fate mark f))

    pub done_reserving : HasDone truth writer (Reserving (record { done = done; left = mark ∷ left }))
        → HasDone truth writer (reserving (after_look (record { done = done; left = mark ∷ left }) f))
    done_reserving h =
        let next = after_look (record { done = done; left = mark ∷ left }) f in
        record {
          puts = λ l. h.puts l ∙ same_puts l ∙ ap (puts_on writer l) (sym (marks_reserving next));
          acks = λ r. h.acks r ∙ sym (acks_reserving writer r next);
        }

    pub done_entering : HasDone truth writer (Entering (record { done = done; left = mark ∷ left }))
        → HasDone truth writer (entering (after_look (record { done = done; left = mark ∷ left }) f))
    done_entering h =
        let next = after_look (record { done = done; left = mark ∷ left }) f in
        record {
          puts = λ l. h.puts l ∙ same_puts l ∙ ap (puts_on writer l) (sym (marks_entering next));
          acks = λ r. h.acks r ∙ sym (acks_entering writer r next);
        }

-- ---- one entry more

puts_push : (pass : ℕ) (history : List Entry) (e : Entry)
    → puts_by pass (history ++ e ∷ []) ≡ puts_by pass history ++ puts_by pass (e ∷ [])
puts_push pass history e = filter-append (is_put_by pass) history (e ∷ [])

-- an entry that no put of the pass is leaves its puts
pub puts_stay : (pass : ℕ) (truth : View) (l : Leaf) (e : Entry) → l.0 < length truth.seen.leaves
    → is_put_by pass e ≡ false → (o : Leaf)
    → puts_by pass (of_leaf (with_entry l e truth) o) ≡ puts_by pass (of_leaf truth o)
puts_stay pass truth l e here other o =
    leaf_entry_by truth.seen l e here (λ x history. puts_by pass history ≡ puts_by pass (of_leaf truth x)) o
    (puts_push pass (of_leaf truth l) e
    ∙ ap (λ b. puts_by pass (of_leaf truth l) ++ cond b (e ∷ []) []) other
    ∙ append-nil (puts_by pass (of_leaf truth l)))
    refl

pub switch_is_no_put : (pass : ℕ) (e : Entry) → is_switch e ≡ true → is_put_by pass e ≡ false
switch_is_no_put pass (entry.Opened other range slot rows) h = refl
switch_is_no_put pass (entry.Put other range slot row) h = absurd cc
switch_is_no_put pass (entry.Trim other range slot before) h = absurd cc
switch_is_no_put pass (entry.Down other) h = refl
switch_is_no_put pass (entry.Up other) h = refl

-- a turn's entries are by its pass
put_by_turn : (pass other : ℕ) (range : Range) (slot : Slot) (turn : Turn)
    → is_put_by pass (turn_entry other range slot turn) ≡ nat_eq other pass
put_by_turn pass other range slot (Adds row) = refl
put_by_turn pass other range slot (Hides before) = refl

ack_by_turn : (pass other : ℕ) (turn : Turn) (ack : Ack) → is_ack_by pass (turn_ack other turn ack) ≡ nat_eq other pass
ack_by_turn pass other (Adds row) ack = refl
ack_by_turn pass other (Hides before) ack = refl

pub anothers_put : (pass : ℕ) (writer : Writer) (mark : Mark) → pass ≢ writer.pass
    → is_put_by pass (put_of writer mark) ≡ false
anothers_put pass writer mark apart = put_by_turn pass writer.pass writer.range mark.slot writer.turn
    ∙ ne_eqb writer.pass pass (λ e. apart (sym e))

pub acks_stay : (pass : ℕ) (truth : View) (r : Range) (e : RangeEntry) → r.0 < length truth.seen.ranges
    → is_ack_by pass e ≡ false → (o : Range)
    → acks_by pass (of_range (with_range_entry r e truth) o) ≡ acks_by pass (of_range truth o)
acks_stay pass truth r e here other o =
    range_entry_by truth.seen r e here (λ x history. acks_by pass history ≡ acks_by pass (of_range truth x)) o
    (filter-append (is_ack_by pass) (of_range truth r) (e ∷ [])
    ∙ ap (λ b. acks_by pass (of_range truth r) ++ cond b (e ∷ []) []) other
    ∙ append-nil (acks_by pass (of_range truth r)))
    refl

-- ---- the row is put

module _ (truth : View) (writer : Writer) (done left : List Mark) (mark : Mark) (ready : is_ready mark.fate ≡ true)
    (asked : AreAll is_asked left) (here : mark.leaf.0 < length truth.seen.leaves) where
  abbrev e : Entry
  e = put_of writer mark

  abbrev l : Leaf
  l = mark.leaf

  abbrev new : Mark
  new = with_fate mark fate.Took

  abbrev round : Round
  round = record { done = done; left = mark ∷ left }

  -- its puts before, and after, on any leaf
  before_put : (o : Leaf) → puts_on writer o (done ++ mark ∷ left) ≡ puts_on writer o done
  before_put o =
      puts_around writer o done left mark
      ∙ ap₂ (λ some more. puts_on writer o done ++ (some ++ more))
      (untaken_nothing writer o mark (untaken_ready mark.fate ready)) (none_asked writer o left asked)
      ∙ append-nil (puts_on writer o done)

  after_put : (o : Leaf) → puts_on writer o (marks_at (entering (after_look round fate.Took)))
      ≡ puts_on writer o done ++ put_on writer o new
  after_put o =
      ap (puts_on writer o) (marks_entering (after_look round fate.Took))
      ∙ puts_marked writer o done left new
      ∙ ap (λ more. puts_on writer o done ++ (put_on writer o new ++ more)) (none_asked writer o left asked)
      ∙ ap (λ more. puts_on writer o done ++ more) (append-nil (put_on writer o new))

  own_put : puts_by writer.pass (e ∷ []) ≡ e ∷ []
  own_put = cond-true (is_put_by writer.pass e) (e ∷ []) []
      (put_by_turn writer.pass writer.pass writer.range mark.slot writer.turn ∙ eq-eqb writer.pass writer.pass refl)

  new_here : put_on writer l new ≡ e ∷ []
  new_here = cond-true (nat_eq l.0 l.0) (e ∷ []) [] (eq-eqb l.0 l.0 refl)

  new_elsewhere : (o : Leaf) → o.0 ≢ l.0 → put_on writer o new ≡ []
  new_elsewhere o apart = ap (λ b. cond b (e ∷ []) []) (ne_eqb l.0 o.0 (λ same. apart (sym same)))

  pub done_put : (at_root in_zone : List ℕ) → HasDone truth writer (Inside round at_root in_zone)
      → HasDone (with_entry l e truth) writer (entering (after_look round fate.Took))
  done_put at_root in_zone h = record {
    puts = λ o. elim (cases_eq o.0 l.0) [
      | inl same ↦ subst (λ (x : Leaf). puts_by writer.pass (of_leaf (with_entry l e truth) x)
          ≡ puts_on writer x (marks_at (entering (after_look round fate.Took)))) (sym (leaf_same o l same))
          (ap (puts_by writer.pass) (leaf_entry_same truth.seen l e here)
          ∙ puts_push writer.pass (of_leaf truth l) e
          ∙ ap₂ (λ some more. some ++ more) (h.puts l ∙ before_put l) own_put
          ∙ ap (λ more. puts_on writer l done ++ more) (sym new_here)
          ∙ sym (after_put l))
      | inr apart ↦ ap (puts_by writer.pass) (leaf_entry_other truth.seen l e o apart)
          ∙ h.puts o ∙ before_put o ∙ sym (append-nil (puts_on writer o done))
          ∙ ap (λ more. puts_on writer o done ++ more) (sym (new_elsewhere o apart))
          ∙ sym (after_put o)
    ];
    acks = λ r. h.acks r ∙ sym (acks_entering writer r (after_look round fate.Took));
  }

-- ---- the acknowledgement

module _ (truth : View) (writer : Writer) (marks : List Mark) where
  abbrev r : Range
  r = writer.range

  abbrev last : RangeEntry
  last = turn_ack writer.pass writer.turn (ack_of r marks)

  -- no replica took the row
  pub done_none : some_took marks ≡ false → HasDone truth writer (Acking (Marked marks))
      → HasDone truth writer (Ended (Marked marks))
  done_none none h = record {
    puts = h.puts;
    acks = λ o. h.acks o ∙ sym (ap (λ b. cond (b && nat_eq r.0 o.0) (last ∷ []) []) none);
  }

  module _ (some : some_took marks ≡ true) (here : r.0 < length truth.seen.ranges) where
    own_ack : acks_by writer.pass (last ∷ []) ≡ last ∷ []
    own_ack = cond-true (is_ack_by writer.pass last) (last ∷ []) []
        (ack_by_turn writer.pass writer.pass writer.turn (ack_of r marks) ∙ eq-eqb writer.pass writer.pass refl)

    ack_by : (o : Range) (b : Bool) → nat_eq r.0 o.0 ≡ b → ack_on writer o marks ≡ cond b (last ∷ []) []
    ack_by o b e = ap₂ (λ x y. cond (x && y) (last ∷ []) []) some e

    pub done_acked : HasDone truth writer (Acking (Marked marks))
        → HasDone (with_range_entry r last truth) writer (Ended (Marked marks))
    done_acked h = record {
      puts = h.puts;
      acks = λ o. elim (cases_eq o.0 r.0) [
        | inl same ↦ subst (λ (x : Range). acks_by writer.pass (of_range (with_range_entry r last truth) x)
            ≡ ack_on writer x marks) (sym (range_same o r same))
            (ap (acks_by writer.pass) (range_entry_same truth.seen r last here)
            ∙ filter-append (is_ack_by writer.pass) (of_range truth r) (last ∷ [])
            ∙ ap₂ (λ some more. some ++ more) (h.acks r) own_ack
            ∙ sym (ack_by r true (eq-eqb r.0 r.0 refl)))
        | inr apart ↦ ap (acks_by writer.pass) (range_entry_other truth.seen r last o apart)
            ∙ h.acks o ∙ sym (ack_by o false (ne_eqb r.0 o.0 (λ same. apart (sym same))))
      ];
    }

pub anothers_ack : (pass : ℕ) (writer : Writer) (marks : List Mark) → pass ≢ writer.pass
    → is_ack_by pass (turn_ack writer.pass writer.turn (ack_of writer.range marks)) ≡ false
anothers_ack pass writer marks apart = ack_by_turn pass writer.pass writer.turn (ack_of writer.range marks)
    ∙ ne_eqb writer.pass pass (λ e. apart (sym e))
