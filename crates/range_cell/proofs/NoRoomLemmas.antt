-- A leaf had no memory for a row, and its write gives back what room it has.
use Rattle.std.proofs.Common.{◌≡◌, ℕ, suc, true, false, List, [], ◌∷◌, ◌++◌, map, refl, sym, ap, subst, ◌∙◌, arith}
use Rattle.std.proofs.Common.{Some, None}
use Rattle.std.specs.Prelude.{Contains, Option, option_map, zero}
use Rattle.std.specs.List.{AllByRecursion}
use Rattle.history_book.specs.declared.views.Kept.{Kept}
use Rattle.know.specs.Knowledge.{Knowledge}
use Rattle.mon_topo.proofs.RangeHistoryLemmas.{all_from}
use Rattle.mon_value.specs.declared.positions.Leaf.{Leaf}
use Rattle.mon_value.specs.declared.positions.Range.{Range}
use Rattle.mon_value.specs.declared.positions.Slot.{Slot}
use Rattle.mon_value.specs.declared.positions.SlotLeaf.{SlotLeaf}
use Rattle.mon_value.specs.Turns.{Turn}
use Rattle.owners.specs.Calls.{HasLooked}
use Rattle.range_cell.proofs.FateLemmas.{asked_nothing, waiting_is, waiting_nothing}
use Rattle.range_cell.proofs.WritingLemmas.{PutNothing, all_both, puts_nothing, reserved_not}
use Rattle.range_cell.specs.Stages.{IsAt, IsSoFar, IsWithdrawing}
use Rattle.range_cell.specs.Writing.{HasTurns, IsFated, IsWriting, with_put_of, with_puts}
use Rattle.write_core.proofs.AckLemmas.{contains_later}
use Rattle.write_core.specs.Going.{going_marks}
use Rattle.write_core.specs.Invariant.{AreAll, is_asked, is_waiting}
use Rattle.write_core.specs.Marks.{replica_of, with_fate}
use Rattle.write_core.specs.Program.{Acking, Ended, Entering, Inside, Locking, Reserving, Stage, ask_of, enter, reserve}
use Rattle.write_core.specs.declared.asks.WriteAsk.TheVariants as ask
use Rattle.write_core.specs.declared.marks.Fate.{Fate}
use Rattle.write_core.specs.declared.marks.Fate.TheVariants as fate
use Rattle.write_core.specs.declared.marks.Mark.{Mark}

contains_mark : (marks : List Mark) (mark : Mark) → Contains marks mark
    → Contains (map replica_of marks) (replica_of mark)
contains_mark [] mark there = absurd (omega (arith, there.1))
contains_mark (first ∷ marks) mark (zero, l, e) = (0, omega arith, ap replica_of e)
contains_mark (first ∷ marks) mark (suc k, l, e) =
    contains_later (replica_of first) (replica_of mark) (map replica_of marks)
    (contains_mark marks mark (k, omega arith, e))

module _ (range : Range) (turn : Turn) (pass : ℕ) (before : Knowledge) (replicas : List SlotLeaf)
    (old new : Knowledge) where
  abbrev SoFar : Knowledge → List Mark → Type 0
  SoFar = IsSoFar range turn pass before replicas

  abbrev At : Knowledge → Stage → Type 0
  At = IsAt range turn pass before replicas

  -- what is known of a replica's fate tells its turns, where it didn't take this one
  abbrev TurnsBy : Knowledge → Mark → Type 0
  TurnsBy know m = (f : Fate) → m.fate ≡ f → IsFated range turn pass before know m f
      → HasTurns before know range m.slot m.leaf []

  asked_by : (know : Knowledge) (m : Mark) → is_asked m.fate ≡ true → TurnsBy know m
  asked_by know m asked fate.Waiting is h = h
  asked_by know m asked fate.Ready is h = h
  asked_by know m asked fate.Took is h = absurd (not_taken (sym asked ∙ ap is_asked is))
    where
      not_taken : true ≡ false → ⊥
      not_taken e = cc
  asked_by know m asked (fate.Missed cut) is h = h.0

  waiting_by : (know : Knowledge) (m : Mark) → is_waiting m.fate ≡ true → TurnsBy know m
  waiting_by know m waits fate.Waiting is h = h
  waiting_by know m waits fate.Ready is h = h
  waiting_by know m waits fate.Took is h = absurd (not_taken (sym waits ∙ ap is_waiting is))
    where
      not_taken : true ≡ false → ⊥
      not_taken e = cc
  waiting_by know m waits (fate.Missed cut) is h = h.0

  asked_turns : (know : Knowledge) (marks : List Mark) → AreAll is_asked marks → AllByRecursion (TurnsBy know) marks
  asked_turns know [] h = tt
  asked_turns know (m ∷ marks) h = (asked_by know m h.0, asked_turns know marks h.1)

  waiting_turns : (know : Knowledge) (marks : List Mark) → AreAll is_waiting marks → AllByRecursion (TurnsBy know) marks
  waiting_turns know [] h = tt
  waiting_turns know (m ∷ marks) h = (waiting_by know m h.0, waiting_turns know marks h.1)

  turns_of : (know : Knowledge) (marks : List Mark)
      → AllByRecursion (λ (m : Mark). IsFated range turn pass before know m m.fate) marks
      → AllByRecursion (TurnsBy know) marks
      → AllByRecursion (λ (x : SlotLeaf). HasTurns before know range x.slot x.leaf []) (map replica_of marks)
  turns_of know [] h has = tt
  turns_of know (m ∷ marks) h has = (has.0 m.fate refl h.0, turns_of know marks h.1 has.1)

  by_refused : (done left : List Mark) (mark : Mark) → SoFar old (done ++ mark ∷ left) → AreAll is_asked done
      → AreAll is_waiting (mark ∷ left) → HasLooked mark.leaf old.purse.rooms old new
      → IsWithdrawing range pass before replicas new (done ++ mark ∷ left)
  by_refused done left mark so asked waits looked =
      let none = waiting_is mark.fate waits.0 in
      let w : IsWriting range turn pass before new (done ++ mark ∷ left) =
      subst (λ (f : Fate). IsWriting range turn pass before new (done ++ with_fate mark f ∷ left)) (sym none)
      (reserved_not range turn pass before old new done left mark so.writing none looked) in
      withdraws new (done ++ mark ∷ left) w so.serve
      (all_both (TurnsBy new) done (mark ∷ left) (asked_turns new done asked) (waiting_turns new (mark ∷ left) waits))
      (all_both (λ (m : Mark). (kept : Kept) → with_put_of pass range turn m m.fate kept ≡ kept) done (mark ∷ left)
      (asked_nothing pass range turn done asked) (waiting_nothing pass range turn (mark ∷ left) waits))
    where
      same_own : (f : Kept → Kept) → ((kept : Kept) → f kept ≡ kept) → (o : Option Kept) → option_map f o ≡ o
      same_own f same None = refl
      same_own f same (Some x) = ap (λ y. Some y) (same x)

      withdraws : (know : Knowledge) (marks : List Mark) → IsWriting range turn pass before know marks
          → map replica_of marks ≡ replicas
          → AllByRecursion (TurnsBy know) marks → PutNothing pass range turn marks
          → IsWithdrawing range pass before replicas know marks
      withdraws know marks w serve has none = record {
        among = subst (λ (xs : List SlotLeaf). AllByRecursion (λ (x : Mark). Contains xs (replica_of x)) marks) serve
            (all_from (λ (x : Mark). Contains (map replica_of marks) (replica_of x)) marks (contains_mark marks));
        fronts = w.fronts;
        number = w.number;
        held = w.held;
        opened = w.opened;
        each = subst (AllByRecursion (λ (x : SlotLeaf). HasTurns before know range x.slot x.leaf [])) serve
            (turns_of know marks w.each has);
        own = w.own ∙ same_own (with_puts pass range turn marks) (puts_nothing pass range turn marks none) before.purse.own;
        rooms = w.rooms;
        notes = w.notes;
        holds = w.holds;
        met = w.met;
        stock = w.stock;
        lost = w.lost;
        handed = w.handed;
      }

  refused_next : (done left : List Mark) (slot : Slot) (leaf : Leaf) → SoFar old (done ++ left) → AreAll is_asked done
      → AreAll is_waiting left → reserve left ≡ ask.Reserve slot leaf → HasLooked leaf old.purse.rooms old new
      → IsWithdrawing range pass before replicas new (done ++ left)
  refused_next done [] slot leaf so asked waits asks looked = absurd cc
  refused_next done (mark ∷ left) slot leaf so asked waits asks looked =
      let same : mark.leaf ≡ leaf = cc in
      by_refused done left mark so asked waits
      (subst (λ (l : Leaf). HasLooked l old.purse.rooms old new) (sym same) looked)

  -- (the machine's marks are these)
  pub refused_turn : (stage : Stage) (slot : Slot) (leaf : Leaf) → At old stage → ask_of stage ≡ ask.Reserve slot leaf
      → HasLooked leaf old.purse.rooms old new
      → IsWithdrawing range pass before replicas new (going_marks stage)
  refused_turn Locking slot leaf at asks looked = absurd cc
  refused_turn (Reserving round) slot leaf at asks looked =
      refused_next round.done round.left slot leaf at.so_far at.asked at.waits asks looked
  refused_turn (Entering round) slot leaf at asks looked = absurd (entering_not round.left asks)
    where
      entering_not : (left : List Mark) → enter left ≡ ask.Reserve slot leaf → ⊥
      entering_not [] h = cc
      entering_not (mark ∷ left) h = cc
  refused_turn (Inside round at_root in_zone) slot leaf at asks looked = absurd at
  refused_turn (Acking verdict) slot leaf at asks looked = absurd cc
  refused_turn (Ended verdict) slot leaf at asks looked = absurd at
