-- What the fate of a replica tells before its row is put.
use Rattle.std.proofs.Common.{◌≡◌, ℕ, true, List, [], ◌∷◌, refl}
use Rattle.history_book.specs.declared.views.Kept.{Kept}
use Rattle.mon_value.specs.declared.positions.Range.{Range}
use Rattle.mon_value.specs.Turns.{Turn}
use Rattle.range_cell.proofs.WritingLemmas.{PutNothing}
use Rattle.range_cell.specs.Writing.{with_put_of}
use Rattle.write_core.specs.Invariant.{AreAll, is_asked, is_waiting}
use Rattle.write_core.specs.Marks.{is_ready}
use Rattle.write_core.specs.declared.marks.Fate.{Fate}
use Rattle.write_core.specs.declared.marks.Fate.TheVariants as fate
use Rattle.write_core.specs.declared.marks.Mark.{Mark}

pub waiting_is : (f : Fate) → is_waiting f ≡ true → f ≡ fate.Waiting
waiting_is fate.Waiting h = refl
waiting_is fate.Ready h = absurd cc
waiting_is fate.Took h = absurd cc
waiting_is (fate.Missed cut) h = absurd cc

pub ready_is : (f : Fate) → is_ready f ≡ true → f ≡ fate.Ready
ready_is fate.Waiting h = absurd cc
ready_is fate.Ready h = refl
ready_is fate.Took h = absurd cc
ready_is (fate.Missed cut) h = absurd cc

module _ (pass : ℕ) (range : Range) (turn : Turn) where
  asked_puts : (mark : Mark) (f : Fate) → is_asked f ≡ true → (kept : Kept) → with_put_of pass range turn mark f kept ≡ kept
  asked_puts mark fate.Waiting h kept = refl
  asked_puts mark fate.Ready h kept = refl
  asked_puts mark fate.Took h kept = absurd cc
  asked_puts mark (fate.Missed cut) h kept = refl

  waiting_puts : (mark : Mark) (f : Fate) → is_waiting f ≡ true → (kept : Kept) → with_put_of pass range turn mark f kept ≡ kept
  waiting_puts mark fate.Waiting h kept = refl
  waiting_puts mark fate.Ready h kept = refl
  waiting_puts mark fate.Took h kept = absurd cc
  waiting_puts mark (fate.Missed cut) h kept = refl

  pub asked_nothing : (marks : List Mark) → AreAll is_asked marks → PutNothing pass range turn marks
  asked_nothing [] h = tt
  asked_nothing (mark ∷ marks) h = (asked_puts mark mark.fate h.0, asked_nothing marks h.1)

  pub waiting_nothing : (marks : List Mark) → AreAll is_waiting marks → PutNothing pass range turn marks
  waiting_nothing [] h = tt
  waiting_nothing (mark ∷ marks) h = (waiting_puts mark mark.fate h.0, waiting_nothing marks h.1)
