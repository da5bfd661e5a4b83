-- A round has gone on by a mark, and its write is at the next stage.
use Rattle.std.proofs.Common.{◌≡◌, ℕ, true, List, [], ◌∷◌, ◌++◌, map, sym, subst, ◌∙◌, append_assoc}
use Rattle.std.specs.List.{AllByRecursion}
use Rattle.std.proofs.lemmas.Bool.{cond_both}
use Rattle.know.specs.Knowledge.{Knowledge}
use Rattle.mon_value.specs.declared.positions.Range.{Range}
use Rattle.mon_value.specs.declared.positions.SlotLeaf.{SlotLeaf}
use Rattle.mon_value.specs.Turns.{Turn}
use Rattle.range_cell.proofs.ApartReplicaLemmas.{same_replicas}
use Rattle.range_cell.proofs.WritingLemmas.{all_both}
use Rattle.range_cell.specs.Stages.{IsAt, IsSoFar}
use Rattle.range_cell.specs.Writing.{IsWriting}
use Rattle.write_core.proofs.StageLemmas.{skips}
use Rattle.write_core.specs.Invariant.{AreAll, is_asked, is_decided, is_waiting}
use Rattle.write_core.specs.Marks.{replica_of, with_fate}
use Rattle.write_core.specs.Program.{Acking, Entering, Marked, Reserving, Stage, entering, reserving}
use Rattle.write_core.specs.Rounds.{Round, again, after_skip, is_no_mark_left, is_through, round_marks}
use Rattle.write_core.specs.declared.marks.Fate.{Fate}
use Rattle.write_core.specs.declared.marks.Mark.{Mark}

module _ (range : Range) (turn : Turn) (pass : ℕ) (before : Knowledge) (replicas : List SlotLeaf) where
  abbrev SoFar : Knowledge → List Mark → Type 0
  SoFar = IsSoFar range turn pass before replicas

  abbrev At : Knowledge → Stage → Type 0
  At = IsAt range turn pass before replicas

  pub at_entering : (know : Knowledge) (done left : List Mark) → SoFar know (done ++ left) → AreAll is_decided done
      → AreAll is_asked left → At know (entering (record { done = done; left = left }))
  at_entering know done left so decided asked =
      let round : Round = record { done = done; left = left } in
      let rest = skips done left decided asked in
      let next = after_skip round in
      let same : SoFar know (round_marks next) = subst (SoFar know) (sym rest.all) so in
      cond_both (is_through next) (Acking (Marked (round_marks next))) (Entering next) (At know)
      (λ through. record {
        so_far = same;
        decided = all_both (λ (m : Mark). is_decided m.fate ≡ true) next.done next.left rest.done
            (none_left (λ (m : Mark). is_decided m.fate ≡ true) next.left through);
      })
      (λ more. record { so_far = same; decided = rest.done; asked = rest.left; ready = rest.ready; more = more })
    where
      none_left : (P : Mark → Type 0) (xs : List Mark) → is_no_mark_left xs ≡ true → AllByRecursion P xs
      none_left P [] h = tt
      none_left P (x ∷ xs) h = absurd cc

  pub at_reserving : (know : Knowledge) (done left : List Mark) → SoFar know (done ++ left) → AreAll is_asked done
      → AreAll is_waiting left → At know (reserving (record { done = done; left = left }))
  at_reserving know done left so asked waits =
      let round : Round = record { done = done; left = left } in
      cond_both (is_through round) (entering (again round)) (Reserving round) (At know)
      (λ through. at_entering know [] (done ++ left) so tt
      (all_both (λ (m : Mark). is_asked m.fate ≡ true) done left asked
      (none_left (λ (m : Mark). is_asked m.fate ≡ true) left through)))
      (λ more. record { so_far = so; asked = asked; waits = waits; more = more })
    where
      none_left : (P : Mark → Type 0) (xs : List Mark) → is_no_mark_left xs ≡ true → AllByRecursion P xs
      none_left P [] h = tt
      none_left P (x ∷ xs) h = absurd cc

  -- one mark is decided further
  pub moved : (know : Knowledge) (done left : List Mark) (mark : Mark) (f : Fate)
      → IsWriting range turn pass before know (done ++ with_fate mark f ∷ left)
      → map replica_of (done ++ mark ∷ left) ≡ replicas
      → SoFar know ((done ++ with_fate mark f ∷ []) ++ left)
  moved know done left mark f writing serve =
      subst (SoFar know) (sym (append_assoc done (with_fate mark f ∷ []) left))
      (record { writing = writing; serve = same_replicas done left mark f ∙ serve })

pub pushed : (P : Mark → Type 0) (done : List Mark) (mark : Mark) → AllByRecursion P done → P mark
    → AllByRecursion P (done ++ mark ∷ [])
pushed P done mark h p = all_both P done (mark ∷ []) h (p, tt)
