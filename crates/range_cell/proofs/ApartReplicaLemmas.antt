-- The replicas of a write's marks stand apart, so what comes to one is none of another's.
use Rattle.std.proofs.Common.{◌≡◌, ℕ, false, List, [], ◌∷◌, ◌++◌, map, refl, ap, nat_eq}
use Rattle.std.specs.List.{AllByRecursion}
use Rattle.mon_value.specs.declared.positions.Range.{Range}
use Rattle.mon_value.specs.declared.positions.SlotLeaf.{SlotLeaf}
use Rattle.mon_value.specs.Turns.{Turn}
use Rattle.range_cell.proofs.CallLemmas.{BringNothing}
use Rattle.range_cell.proofs.TurnEntryLemmas.{others_nothing}
use Rattle.range_cell.specs.Stages.{AreApart, IsApart}
use Rattle.range_cell.specs.Writing.{put_of}
use Rattle.write_core.specs.Marks.{replica_of, with_fate}
use Rattle.write_core.specs.declared.marks.Fate.{Fate}
use Rattle.write_core.specs.declared.marks.Mark.{Mark}

pub same_replicas : (done left : List Mark) (mark : Mark) (f : Fate)
    → map replica_of (done ++ with_fate mark f ∷ left) ≡ map replica_of (done ++ mark ∷ left)
same_replicas [] left mark f = refl
same_replicas (x ∷ done) left mark f = ap (λ rest. replica_of x ∷ rest) (same_replicas done left mark f)

module _ (P : SlotLeaf → Type 0) where
  pub at_mark : (done left : List Mark) (mark : Mark) → AllByRecursion P (map replica_of (done ++ mark ∷ left))
      → P (replica_of mark)
  at_mark [] left mark h = h.0
  at_mark (x ∷ done) left mark h = at_mark done left mark h.1

module _ (range : Range) (turn : Turn) (pass : ℕ) (mark : Mark) where
  abbrev Nothing : Mark → Type 0
  Nothing x = BringNothing range x.slot (put_of pass range turn mark ∷ [])

  nothing_at : (x : Mark) → nat_eq x.slot.0 mark.slot.0 ≡ false → Nothing x
  nothing_at x apart = others_nothing pass range mark.slot turn x.slot apart

  nothing_behind : (left : List Mark) → AllByRecursion (IsApart (replica_of mark)) (map replica_of left)
      → AllByRecursion Nothing left
  nothing_behind [] h = tt
  nothing_behind (x ∷ left) h = (nothing_at x h.0.second, nothing_behind left h.1)

  pub apart_left : (done left : List Mark) → AreApart (map replica_of (done ++ mark ∷ left)) → AllByRecursion Nothing left
  apart_left [] left h = nothing_behind left h.0
  apart_left (x ∷ done) left h = apart_left done left h.1

  pub apart_done : (done left : List Mark) → AreApart (map replica_of (done ++ mark ∷ left)) → AllByRecursion Nothing done
  apart_done [] left h = tt
  apart_done (x ∷ done) left h =
      (nothing_at x (at_mark (IsApart (replica_of x)) done left mark h.0).first, apart_done done left h.1)
