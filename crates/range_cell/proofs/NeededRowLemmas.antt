-- How many rows a write still needs, at the most, and that each step needs no more.
use Rattle.std.proofs.Common.{◌≡◌, ℕ, ◌<◌, ◌≤◌, List, [], ◌∷◌, ◌++◌, length, length-append, sym, ap, ◌∙◌, append_assoc}
use Rattle.std.proofs.Common.{arith}
use Rattle.std.proofs.lemmas.Bool.{cond_both}
use Rattle.know.specs.declared.answers.Found.{Found}
use Rattle.know.specs.declared.answers.Found.TheVariants as found
use Rattle.mon_value.specs.declared.positions.Leaf.{Leaf}
use Rattle.mon_value.specs.declared.positions.Slot.{Slot}
use Rattle.range_cell.specs.Stages.{needed}
use Rattle.range_cell.specs.Turns.{after_put, told_of}
use Rattle.write_core.specs.Marks.{is_ready, with_fate}
use Rattle.write_core.specs.Program.{Acking, Ended, Entering, Inside, Locking, Marked, Reserving, Stage, after, ask_of}
use Rattle.write_core.specs.Program.{enter, entering, inside, next_put, reserve, reserving}
use Rattle.write_core.specs.Rounds.{Round, again, after_skip, is_through, round_marks, round_with_look, skip_unready}
use Rattle.write_core.specs.declared.asks.WriteAsk.TheVariants as ask
use Rattle.write_core.specs.declared.marks.Fate.{Fate}
use Rattle.write_core.specs.declared.marks.Fate.TheVariants as fate
use Rattle.write_core.specs.declared.marks.Mark.{Mark}

skip_needs : (done left : List Mark) → length (skip_unready done left).left ≤ length left
skip_needs done [] = omega arith
skip_needs done (mark ∷ left) =
    cond_both (is_ready mark.fate) (record { done = done; left = mark ∷ left }) (skip_unready (done ++ mark ∷ []) left)
    (λ (r : Round). length r.left ≤ length (mark ∷ left)) (λ ready. omega arith)
    (λ more. let rest = skip_needs (done ++ mark ∷ []) left in omega arith)

pub entering_needs : (done left : List Mark) → needed (entering (record { done = done; left = left })) ≤ length left
entering_needs done left =
    let next = after_skip (record { done = done; left = left }) in
    let few = skip_needs done left in
    cond_both (is_through next) (Acking (Marked (round_marks next))) (Entering next) (λ (s : Stage). needed s ≤ length left)
    (λ through. omega arith) (λ more. few)

pub reserving_needs : (done left : List Mark) → needed (reserving (record { done = done; left = left })) ≤ length (done ++ left)
reserving_needs done left =
    let round : Round = record { done = done; left = left } in
    cond_both (is_through round) (entering (again round)) (Reserving round) (λ (s : Stage). needed s ≤ length (done ++ left))
    (λ through. entering_needs [] (done ++ left)) (λ more. omega arith)

same_length : (done left : List Mark) (mark other : Mark) → length ((done ++ other ∷ []) ++ left) ≡ length (done ++ mark ∷ left)
same_length done left mark other = ap length (append_assoc done (other ∷ []) left) ∙ length-append done (other ∷ left)
    ∙ sym (length-append done (mark ∷ left))

needs_next : (done left : List Mark) (slot : Slot) (leaf : Leaf) → reserve left ≡ ask.Reserve slot leaf → (f : Fate)
    → needed (reserving (round_with_look done left f)) ≤ length (done ++ left)
needs_next done [] slot leaf asks f = absurd cc
needs_next done (mark ∷ left) slot leaf asks f =
    let few = reserving_needs (done ++ with_fate mark f ∷ []) left in
    let same = same_length done left mark (with_fate mark f) in
    omega arith

pub reserve_needs : (stage : Stage) (slot : Slot) (leaf : Leaf) → ask_of stage ≡ ask.Reserve slot leaf → (f : Found)
    → needed (after stage (told_of f)) ≤ needed stage
reserve_needs Locking slot leaf asks f = absurd cc
reserve_needs (Reserving round) slot leaf asks found.Up = needs_next round.done round.left slot leaf asks fate.Ready
reserve_needs (Reserving round) slot leaf asks (found.Down cut) =
    needs_next round.done round.left slot leaf asks (fate.Missed cut)
reserve_needs (Entering round) slot leaf asks f = absurd (entering_not round.left asks)
  where
    entering_not : (left : List Mark) → enter left ≡ ask.Reserve slot leaf → ⊥
    entering_not [] h = cc
    entering_not (mark ∷ left) h = cc
reserve_needs (Inside round at_root in_zone) slot leaf asks f = absurd (inside_not round.left at_root in_zone asks)
  where
    put_not : (left : List Mark) → next_put left ≡ ask.Reserve slot leaf → ⊥
    put_not [] h = cc
    put_not (mark ∷ left) h = cc

    inside_not : (left : List Mark) (at_root in_zone : List ℕ) → inside left at_root in_zone ≡ ask.Reserve slot leaf → ⊥
    inside_not left (b ∷ at_root) in_zone h = cc
    inside_not left [] (b ∷ in_zone) h = cc
    inside_not left [] [] h = put_not left h
reserve_needs (Acking verdict) slot leaf asks f = absurd cc
reserve_needs (Ended verdict) slot leaf asks f = absurd cc

enter_next : (done left : List Mark) (slot : Slot) (leaf : Leaf) → enter left ≡ ask.Enter slot leaf → (f : Fate)
    → needed (entering (round_with_look done left f)) < length left
enter_next done [] slot leaf asks f = absurd cc
enter_next done (mark ∷ left) slot leaf asks f =
    let few = entering_needs (done ++ with_fate mark f ∷ []) left in omega arith

pub put_needs : (stage : Stage) (slot : Slot) (leaf : Leaf) → ask_of stage ≡ ask.Enter slot leaf → (f : Found)
    → needed (after_put stage f) < needed stage
put_needs Locking slot leaf asks f = absurd cc
put_needs (Reserving round) slot leaf asks f = absurd (reserving_not round.left asks)
  where
    reserving_not : (left : List Mark) → reserve left ≡ ask.Enter slot leaf → ⊥
    reserving_not [] h = cc
    reserving_not (mark ∷ left) h = cc
put_needs (Entering round) slot leaf asks found.Up = enter_next round.done round.left slot leaf asks fate.Took
put_needs (Entering round) slot leaf asks (found.Down cut) =
    enter_next round.done round.left slot leaf asks (fate.Missed cut)
put_needs (Inside round at_root in_zone) slot leaf asks f = absurd (inside_not round.left at_root in_zone asks)
  where
    put_not : (left : List Mark) → next_put left ≡ ask.Enter slot leaf → ⊥
    put_not [] h = cc
    put_not (mark ∷ left) h = cc

    inside_not : (left : List Mark) (at_root in_zone : List ℕ) → inside left at_root in_zone ≡ ask.Enter slot leaf → ⊥
    inside_not left (b ∷ at_root) in_zone h = cc
    inside_not left [] (b ∷ in_zone) h = cc
    inside_not left [] [] h = put_not left h
put_needs (Acking verdict) slot leaf asks f = absurd cc
put_needs (Ended verdict) slot leaf asks f = absurd cc
