use Rattle.std.proofs.Common.{◌≡◌, ◌∙◌, ◌*◌, ◌+◌, ◌^◌, ◌<◌, ◌++◌, ◌∷◌, [], ℕ, ℤ, List, map, pos, to_z, w64}
use Rattle.std.proofs.Common.{ap, sym, arith}
use Rattle.std.proofs.lemmas.Int.{to_z_pos}
use Rattle.std.specs.List.{range_with_len}
use Rattle.standing.specs.DueLists.{Mark, marked}
use Rattle.standing.proofs.MarkLemmas.{marks_more}
use Rattle.standing.proofs.marks.push_multiples.Goals as goal

pub loop-i-preserved : goal.loop-i-preserved
loop-i-preserved c =
    let period = c.args.period in
    let first = c.args.first in
    let i = c.loop-i.i in
    let small : period * (first + i) < 2 ^ 63 = c.requires.small (first + i) (omega arith)
    (omega (arith, c.loop-i-test.true)) in
    let cast : to_z w64 (period * (first + i)) ≡ pos (period * (first + i)) =
    to_z_pos w64 (period * (first + i)) small in
    c.in_ok-push.ensures.items
    ∙ ap (λ (z : ℤ). c.loop-i.marks.items ++ (z, c.args.number) ∷ []) cast
    ∙ ap (λ (ms : List Mark). ms ++ (pos (period * (first + i)), c.args.number) ∷ []) c.loop-i.invariant
    ∙ sym (marks_more period first i c.args.number c.args.marks.now.items)

pub returns : goal.returns
returns c =
    let all : c.loop-i.i ≡ c.args.count = omega arith in
    record {
      marks = c.loop-i.invariant ∙ ap (λ (n : ℕ). c.args.marks.now.items
          ++ marked c.args.number (map (λ k. pos (c.args.period * k)) (range_with_len c.args.first n))) all;
    }
