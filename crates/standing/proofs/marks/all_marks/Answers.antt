use Rattle.std.proofs.Common.{rules, ◌≡◌, ◌∙◌, ◌<◌, ◌≤◌, ◌+◌, ◌++◌, [], ℕ, ℤ, List, length, take, drop, to_z, of_z, w64}
use Rattle.std.proofs.Common.{subst, ap, sym, append-nil, arith}
use Rattle.std.specs.List.{AllByRecursion}
use Rattle.standing.specs.DueLists.{HasPeriod, Mark, marks_from}
use Rattle.standing.specs.QuietMoments.{AreQuiet}
use Rattle.standing.specs.declared.queries.StandingQuery.{StandingQuery}
use Rattle.standing.proofs.BlockLemmas.{all_dropped, all_taken, length_split, marks_block, none_left, of_next}
use Rattle.standing.proofs.marks.all_marks.Goals as goal

pub push_block-requires-clause-lawful : goal.push_block-requires-clause-lawful
push_block-requires-clause-lawful c =
    subst (AllByRecursion HasPeriod) (sym c.split_block.ensures.block)
    (all_taken HasPeriod 64 c.loop-next.rest.now c.loop-next.invariant.lawful)

pub loop-next-preserved : goal.loop-next-preserved
loop-next-preserved c =
    let queries : List StandingQuery = c.args.queries.now in
    let rest : List StandingQuery = c.loop-next.rest.now in
    let block : List StandingQuery = c.split_block.result.0.now in
    let behind : List StandingQuery = c.split_block.result.1.now in
    let nexts : List ℕ = c.args.nexts.now in
    let i : ℕ = c.loop-next.next-index in
    let first : ℕ = c.loop-next.first in
    let moment : ℤ = to_z w64 (of_z w64 c.args.moment) in
    let there : i < length nexts = search rules in
    let front : block ≡ take 64 rest = c.split_block.ensures.block in
    let back : behind ≡ drop 64 rest = c.split_block.ensures.behind in
    let many : length block ≡ length (take 64 rest) = ap length front in
    let others : length behind ≡ length (drop 64 rest) = ap length back in
    let places : first + length rest ≡ length queries = c.loop-next.invariant.places in
    let so_far : List Mark = c.loop-next.marks.items in
    let pushed : c.push_block.new.marks.items ≡ so_far ++ marks_from first c.args.last moment block =
    c.in_ok-push_block.ensures.marks in
    record {
      lawful = subst (AllByRecursion HasPeriod) (sym back) (all_dropped HasPeriod 64 rest c.loop-next.invariant.lawful);
      quiet = subst (AreQuiet c.args.last (drop (i + 1) nexts)) (sym back)
          (of_next c.args.last nexts i 0 rest there c.loop-next.invariant.quiet).1;
      places = omega (arith, many, others, places, length_split rest);
      marks = ap (λ (ms : List Mark). ms ++ marks_from (first + length block) c.args.last moment behind) pushed
          ∙ (λ j. (so_far ++ marks_from first c.args.last moment (front j))
          ++ marks_from (first + length (front j)) c.args.last moment (back j))
          ∙ marks_block first c.args.last moment rest so_far
          ∙ c.loop-next.invariant.marks;
    }

pub returns : goal.returns
returns c =
    let queries : List StandingQuery = c.args.queries.now in
    let rest : List StandingQuery = c.loop-next.rest.now in
    let moment : ℤ = to_z w64 (of_z w64 c.args.moment) in
    let same : moment ≡ c.args.moment = search rules in
    let so_far : List Mark = c.loop-next.marks.items in
    let all : length c.args.nexts.now ≤ c.loop-next.next-index = search rules in
    let none : rest ≡ [] = none_left c.args.last c.args.nexts.now c.loop-next.next-index rest all
    c.loop-next.invariant.quiet in
    record {
      marks = sym (append-nil so_far)
          ∙ ap (λ (qs : List StandingQuery). so_far ++ marks_from c.loop-next.first c.args.last moment qs) (sym none)
          ∙ c.loop-next.invariant.marks
          ∙ ap (λ (z : ℤ). marks_from 0 c.args.last z queries) same;
    }
