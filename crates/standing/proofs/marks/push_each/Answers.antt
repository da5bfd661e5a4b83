use Rattle.std.proofs.Common.{rules, ◌≡◌, ◌∙◌, ◌+◌, ◌++◌, ◌∷◌, ◌≤ℤ◌, [], ℕ, ℤ, List, drop, pos}
use Rattle.std.proofs.Common.{to_z, of_z, w64, subst, ap, sym}
use Rattle.std.proofs.Common.{append-nil, arith}
use Rattle.std.specs.List.{AllByRecursion}
use Rattle.std.proofs.lemmas.List.{drop_all, drop_more}
use Rattle.standing.specs.DueLists.{HasPeriod, Mark, due_times, marked, marks_from, seconds}
use Rattle.standing.specs.declared.queries.StandingQuery.{StandingQuery}
use Rattle.standing.proofs.MarkLemmas.{marks_next}
use Rattle.standing.proofs.marks.push_each.Goals as goal

pub push_marks-requires : goal.push_marks-requires
push_marks-requires c =
    let queries = c.args.block.now in
    let i = c.loop-number.number in
    let q : StandingQuery = c.index-block-number.result in
    let next : drop i queries ≡ q ∷ drop (i + 1) queries = drop_more queries i q c.loop-number-test.true
    ∙ ap (λ (x : StandingQuery). x ∷ drop (i + 1) queries) (sym c.index-block-number.is) in
    let same : to_z w64 (of_z w64 c.args.moment) ≡ c.args.moment = search rules in
    record {
      lawful = (subst (AllByRecursion HasPeriod) next c.loop-number.invariant.lawful).0;
      moment = subst (λ (z : ℤ). pos 0 ≤ℤ z) (sym same) c.requires.moment;
    }

pub loop-number-init : goal.loop-number-init
loop-number-init c =
    let queries = c.args.block.now in
    let moment : ℤ = to_z w64 (of_z w64 c.args.moment) in
    let start : c.args.first + 0 ≡ c.args.first = omega arith in
    record {
      lawful = c.requires.lawful;
      marks = ap (λ (n : ℕ). c.args.marks.now.items ++ marks_from n c.args.last moment queries) start;
    }

pub loop-number-preserved : goal.loop-number-preserved
loop-number-preserved c =
    let queries = c.args.block.now in
    let i = c.loop-number.number in
    let n : ℕ = c.args.first + i in
    let q : StandingQuery = c.index-block-number.result in
    let next : drop i queries ≡ q ∷ drop (i + 1) queries = drop_more queries i q c.loop-number-test.true
    ∙ ap (λ (x : StandingQuery). x ∷ drop (i + 1) queries) (sym c.index-block-number.is) in
    let moment : ℤ = to_z w64 (of_z w64 c.args.moment) in
    let so_far : List Mark = c.loop-number.marks.items in
    let rest : ℕ → List Mark = λ k. marks_from k c.args.last moment (drop (i + 1) queries) in
    let on : c.args.first + (i + 1) ≡ n + 1 = omega arith in
    let pushed : c.push_marks.new.marks.items ≡ so_far ++ marked n (due_times c.args.last moment (seconds q.period)) =
    c.in_ok-push_marks.ensures.marks in
    record {
      lawful = (subst (AllByRecursion HasPeriod) next c.loop-number.invariant.lawful).1;
      marks = ap (λ (k : ℕ). c.push_marks.new.marks.items ++ rest k) on
          ∙ ap (λ (ms : List Mark). ms ++ rest (n + 1)) pushed
          ∙ marks_next n c.args.last moment q (drop (i + 1) queries) so_far
          ∙ ap (λ (qs : List StandingQuery). so_far ++ marks_from n c.args.last moment qs) (sym next)
          ∙ c.loop-number.invariant.marks;
    }

pub returns : goal.returns
returns c =
    let queries = c.args.block.now in
    let i = c.loop-number.number in
    let moment : ℤ = to_z w64 (of_z w64 c.args.moment) in
    let same : moment ≡ c.args.moment = search rules in
    let so_far : List Mark = c.loop-number.marks.items in
    let none : drop i queries ≡ [] = drop_all i queries (omega (arith, c.loop-number-test.false)) in
    record {
      marks = sym (append-nil so_far)
          ∙ ap (λ (qs : List StandingQuery). so_far ++ marks_from (c.args.first + i) c.args.last moment qs) (sym none)
          ∙ c.loop-number.invariant.marks
          ∙ ap (λ (z : ℤ). c.args.marks.now.items ++ marks_from c.args.first c.args.last z queries) same;
    }
