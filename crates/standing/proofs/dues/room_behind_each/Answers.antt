use Rattle.std.proofs.Common.{rules, ◌≡◌, ◌∙◌, ◌+◌, ◌∷◌, ◌++◌, [], ℕ, ℤ, drop, take, to_z}
use Rattle.std.proofs.Common.{of_z, w64, subst, ap, sym, arith}
use Rattle.std.specs.List.{AllByRecursion, sum_by}
use Rattle.std.proofs.lemmas.List.{drop_more, take_all, take_more}
use Rattle.std.proofs.lemmas.List.Sums.{sum_by-append}
use Rattle.standing.specs.DueLists.{HasPeriod, due_count, times_due}
use Rattle.standing.specs.declared.queries.StandingQuery.{StandingQuery}
use Rattle.standing.proofs.dues.room_behind_each.Goals as goal

pub times_due-requires : goal.times_due-requires
times_due-requires c =
    let queries = c.args.block.now in
    let i = c.loop-query.query-index in
    let q : StandingQuery = c.query-item.result in
    let next : drop i queries ≡ q ∷ drop (i + 1) queries = drop_more queries i q (omega (arith, c.loop-query-test.true))
    ∙ ap (λ (x : StandingQuery). x ∷ drop (i + 1) queries) (sym c.query-item.is) in
    record { lawful = (subst (AllByRecursion HasPeriod) next c.loop-query.invariant.lawful).0 }

pub loop-query-preserved : goal.loop-query-preserved
loop-query-preserved c =
    let queries = c.args.block.now in
    let i = c.loop-query.query-index in
    let q : StandingQuery = c.query-item.result in
    let moment : ℤ = to_z w64 (of_z w64 c.args.moment) in
    let f : StandingQuery → ℕ = times_due c.args.last moment in
    let next : drop i queries ≡ q ∷ drop (i + 1) queries = drop_more queries i q (omega (arith, c.loop-query-test.true))
    ∙ ap (λ (x : StandingQuery). x ∷ drop (i + 1) queries) (sym c.query-item.is) in
    let more : take (i + 1) queries ≡ take i queries ++ q ∷ [] =
    take_more queries i q (omega (arith, c.loop-query-test.true))
    ∙ ap (λ (x : StandingQuery). take i queries ++ x ∷ []) (sym c.query-item.is) in
    let sum : sum_by f (take (i + 1) queries) ≡ sum_by f (take i queries) + (0 + f q) =
    ap (sum_by f) more ∙ sum_by-append f (take i queries) (q ∷ []) in
    let due : c.times_due.result ≡ f q = c.times_due.ensures.count in
    let left = c.in_ok-left.ensures in
    let so_far = c.loop-query.invariant.room in
    record {
      lawful = (subst (AllByRecursion HasPeriod) next c.loop-query.invariant.lawful).1;
      room = omega (arith, sum, due, left, so_far);
    }

pub returns : goal.returns
returns c =
    let queries = c.args.block.now in
    let i = c.loop-query.query-index in
    let moment : ℤ = to_z w64 (of_z w64 c.args.moment) in
    let same : moment ≡ c.args.moment = search rules in
    let all : take i queries ≡ queries = take_all i queries (omega (arith, c.loop-query-test.false)) in
    record {
      left = ap (λ (n : ℕ). c.loop-query.left + n)
          (ap (λ (z : ℤ). due_count c.args.last z queries) (sym same)
          ∙ ap (due_count c.args.last moment) (sym all))
          ∙ c.loop-query.invariant.room;
    }
