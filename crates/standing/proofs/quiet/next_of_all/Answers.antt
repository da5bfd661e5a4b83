use Rattle.std.proofs.Common.{rules, ◌≡◌, ◌∙◌, ◌≤◌, ◌+◌, ◌++◌, ◌∷◌, [], drop, take, subst, ap, sym, arith}
use Rattle.std.specs.List.{AllByRecursion}
use Rattle.std.proofs.lemmas.List.{drop_more, take_more}
use Rattle.standing.specs.DueLists.{HasPeriod}
use Rattle.standing.specs.QuietMoments.{IsQuietUntil}
use Rattle.standing.specs.declared.queries.StandingQuery.{StandingQuery}
use Rattle.standing.proofs.QuietLemmas.{lowered_with}
use Rattle.standing.proofs.quiet.next_of_all.Goals as goal

pub loop-query-preserved : goal.loop-query-preserved
loop-query-preserved c =
    let queries = c.args.queries.now in
    let i = c.loop-query.query-index in
    let q : StandingQuery = c.query-item.result in
    let bound = c.min-next.result in
    let next : drop i queries ≡ q ∷ drop (i + 1) queries = drop_more queries i q (omega (arith, c.loop-query-test.true))
    ∙ ap (λ (x : StandingQuery). x ∷ drop (i + 1) queries) (sym c.query-item.is) in
    let more : take (i + 1) queries ≡ take i queries ++ q ∷ [] =
    take_more queries i q (omega (arith, c.loop-query-test.true))
    ∙ ap (λ (x : StandingQuery). take i queries ++ x ∷ []) (sym c.query-item.is) in
    let before : bound ≤ c.loop-query.next = search rules in
    let here : bound ≤ c.next_of.result = search rules in
    record {
      lawful = (subst (AllByRecursion HasPeriod) next c.loop-query.invariant.lawful).1;
      quiet = subst (AllByRecursion (IsQuietUntil c.args.last bound)) (sym more)
          (lowered_with c.args.last c.loop-query.next c.next_of.result bound (take i queries) q before here
          c.loop-query.invariant.quiet c.next_of.ensures.quiet);
    }
