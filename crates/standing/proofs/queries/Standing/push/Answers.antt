use Rattle.std.proofs.Common.{rules, ◌≡◌, ◌∙◌, ◌<◌, ◌++◌, ◌∷◌, [], ℕ, ℤ, List, true, cond}
use Rattle.std.proofs.Common.{to_z, of_z, w64, subst, ap, sym}
use Rattle.std.specs.BTreeSet.{contains}
use Rattle.std.specs.List.{AllByRecursion}
use Rattle.std.specs.Ordering.{is_eq}
use Rattle.mon_value.specs.Order.{text_cmp}
use Rattle.standing.specs.DueLists.{is_taken, HasPeriod, seconds}
use Rattle.standing.specs.declared.queries.StandingQuery.{StandingQuery}
use Rattle.standing.proofs.NameLemmas.{has_period, lawful_more, named_more}
use Rattle.standing.specs.QuietMoments.{AreQuiet}
use Rattle.standing.proofs.queries.Standing.push.Goals as goal

pub invariant_of-self-2 : goal.invariant_of-self-2
invariant_of-self-2 c =
    let queries : List StandingQuery = c.self.inside.queries.items in
    let query : StandingQuery = c.in_ok-query.query in
    let pushed : c.push_reserved.new.self.items ≡ queries ++ query ∷ [] =
    c.push_reserved.ensures.items ∙ ap (λ (qs : List StandingQuery). qs ++ query ∷ []) c.reserve.ensures.items in
    let same : to_z w64 (of_z w64 c.args.period) ≡ c.args.period = search rules in
    let some : 0 < seconds (to_z w64 (of_z w64 c.args.period)) =
    subst (λ (z : ℤ). 0 < seconds z) (sym same) (has_period c.args.period c.requires.period) in
    let has : HasPeriod query = subst HasPeriod (sym c.in_ok-query.ensures.query) some in
    let key : c.in_ok-key.key ≡ query.name =
    c.in_ok-key.ensures.equal ∙ sym (ap (λ (q : StandingQuery). q.name) c.in_ok-query.ensures.query) in
    let seen : c.as_slice.result.now ≡ queries = search rules in
    record {
      quiet = subst (AreQuiet c.self.inside.last c.note.new.nexts.items)
          (ap (λ (qs : List StandingQuery). qs ++ query ∷ []) seen ∙ sym pushed) c.note.ensures.quiet;
      counted = c.self.invariant.counted;
      lawful = subst (AllByRecursion HasPeriod) (sym pushed) (lawful_more queries query c.self.invariant.lawful has);
      named = λ name. named_more queries query (λ n. contains text_cmp c.self.inside.names n)
          (λ n. contains text_cmp c.insert.new.self n) c.self.invariant.named
          (λ n. c.in_ok-insert.ensures.updates.0 n
          ∙ ap (λ (k : List ℕ). cond (is_eq (text_cmp k n)) true (contains text_cmp c.self.inside.names n)) key) name
          ∙ ap (λ (qs : List StandingQuery). is_taken name qs) (sym pushed);
    }
