-- The names of queries, with a query more.
use Rattle.std.proofs.Common.{◌≡◌, ◌∙◌, ◌<◌, ◌≤ℤ◌, ◌||◌, ◌++◌, ◌∷◌, [], ℕ, ℤ, pos, Bool, true, false, List, cond, refl}
use Rattle.std.proofs.Common.{sym, arith}
use Rattle.std.proofs.lemmas.Int.{ints}
use Rattle.std.proofs.lemmas.List.Folds.{list_any-append}
use Rattle.std.specs.Cmp.Lexicographic.{texts_ties}
use Rattle.std.specs.List.{AllByRecursion}
use Rattle.std.specs.Ordering.{is_eq}
use Rattle.mon_value.specs.Order.{text_cmp}
use Rattle.mon_value.specs.Same.{same_text}
use Rattle.standing.specs.DueLists.{is_taken, HasPeriod, seconds}
use Rattle.standing.specs.declared.queries.StandingQuery.{StandingQuery}

either : (here before : Bool) → cond here true before ≡ before || (here || false)
either true true = refl
either true false = refl
either false true = refl
either false false = refl

-- a name is taken where it was, or where it is the new one
pub named_more : (queries : List StandingQuery) (query : StandingQuery) (before after : List ℕ → Bool)
    → ((name : List ℕ) → before name ≡ is_taken name queries)
    → ((name : List ℕ) → after name ≡ cond (is_eq (text_cmp query.name name)) true (before name))
    → (name : List ℕ) → after name ≡ is_taken name (queries ++ query ∷ [])
named_more queries query before after held updated name =
    let test : StandingQuery → Bool = λ q. same_text q.name name in
    updated name
    ∙ (λ i. cond (sym (texts_ties query.name name) i) true (held name i))
    ∙ either (same_text query.name name) (is_taken name queries)
    ∙ sym (list_any-append test queries (query ∷ []))

pub lawful_more : (queries : List StandingQuery) (query : StandingQuery) → AllByRecursion HasPeriod queries
    → HasPeriod query → AllByRecursion HasPeriod (queries ++ query ∷ [])
lawful_more [] query all has = (has, tt)
lawful_more (q ∷ queries) query all has = (all.0, lawful_more queries query all.1 has)

pub has_period : (period : ℤ) → pos 1 ≤ℤ period → 0 < seconds period
has_period period some = omega (arith, ints)
