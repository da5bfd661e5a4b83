use Rattle.std.proofs.Common.{◌≡◌, ◌∙◌, ◌+◌, ◌-◌, leb, leb-true, ap, sym, arith, rules, slice_get}
use Rattle.std.proofs.lemmas.List.Sorted.{IsPartitionPoint-from_clause, IsPartitionedBy-leb}
use Rattle.mon_series.specs.declared.order.Run.{Run}
use Rattle.mon_series.specs.within.Orders.{places_of}
use Rattle.mon_series.proofs.OrderLemmas.{begin_rising, inner_place, last_place, some_begun}
use Rattle.mon_series.proofs.order.run_at.Goals as goal

pub returns-then-number-last-clause-place : goal.returns-then-number-last-clause-place
returns-then-number-last-clause-place c = λ end within.
    let runs = c.args.runs.now in
    let last = c.args.last in
    let begins : c.args.number ≡ c.args.number - 0 = omega arith in
    ap (slice_get (places_of runs last end)) (begins ∙ ap (λ n. c.args.number - n) (sym c.requires.begins))
    ∙ last_place runs last end c.args.number c.requires.ordered (search rules) within

pub overflow_sub-result : goal.overflow_sub-result
overflow_sub-result c =
    let number = c.args.number in
    let runs = c.args.runs.now in
    let point = IsPartitionPoint-from_clause (λ (run : Run). leb run.first number) runs c.partition_point-begun.result
    c.partition_point-begun.ensures.partitioned
    (IsPartitionedBy-leb (λ (run : Run). run.first) runs number (begin_rising runs c.args.last c.requires.ordered))
    (λ a r q k. search rules) in
    some_begun runs c.args.last number c.partition_point-begun.result c.requires.begins (search rules) point.1

pub returns-clause-within : goal.returns-clause-within
returns-clause-within c =
    let number = c.args.number in
    let runs = c.args.runs.now in
    let begun = c.partition_point-begun.result in
    let point = IsPartitionPoint-from_clause (λ (run : Run). leb run.first number) runs begun
    c.partition_point-begun.ensures.partitioned
    (IsPartitionedBy-leb (λ (run : Run). run.first) runs number (begin_rising runs c.args.last c.requires.ordered))
    (λ a r q k. search rules) in
    let some = some_begun runs c.args.last number begun c.requires.begins (search rules) point.1 in
    leb-true _ number (point.0 (begun - 1) _ (omega arith) (omega (arith, some)))

pub returns-clause-place : goal.returns-clause-place
returns-clause-place c = λ end within.
    let number = c.args.number in
    let runs = c.args.runs.now in
    let last = c.args.last in
    let begun = c.partition_point-begun.result in
    let point = IsPartitionPoint-from_clause (λ (run : Run). leb run.first number) runs begun
    c.partition_point-begun.ensures.partitioned
    (IsPartitionedBy-leb (λ (run : Run). run.first) runs number (begin_rising runs c.args.last c.requires.ordered))
    (λ a r q k. search rules) in
    let some = some_begun runs last number begun c.requires.begins (search rules) point.1 in
    let bound = c.partition_point-begun.ensures.bound in
    let begins : number ≡ number - 0 = omega arith in
    let next : begun - 1 + 1 ≡ begun = omega (arith, some) in
    let below = leb-true _ number (point.0 (begun - 1) _ (omega arith) (omega (arith, some))) in
    ap (slice_get (places_of runs last end)) (begins ∙ ap (λ n. number - n) (sym c.requires.begins))
    ∙ inner_place runs last end number (begun - 1) _ c.requires.ordered (omega (arith, some, bound)) below
    (search rules) (λ k d low high. point.1 k d (omega (arith, next, low)) high)
