use Rattle.std.proofs.Common.{◌≡◌, ◌∙◌, ◌++◌, ◌∷◌, [], List, length, map, ap, sym, subst, append_assoc, arith}
use Rattle.std.proofs.lemmas.List.{map-append}
use Rattle.std.specs.Prelude.{string_bytes}
use Rattle.std.specs.List.{AllByRecursion}
use Rattle.std.specs.Vec.Iter.{into_iter_items}
use Rattle.run_traces.specs.declared.traces.DueTrace.{DueTrace}
use Rattle.standing.specs.declared.dues.Due.{Due}
use Rattle.standing.proofs.MomentLemmas.{HasMoment}
use Rattle.part_runs.proofs.TickLemmas.{one_asked}
use Rattle.part_runs.proofs.ticks.ask_all.Goals as goal
use Rattle.running_query.proofs.GoingLemmas.{fronts_through}

pub loop-due-preserved : goal.loop-due-preserved
loop-due-preserved g c =
    let i = c.loop-due.invariant in
    let due = c.in-Some.due in
    let left : List Due = into_iter_items c.next.new.self in
    let next : into_iter_items c.loop-due.due-iterator ≡ due ∷ left = c.in-Some.ensures.steps.0 in
    let asked = c.in_ok-ask_due.ensures.asked in
    let name : DueTrace → Due = λ one. one.due in
    record {
      moments = (subst (AllByRecursion HasMoment) next i.moments).1;
      asked = one_asked due c.loop-due.traces.items c.ask_due.new.traces.items (string_bytes c.loop-due.text)
          (string_bytes c.ask_due.new.text) i.asked asked;
      all = ap (λ (xs : List DueTrace). map name xs ++ left) asked.pushed
          ∙ ap (λ (xs : List Due). xs ++ left) (map-append name c.loop-due.traces.items (asked.one ∷ []))
          ∙ append_assoc (map name c.loop-due.traces.items) (asked.one.due ∷ []) left
          ∙ ap (λ (d : Due). map name c.loop-due.traces.items ++ d ∷ left) asked.due_is
          ∙ ap (λ (xs : List Due). map name c.loop-due.traces.items ++ xs) (sym next) ∙ i.all;
      fronts = fronts_through c.args.p.now.seen c.loop-due.p.seen c.ask_due.new.p.seen i.fronts
          c.ask_due.ensures.fronts;
      count = omega (arith, c.in-Some.ensures.steps.1, i.count, ap (λ (xs : List Due). length xs) next);
    }

pub returns-in_err-ask_due-clause-fronts : goal.returns-in_err-ask_due-clause-fronts
returns-in_err-ask_due-clause-fronts g c = fronts_through c.args.p.now.seen c.loop-due.p.seen c.ask_due.new.p.seen
    c.loop-due.invariant.fronts c.ask_due.ensures.fronts
