use Rattle.std.proofs.Common.{◌≡◌, ◌∙◌, ◌++◌, ◌∷◌, [], ap, append-nil, append_assoc, length, subst, sym, rules, arith}
use Rattle.std.proofs.lemmas.List.{nil_from_length}
use Rattle.std.specs.Vec.Iter.{into_iter_items}
use Rattle.kept_groups.specs.Changes.{comes, gones}
use Rattle.kept_groups.specs.Trades.{AreGroupsOver}
use Rattle.kept_groups.proofs.ChangeLemmas.{can_put, can_trade, if_gone, step}
use Rattle.kept_groups.proofs.changes.change_groups.Goals as goal

pub change_group-requires-clause-trade : goal.change_group-requires-clause-trade
change_group-requires-clause-trade c =
    let change = c.in-Some.change in
    let left = into_iter_items c.next.new.self in
    let so_far = c.loop-change.invariant.so_far in
    let done = so_far.0 in
    let next : into_iter_items c.loop-change.change-iterator ≡ change ∷ left = c.in-Some.ensures.steps.0 in
    let is = so_far.1 ∙ ap (λ l. done ++ l) next in
    let can = c.requires.can in
    let groups = c.loop-change.groups.entries in
    let are = subst (λ l. AreGroupsOver can.1 c.args.with.now (comes done ++ (gones l ++ can.2)) groups) next
    (so_far.2 can.0 can.1 can.2 can.3) in
    if_gone change.gone (λ gone goes. (
      can.0,
      can.1,
      comes done ++ (gones left ++ can.2),
      can_trade can.0 can.1 c.args.with.now can.2 c.args.changes.items c.args.groups.now.entries can.3 done change left is
          groups are gone goes,
    ))

pub change_group-requires-clause-put : goal.change_group-requires-clause-put
change_group-requires-clause-put c none =
    let change = c.in-Some.change in
    let left = into_iter_items c.next.new.self in
    let so_far = c.loop-change.invariant.so_far in
    let done = so_far.0 in
    let next : into_iter_items c.loop-change.change-iterator ≡ change ∷ left = c.in-Some.ensures.steps.0 in
    let is = so_far.1 ∙ ap (λ l. done ++ l) next in
    let can = c.requires.can in
    let groups = c.loop-change.groups.entries in
    let are = subst (λ l. AreGroupsOver can.1 c.args.with.now (comes done ++ (gones l ++ can.2)) groups) next
    (so_far.2 can.0 can.1 can.2 can.3) in
    can_put can.0 can.1 c.args.with.now can.2 c.args.changes.items c.args.groups.now.entries can.3 done change left is groups
    are none

pub loop-change-preserved : goal.loop-change-preserved
loop-change-preserved c =
    let change = c.in-Some.change in
    let left = into_iter_items c.next.new.self in
    let so_far = c.loop-change.invariant.so_far in
    let done = so_far.0 in
    let next : into_iter_items c.loop-change.change-iterator ≡ change ∷ left = c.in-Some.ensures.steps.0 in
    let is = so_far.1 ∙ ap (λ l. done ++ l) next in
    let groups = c.loop-change.groups.entries in
    let new = c.change_group.new.groups.entries in
    record {
      room = omega (
        arith,
        c.loop-change.invariant.room,
        ap (λ l. length l) next,
        c.change_group.ensures.room,
      );
      counted = search rules;
      so_far = (
        done ++ change ∷ [],
        is ∙ sym (append_assoc done (change ∷ []) left),
        λ columns by rest can.
            let are = subst (λ l. AreGroupsOver by c.args.with.now (comes done ++ (gones l ++ rest)) groups) next
            (so_far.2 columns by rest can) in
            step columns by c.args.with.now rest c.args.changes.items c.args.groups.now.entries can done change left is
            groups are new c.change_group.ensures.traded c.change_group.ensures.put,
      );
    }

pub returns : goal.returns
returns c =
    let left = into_iter_items c.loop-change.change-iterator in
    let ended : left ≡ [] = nil_from_length left (sym c.loop-change.invariant.counted ∙ c.in-None.ensures.steps.0) in
    let so_far = c.loop-change.invariant.so_far in
    let done = so_far.0 in
    let all : done ≡ c.args.changes.items = sym (append-nil done) ∙ ap (λ l. done ++ l) (sym ended) ∙ sym so_far.1 in
    let groups = c.loop-change.groups.entries in record {
      changed = λ columns by rest can.
          subst (λ l. AreGroupsOver by c.args.with.now (comes l ++ rest) groups) all
          (subst (λ l. AreGroupsOver by c.args.with.now (comes done ++ (gones l ++ rest)) groups) ended
          (so_far.2 columns by rest can));
    }
