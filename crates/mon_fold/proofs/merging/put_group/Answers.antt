use Rattle.std.proofs.Common.{◌≡◌, ◌++◌, None, Option, option_to_list, IfSome, sym, ap, subst, ◌∙◌, arith}
use Rattle.std.specs.Map.{lookup}
use Rattle.std.specs.Vec.Iter.{into_iter_items, into_iter_len}
use Rattle.mon_value.specs.Same.{same_row}
use Rattle.mon_fold.proofs.KeptGroups.{can_merge_found, copy_next, left_behind, put_new, put_there}
use Rattle.mon_fold.specs.PartialGroups.{PartialGroup}
use Rattle.mon_fold.proofs.merging.put_group.Goals as goal

pub merge_lists-requires : goal.merge_lists-requires
merge_lists-requires c = can_merge_found c.args.key.now c.args.parts.now c.in-Some.kept.now c.args.groups.now.entries
    c.in-Some.ensures.value c.requires.can

pub returns-in-Some-clause-put : goal.returns-in-Some-clause-put
returns-in-Some-clause-put c =
    let w = c.merge_lists.new.into in
    (c.get_mut.follows.holds w).0
    ∙ put_there c.args.key.now c.args.parts.now c.args.groups.now.entries c.in-Some.kept.now w c.in-Some.ensures.value
    c.merge_lists.ensures

pub add_group-requires : goal.add_group-requires
add_group-requires c =
    let key = c.args.key.now in
    let g : PartialGroup = (key, c.args.parts.now) in
    let items = into_iter_items c.args.copies.now in
    let next = copy_next g c.args.groups.now.entries c.next.result items (into_iter_items c.next.new.self)
    (into_iter_len c.args.copies.now) c.in-None.ensures.value c.requires.next c.next.ensures.items
    c.next.ensures.variant c.requires.counted in
    let there = next.2 in
    let lent = c.get_mut.follows.holds-at-none in record {
      room = rw lent (omega arith);
      new =
          subst (λ (r : Option PartialGroup).
          IfSome r (λ h. lookup (same_row h.0) c.get_mut.follows.lender-at-none.entries ≡ None)) (sym next.1)
          (ap (λ m. lookup (same_row key) m.entries) lent ∙ next.0);
    }

pub returns-in-None-clause-put : goal.returns-in-None-clause-put
returns-in-None-clause-put c =
    let groups = c.args.groups.now in
    let key = c.args.key.now in
    let g : PartialGroup = (key, c.args.parts.now) in
    let items = into_iter_items c.args.copies.now in
    let next = copy_next g groups.entries c.next.result items (into_iter_items c.next.new.self)
    (into_iter_len c.args.copies.now) c.in-None.ensures.value c.requires.next c.next.ensures.items
    c.next.ensures.variant c.requires.counted in
    let lent = c.get_mut.follows.holds-at-none in
    c.add_group.ensures.added ∙ (λ i. (lent i).entries ++ option_to_list (next.1 i)) ∙ put_new key c.args.parts.now
    groups.entries c.in-None.ensures.value

pub returns-in-None-clause-left : goal.returns-in-None-clause-left
returns-in-None-clause-left c =
    let es = c.args.groups.now.entries in
    let g : PartialGroup = (c.args.key.now, c.args.parts.now) in
    let items = into_iter_items c.args.copies.now in
    let rest = into_iter_items c.next.new.self in
    let next = copy_next g es c.next.result items rest (into_iter_len c.args.copies.now) c.in-None.ensures.value
    c.requires.next c.next.ensures.items c.next.ensures.variant c.requires.counted in
    left_behind es g c.next.result items rest next.0 c.next.ensures.items next.1
