use Rattle.std.proofs.Common.{◌≡◌, ◌++◌, None, Some, Option, option_to_list, ap, ◌∙◌}
use Rattle.std.specs.Map.{lookup}
use Rattle.mon_value.specs.Same.{same_row}
use Rattle.mon_fold.proofs.KeptGroups.{can_merge_found, found_group, put_new, put_there}
use Rattle.mon_fold.specs.PartialGroups.{PartialGroup}
use Rattle.mon_fold.proofs.open_groups.put_group.Goals as goal

pub merge_lists-requires : goal.merge_lists-requires
merge_lists-requires c = can_merge_found c.args.key c.args.parts c.in-Some.kept.now c.args.groups.now.entries
    c.in-Some.ensures.value c.requires.can

pub returns-in-Some-clause-put : goal.returns-in-Some-clause-put
returns-in-Some-clause-put c =
    let w = c.merge_lists.new.into in
    (c.get_mut.follows.holds w).0
    ∙ put_there c.args.key c.args.parts c.args.groups.now.entries c.in-Some.kept.now w c.in-Some.ensures.value
    c.merge_lists.ensures

pub add_group-requires : goal.add_group-requires
add_group-requires c =
    let key = c.args.key in
    let lent = c.get_mut.follows.holds-at-none in record {
      room = rw lent c.requires.room;
      new =
          ap (λ m. lookup (same_row key) m.entries) lent
          ∙ found_group key c.args.groups.now.entries None c.in-None.ensures.value;
    }

pub returns-in-None-clause-put : goal.returns-in-None-clause-put
returns-in-None-clause-put c =
    let lent = c.get_mut.follows.holds-at-none in
    let group : PartialGroup = (c.args.key, c.args.parts) in
    c.add_group.ensures.added ∙ ap (λ m. m.entries ++ option_to_list (Some group)) lent
    ∙ put_new c.args.key c.args.parts c.args.groups.now.entries c.in-None.ensures.value
