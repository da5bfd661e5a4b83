use Rattle.std.proofs.Common.{◌≡◌, ◌∷◌, [], None, ap, ◌∙◌}
use Rattle.indexmap.specs.IndexMap.{get, insert_entry}
use Rattle.indexmap.proofs.CallerLemmas.{insert_entry-new}
use Rattle.mon_fold.proofs.GroupKeyLemmas.{absent_by_other, added_new, added_there, can_add_found}
use Rattle.mon_fold.specs.GroupKeys.{key_row, owned_groups}
use Rattle.mon_fold.specs.PartialGroups.{parts_over, with_group}
use Rattle.mon_fold.specs.contracts.grouping.GroupKeyPartialEq.TheImpl as derived
use Rattle.mon_fold.proofs.grouping.put_row.Goals as goal

pub add_row-requires : goal.add_row-requires
add_row-requires c =
    can_add_found c.args.key.now (parts_over c.args.with.now (c.args.row.now ∷ [])) c.in-Some.kept.now
    c.args.groups.now.entries c.in-Some.ensures.value c.requires

pub returns-in-Some : goal.returns-in-Some
returns-in-Some c =
    let parts = parts_over c.args.with.now (c.args.row.now ∷ []) in
    let w = c.add_row.new.parts in
    added_there c.args.key.now parts c.in-Some.kept.now w c.args.groups.now.entries
    (c.get_mut.follows.lender w).entries c.in-Some.ensures.value c.add_row.ensures (c.get_mut.follows.holds w).0

pub returns-in_ok-insert-in-None : goal.returns-in_ok-insert-in-None
returns-in_ok-insert-in-None c =
    let groups = c.args.groups.now in
    let key = c.args.key.now in
    let other = c.in_ok-copy-in-None.field-0 in
    let parts = c.in_ok-parts-in-None.parts in
    let none : get derived.eq-value.it groups other ≡ None = absent_by_other key other groups.entries
    c.in_ok-copy-in-None.ensures c.in-None.ensures.value in
    let put =
    c.in_ok-insert-in-None.ensures.entries
    ∙ ap (λ m. insert_entry derived.eq-value.it m.entries other parts) c.get_mut.follows.holds-at-none
    ∙ insert_entry-new derived.eq-value.it groups other parts none in
    added_new key other parts groups.entries c.insert.new.self.entries c.in_ok-copy-in-None.ensures
    c.in-None.ensures.value put
    ∙ ap (λ made. with_group (owned_groups groups.entries) (key_row key, made)) c.in_ok-parts-in-None.ensures
