use Rattle.std.proofs.Common.{◌≡◌, ◌++◌, None, IfSome, Option, option_to_list, sym, ap, subst, ◌∙◌}
use Rattle.std.specs.Map.{lookup}
use Rattle.indexmap.specs.IndexMap.{get}
use Rattle.indexmap.proofs.CallerLemmas.{insert_entry-new}
use Rattle.mon_value.specs.Same.{same_row}
use Rattle.mon_value.specs.contracts.tables.TimedRowPartialEq.TheImpl as derived
use Rattle.mon_fold.proofs.KeptGroups.{absent_by_test, from_ok}
use Rattle.mon_fold.specs.PartialGroups.{PartialGroup}
use Rattle.mon_fold.proofs.merging.add_group.Goals as goal

pub returns-in-Some-clause-added : goal.returns-in-Some-clause-added
returns-in-Some-clause-added c =
    let groups = c.args.groups.now in
    let key = c.in-Some.key in
    let parts = c.in-Some.parts in
    let absent : lookup (same_row key) groups.entries ≡ None =
    subst (λ (r : Option PartialGroup). IfSome r (λ g. lookup (same_row g.0) groups.entries ≡ None)) c.in-Some.is
    c.requires.new in
    let none : get derived.eq-value.it groups key ≡ None = absent_by_test key groups.entries absent in
    from_ok c.insert.result c.insert.ensures.entries (c.insert.ensures.succeeds c.requires.room)
    ∙ insert_entry-new derived.eq-value.it groups key parts none
    ∙ ap (λ (r : Option PartialGroup). groups.entries ++ option_to_list r) (sym c.in-Some.is)
