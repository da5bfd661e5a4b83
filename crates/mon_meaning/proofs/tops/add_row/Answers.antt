use Rattle.std.proofs.Common.{◌≡◌, ◌∙◌, ◌++◌, ◌∷◌, [], None, ap, sym, to_z, of_z, w64, ℤ, rules}
use Rattle.std.specs.Map.{lookup}
use Rattle.std.specs.Ordering.{int_eq}
use Rattle.indexmap.specs.IndexMap.{get, insert_entry}
use Rattle.indexmap.proofs.CallerLemmas.{insert_entry-new}
use Rattle.mon_value.proofs.GroupLemmas.{with_rows}
use Rattle.mon_value.specs.Same.{same_row}
use Rattle.mon_meaning.specs.within.Times.{groups_at}
use Rattle.mon_meaning.proofs.MapGroups as maps
use Rattle.mon_meaning.proofs.TopLemmas.{rows_held, same_time, time_row}
use Rattle.mon_meaning.proofs.tops.add_row.Goals as goal

pub returns-in_ok-push-in-Some : goal.returns-in_ok-push-in-Some
returns-in_ok-push-in-Some c =
    let row = c.args.row in
    let w = c.push.new.self in
    record {
      added = ap groups_at (c.get_mut.follows.holds w).0
          ∙ maps.put_there int_eq same_row time_row same_time rows_held row.time row c.in-Some.group.now w
          c.args.groups.now.entries c.in-Some.ensures.value c.in_ok-push-in-Some.ensures.items;
    }

pub returns-in_ok-insert-in-None : goal.returns-in_ok-insert-in-None
returns-in_ok-insert-in-None c =
    let row = c.args.row in
    let groups = c.args.groups.now in
    let group = c.push-in-None.new.self in
    let time = to_z w64 (of_z w64 row.time) in
    let same : time ≡ row.time = search rules in
    let absent : None ≡ lookup (int_eq time) groups.entries =
    c.in-None.ensures.value ∙ ap (λ (t : ℤ). lookup (int_eq t) groups.entries) (sym same) in
    let none : get int_eq groups time ≡ None = sym absent in
    let put =
    c.in_ok-insert-in-None.ensures.entries
    ∙ ap (λ m. insert_entry int_eq m.entries time group) c.get_mut.follows.holds-at-none
    ∙ insert_entry-new int_eq groups time group none in
    let made : group.items ≡ row ∷ [] =
    c.in_ok-push-in-None.ensures.items ∙ ap (λ items. items ++ row ∷ []) c.new-group.ensures.items in
    record {
      added = ap groups_at put
          ∙ maps.put_new int_eq same_row time_row same_time rows_held time row group groups.entries absent made
          ∙ ap (λ (t : ℤ). with_rows (groups_at groups.entries) (time_row t, row ∷ [])) same;
    }
