use Rattle.std.proofs.Common.{◌≡◌, ◌∷◌, ◌++◌, List, refl, sym, ap, ◌∙◌}
use Rattle.std.specs.Vec.Iter.{into_iter_items}
use Rattle.mon_fold.proofs.GroupKeyLemmas.{distinct_rows, KeyedGroup}
use Rattle.mon_fold.proofs.KeptGroups.{copy_put}
use Rattle.mon_fold.specs.GroupKeys.{key_row, owned_groups}
use Rattle.mon_fold.proofs.grouping.groups_with_rows.Goals as goal

pub loop-key-preserved : goal.loop-key-preserved
loop-key-preserved c =
    let owned = c.loop-key.owned in
    let key = c.in-Some.key in
    let parts = c.in-Some.parts in
    let all = c.args.groups.entries in
    let rest : List KeyedGroup = into_iter_items c.next.new.self in
    let next : into_iter_items c.loop-key.key-iterator ≡ (key, parts) ∷ rest = c.in-Some.ensures.steps.0 in
    let whole : owned.entries ++ (key_row key, parts) ∷ owned_groups rest ≡ owned_groups all =
    ap (λ (left : List KeyedGroup). owned.entries ++ owned_groups left) (sym next) ∙ c.loop-key.invariant in
    let distinct = distinct_rows all c.into_entries-key-items.ensures.unique in
    copy_put owned c.in_ok-to_row.field-0 (key_row key) parts parts (owned_groups rest) (owned_groups all)
    c.insert.new.self.entries c.in_ok-to_row.ensures refl c.in_ok-insert.ensures.entries whole distinct
