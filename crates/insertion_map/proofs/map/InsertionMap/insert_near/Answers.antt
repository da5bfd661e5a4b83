use Rattle.std.proofs.Common.{◌≡◌, ◌∷◌, [], ◌++◌, length, sym, ap, ◌∙◌, subst, arith, Some}
use Rattle.std.specs.List.{IsDistinct}
use Rattle.std.specs.Map.{keys_of, lookup}
use Rattle.std_collections.proofs.Entries.{keys_set_value_at, length-set_value_at}
use Rattle.std_collections.proofs.HashLookup.{Updated, Updated-set, Updated-push, distinct_push}
use Rattle.indexmap.proofs.MapLemmas.{Found-position, Missing-position, insert_entry-first, insert_entry-absent}
use Rattle.insertion_map.proofs.map.InsertionMap.insert_near.Goals as goal

pub returns-in-Ok-clause-index : goal.returns-in-Ok-clause-index
returns-in-Ok-clause-index g c =
    let test = g.K.PartialEq.eq c.args.key in
    sym (Found-position test c.args.self.now.entries _ c.in-Ok.ensures.found).or_len

pub returns-in-Ok-clause-old : goal.returns-in-Ok-clause-old
returns-in-Ok-clause-old g c =
    let test = g.K.PartialEq.eq c.args.key in
    let found = Found-position test c.args.self.now.entries _ c.in-Ok.ensures.found in
    sym (found.value ∙ c.replace_value.ensures.took)

pub returns-in-Ok-clause-updates : goal.returns-in-Ok-clause-updates
returns-in-Ok-clause-updates g c =
    let test = g.K.PartialEq.eq c.args.key in
    let entries = c.args.self.now.entries in
    let found = Found-position test entries _ c.in-Ok.ensures.found in
    subst (λ l. Updated g.K.PartialEq.eq g.met.K.Eq.laws test entries l (Some c.args.value))
    (sym c.replace_value.ensures.entries)
    (Updated-set _ g.met.K.Eq.laws _ (g.met.K.Eq.laws.congr c.args.key) _ _ c.args.value found.first)

pub returns-in-Ok-clause-entries : goal.returns-in-Ok-clause-entries
returns-in-Ok-clause-entries g c =
    let test = g.K.PartialEq.eq c.args.key in
    let entries = c.args.self.now.entries in
    let found = Found-position test entries _ c.in-Ok.ensures.found in
    c.replace_value.ensures.entries ∙ sym (insert_entry-first _ _ _ entries _ found.first)

pub returns-in-Ok-clause-len : goal.returns-in-Ok-clause-len
returns-in-Ok-clause-len g c =
    omega (
      arith,
      ap length c.replace_value.ensures.entries,
      length-set_value_at c.args.self.now.entries c.in-Ok.i c.args.value,
    )

pub returns-in-Ok-clause-unique : goal.returns-in-Ok-clause-unique
returns-in-Ok-clause-unique g c =
    subst (IsDistinct g.K.PartialEq.eq) (sym (ap keys_of c.replace_value.ensures.entries ∙ keys_set_value_at _ _ _))
    c.locate.ensures.unique

pub returns-then-not-make_room-clause-absent : goal.returns-then-not-make_room-clause-absent
returns-then-not-make_room-clause-absent g c =
    (Missing-position (g.K.PartialEq.eq c.args.key) c.args.self.now.entries c.in-Err.ensures.absent).value

pub push-requires-clause-absent : goal.push-requires-clause-absent
push-requires-clause-absent g c =
    let test = g.K.PartialEq.eq c.args.key in
    ap (λ l. lookup test l) c.make_room.ensures.same
    ∙ (Missing-position test c.args.self.now.entries c.in-Err.ensures.absent).value

pub returns-clause-index : goal.returns-clause-index
returns-clause-index g c =
    let missing = Missing-position (g.K.PartialEq.eq c.args.key) c.args.self.now.entries c.in-Err.ensures.absent in
    c.len-i.ensures.len ∙ ap length c.make_room.ensures.same ∙ sym missing.or_len

pub returns-clause-old : goal.returns-clause-old
returns-clause-old g c =
    sym (Missing-position (g.K.PartialEq.eq c.args.key) c.args.self.now.entries c.in-Err.ensures.absent).value

pub returns-clause-updates : goal.returns-clause-updates
returns-clause-updates g c =
    let test = g.K.PartialEq.eq c.args.key in
    let entries = c.args.self.now.entries in
    let missing = Missing-position test entries c.in-Err.ensures.absent in
    let entry : g.row.K.Denot × g.row.V.Denot = (c.args.key, c.args.value) in
    let after : c.push.new.self.entries ≡ entries ++ entry ∷ [] = ap (λ n. n.entries) c.push.ensures
    ∙ ap (λ l. l ++ entry ∷ []) c.make_room.ensures.same in
    subst (λ l. Updated g.K.PartialEq.eq g.met.K.Eq.laws test entries l (Some c.args.value)) (sym after)
    (Updated-push _ g.met.K.Eq.laws _ _ c.args.value missing.absent)

pub returns-clause-entries : goal.returns-clause-entries
returns-clause-entries g c =
    let test = g.K.PartialEq.eq c.args.key in
    let entries = c.args.self.now.entries in
    let missing = Missing-position test entries c.in-Err.ensures.absent in
    let entry : g.row.K.Denot × g.row.V.Denot = (c.args.key, c.args.value) in
    let after : c.push.new.self.entries ≡ entries ++ entry ∷ [] = ap (λ n. n.entries) c.push.ensures
    ∙ ap (λ l. l ++ entry ∷ []) c.make_room.ensures.same in
    after ∙ sym (insert_entry-absent _ _ _ entries missing.absent)

pub returns-clause-unique : goal.returns-clause-unique
returns-clause-unique g c =
    let test = g.K.PartialEq.eq c.args.key in
    let entries = c.args.self.now.entries in
    let missing = Missing-position test entries c.in-Err.ensures.absent in
    let entry : g.row.K.Denot × g.row.V.Denot = (c.args.key, c.args.value) in
    let after : c.push.new.self.entries ≡ entries ++ entry ∷ [] = ap (λ n. n.entries) c.push.ensures
    ∙ ap (λ l. l ++ entry ∷ []) c.make_room.ensures.same in
    subst (λ l. IsDistinct g.K.PartialEq.eq (keys_of l)) (sym after)
    (distinct_push _ g.met.K.Eq.laws _ entry c.locate.ensures.unique missing.absent)
