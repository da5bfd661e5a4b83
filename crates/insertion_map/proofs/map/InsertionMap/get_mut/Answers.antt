use Rattle.std.proofs.Common.{refl, sym, ap, ◌∙◌, subst, is_some, true≢false}
use Rattle.std.specs.List.{IsDistinct}
use Rattle.std_collections.proofs.Entries.{keys_set_value_at, among_at, length-set_value_at}
use Rattle.std_collections.proofs.HashLookup.{set_value-IsFirst, set_value-IsAbsent, Updated-set}
use Rattle.indexmap.proofs.MapLemmas.{Found-position, Missing-position}
use Rattle.insertion_map.proofs.map.InsertionMap.get_mut.Goals as goal

pub returns-in-Some : goal.returns-in-Some
returns-in-Some g c =
    let test = g.Q.Equivalent.equivalent c.args.key in
    let found = Found-position test c.args.self.now.entries _ (sym c.in-Some.ensures.index) in
    let value = c.value_mut.ensures.value in
    let unique = c.get_index_of.ensures.unique in (
      (
        refl,
        λ w. (
          set_value-IsFirst _ _ _ w found.first,
          keys_set_value_at _ _ w,
          length-set_value_at _ _ w,
          (λ _. Updated-set _ g.met.K.Eq.laws _ (g.met.Q.Equivalent.respects_eq c.args.key) _ _ w found.first),
          subst (IsDistinct g.K.PartialEq.eq) (sym (keys_set_value_at _ _ w)) unique,
          refl,
          refl,
        ),
        refl,
      ),
      record { writes_back = tt; value = sym (found.value ∙ value); member = among_at _ _ _ value; unique = unique },
    )

pub returns-in-None : goal.returns-in-None
returns-in-None g c =
    let test = g.Q.Equivalent.equivalent c.args.key in
    let missing = Missing-position test c.args.self.now.entries (sym c.in-None.ensures.index) in
    let unique = c.get_index_of.ensures.unique in (
      (
        refl,
        λ w. (
          set_value-IsAbsent _ _ w missing.absent,
          refl,
          refl,
          (λ s. absurd (true≢false (sym s ∙ ap is_some missing.value))),
          unique,
          refl,
          refl,
        ),
        refl,
      ),
      record { writes_back = tt; value = sym missing.value; member = tt; unique = unique },
    )
