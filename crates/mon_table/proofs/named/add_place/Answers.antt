use Rattle.std.proofs.Common.{◌≡◌, ◌∙◌, ℕ, List, IsSome, None, Some, [], ◌∷◌, ◌++◌, ap, refl, subst}
use Rattle.indexmap.specs.IndexMap.{get, UpdatesBy}
use Rattle.mon_table.proofs.NamedPlaceLemmas.{adds_place}
use Rattle.mon_table.specs.NamedPlaces.{places_under, same_name}
use Rattle.mon_table.proofs.named.add_place.Goals as goal

pub returns-in_ok-push-in-Some : goal.returns-in_ok-push-in-Some
returns-in_ok-push-in-Some c =
    let before = c.args.places.now in
    let name = c.args.name in
    let written = c.push.new.self in
    let there : Some c.in-Some.found.now ≡ get same_name before name = c.in-Some.ensures.value in
    record {
      added = adds_place before (c.get_mut.follows.lender written) name c.args.place written
          ((c.get_mut.follows.holds written).3 (subst (λ r. IsSome r) there refl))
          (◌∙◌ {A = List ℕ} c.in_ok-push-in-Some.ensures.items (ap (λ r. places_under r ++ c.args.place ∷ []) there));
    }

pub returns-in_ok-insert-in-None : goal.returns-in_ok-insert-in-None
returns-in_ok-insert-in-None c =
    let before = c.args.places.now in
    let name = c.args.name in
    let alone = c.in_ok-place_alone-in-None.field-0 in
    let none : None ≡ get same_name before name = c.in-None.ensures.value in
    let updates = subst (λ old. UpdatesBy same_name (same_name name) old c.insert.new.self (Some alone))
    c.get_mut.follows.holds-at-none c.in_ok-insert-in-None.ensures.updates in
    record {
      added = adds_place before c.insert.new.self name c.args.place alone updates
          (c.in_ok-place_alone-in-None.ensures.alone ∙ ap (λ r. places_under r ++ c.args.place ∷ []) none);
    }
