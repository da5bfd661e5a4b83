use Rattle.std.proofs.Common.{◌≡◌, ◌∷◌, [], ℤ, IfOk, to_z, of_z, w64, rules, sym, subst}
use Rattle.mon_value.specs.Grids.{IsLawfulGrid}
use Rattle.typed_trees.specs.Meaning.{grid_of}
use Rattle.typed_trees.specs.Nodes.{typed_tree}
use Rattle.typed_rows.proofs.QueryLaws.{typed_evaluable}
use Rattle.typed_rows.proofs.TypedGridLemmas.{typed_grid}
use Rattle.standing_incr.specs.Needs.{NeedsFound}
use Rattle.standing_incr.specs.Comings.{ComesBy}
use Rattle.standing_incr.proofs.ComingLemmas.{comes_told, never_held}
use Rattle.standing_incr.proofs.NeedLemmas.{looks_back}
use Rattle.standing_incr.proofs.comings.coming_of.Goals as goal

pub needs_of-requires-clause-grid : goal.needs_of-requires-clause-grid
needs_of-requires-clause-grid c =
    let typed = typed_tree c.args.typed.now in
    let of = c.requires.typed in
    let moment : to_z w64 (of_z w64 c.args.moment) ≡ c.args.moment = search rules in
    subst (λ (m : ℤ). IsLawfulGrid (grid_of typed m)) (sym moment)
    (typed_grid of.held of.query typed c.args.moment of.durations of.is c.requires.moment)

pub needs_of-requires-clause-looks_back : goal.needs_of-requires-clause-looks_back
needs_of-requires-clause-looks_back c =
    let typed = typed_tree c.args.typed.now in
    looks_back (grid_of typed c.args.moment) (c.args.row.now ∷ []) typed.tree c.requires.path
    (typed_evaluable typed (c.args.row.now ∷ []) c.args.moment c.requires.typed c.requires.moment)

pub returns-in-Some : goal.returns-in-Some
returns-in-Some c =
    let typed = typed_tree c.args.typed.now in
    let moment : to_z w64 (of_z w64 c.args.moment) ≡ c.args.moment = search rules in
    let found = subst (λ (m : ℤ). NeedsFound typed m c.in_ok-needs.field-0) moment c.in_ok-needs.ensures.needs in
    let are = subst (NeedsFound typed c.args.moment) c.in-Some.is found in
    record {
      comes = comes_told typed c.args.moment c.args.row.now c.requires.path c.in-Some.needs are c.coming_by.result
          (subst (λ (m : ℤ). IfOk c.coming_by.result (ComesBy c.in-Some.needs m c.args.row.now)) moment
          c.coming_by.ensures.comes);
    }

pub returns-in-None : goal.returns-in-None
returns-in-None c =
    let typed = typed_tree c.args.typed.now in
    let moment : to_z w64 (of_z w64 c.args.moment) ≡ c.args.moment = search rules in
    let found = subst (λ (m : ℤ). NeedsFound typed m c.in_ok-needs.field-0) moment c.in_ok-needs.ensures.needs in
    let are = subst (NeedsFound typed c.args.moment) c.in-None.is found in
    record { comes = never_held typed c.args.moment c.args.row.now c.requires.path are }
