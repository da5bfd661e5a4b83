use Rattle.std.proofs.Common.{◌≡◌, ◌∙◌, ℤ, List, to_z, of_z, w64, IfOk, rules, sym, subst}
use Rattle.mon_value.specs.Grids.{IsLawfulGrid}
use Rattle.mon_value.specs.declared.rows.Row.{Row}
use Rattle.typed_trees.proofs.FetchColumnLemmas.{fetches_have_columns}
use Rattle.typed_trees.specs.Meaning.{grid_of}
use Rattle.typed_trees.specs.Nodes.{typed_tree}
use Rattle.typed_rows.proofs.QueryLaws.{typed_evaluable}
use Rattle.typed_rows.proofs.TypedGridLemmas.{typed_grid}
use Rattle.standing_incr.specs.Needs.{NeedsFound}
use Rattle.standing_incr.proofs.NeedLemmas.{held_by, looks_back, none_held}
use Rattle.standing_incr.proofs.needs.held_of.Goals as goal

pub needs_of-requires-clause-grid : goal.needs_of-requires-clause-grid
needs_of-requires-clause-grid c =
    let typed = typed_tree c.args.typed.now in
    let of = c.requires.typed in
    let moment : to_z w64 (of_z w64 c.args.moment) ≡ c.args.moment = search rules in
    subst (λ (m : ℤ). IsLawfulGrid (grid_of typed m)) (sym moment)
    (typed_grid of.held of.query typed c.args.moment of.durations of.is c.requires.moment)

pub needs_of-requires-clause-looks_back : goal.needs_of-requires-clause-looks_back
needs_of-requires-clause-looks_back c =
    let typed = typed_tree c.args.typed.now in
    looks_back (grid_of typed c.args.moment) c.args.rows.now typed.tree c.requires.path
    (typed_evaluable typed c.args.rows.now c.args.moment c.requires.typed c.requires.moment)

pub returns-in-Some : goal.returns-in-Some
returns-in-Some c =
    let typed = typed_tree c.args.typed.now in
    let of = c.requires.typed in
    let rows = c.args.rows.now in
    let moment : to_z w64 (of_z w64 c.args.moment) ≡ c.args.moment = search rules in
    let found = subst (λ (m : ℤ). NeedsFound typed m c.in_ok-needs.field-0) moment c.in_ok-needs.ensures.needs in
    let are = subst (NeedsFound typed c.args.moment) c.in-Some.is found in
    let same = held_by of.held (grid_of typed c.args.moment) rows of.fit typed.tree c.requires.path
    (fetches_have_columns of.held of.query typed of.is) c.in-Some.needs are in
    record {
      held = subst (λ (held : List Row). IfOk c.needed_rows_of.result (λ made. made ≡ held)) same
          c.needed_rows_of.ensures.needed;
    }

pub returns-in-None : goal.returns-in-None
returns-in-None c =
    let typed = typed_tree c.args.typed.now in
    let rows = c.args.rows.now in
    let moment : to_z w64 (of_z w64 c.args.moment) ≡ c.args.moment = search rules in
    let found = subst (λ (m : ℤ). NeedsFound typed m c.in_ok-needs.field-0) moment c.in_ok-needs.ensures.needs in
    let are = subst (NeedsFound typed c.args.moment) c.in-None.is found in
    record {
      held = c.new.ensures.empty
          ∙ none_held (grid_of typed c.args.moment) rows typed.tree c.requires.path are;
    }
