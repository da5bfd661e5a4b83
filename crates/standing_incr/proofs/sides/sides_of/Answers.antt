use Rattle.std.proofs.Common.{◌≡◌, ◌≤ℤ◌, ◌++◌, ◌∷◌, [], ℤ, pos, Option, List, IfSome, to_z, of_z, w64, rules, sym, subst}
use Rattle.mon_value.specs.LeafHistories.{IsSource, rows_of}
use Rattle.mon_value.specs.Same.{same_series}
use Rattle.mon_value.specs.declared.rows.Row.{Row}
use Rattle.typed_trees.specs.Nodes.{typed_tree}
use Rattle.typed_trees.specs.Soundness.{IsTyped}
use Rattle.standing_incr.specs.Putting.{AreSidesOf, IsSideOf, LeadsFrom}
use Rattle.standing_incr.specs.declared.tables.Side.{Side}
use Rattle.standing_incr.proofs.OwnLemmas.{more_source, more_typed, own_typed, sides_told, source_own, told_on}
use Rattle.standing_incr.proofs.sides.sides_of.Goals as goal

pub side_over-requires : goal.side_over-requires
side_over-requires c =
    let typed = typed_tree c.args.typed.now in
    let held = c.args.held.now in
    let row = c.args.row.now in
    let moment : to_z w64 (of_z w64 c.args.moment) ≡ c.args.moment = search rules in
    let own : c.in_ok-own.own ≡ rows_of row.key held = c.in_ok-own.ensures.rows in
    record {
      typed = subst (IsTyped typed) (sym own) (own_typed typed c.args.moment held row c.requires.typed);
      path = c.requires.path;
      source = subst IsSource (sym own) (source_own (λ (r : Row). same_series row.key r.key) held c.requires.held);
      moment = subst (λ (m : ℤ). pos 0 ≤ℤ m) (sym moment) c.requires.moment;
    }

pub sides_after-requires : goal.sides_after-requires
sides_after-requires c =
    let typed = typed_tree c.args.typed.now in
    let held = c.args.held.now in
    let row = c.args.row.now in
    let moment : to_z w64 (of_z w64 c.args.moment) ≡ c.args.moment = search rules in
    let own : c.in_ok-own.own ≡ rows_of row.key held = c.in_ok-own.ensures.rows in
    record {
      typed = subst (λ (rows : List Row). IsTyped typed (rows ++ row ∷ [])) (sym own)
          (more_typed typed c.args.moment held row c.requires.typed);
      path = c.requires.path;
      source = subst (λ (rows : List Row). IsSource (rows ++ row ∷ [])) (sym own)
          (more_source typed c.args.moment held row c.requires.source);
      moment = subst (λ (m : ℤ). pos 0 ≤ℤ m) (sym moment) c.requires.moment;
    }

pub returns-in-Some : goal.returns-in-Some
returns-in-Some c =
    let typed = typed_tree c.args.typed.now in
    let held = c.args.held.now in
    let row = c.args.row.now in
    let at = c.args.moment in
    let moment : to_z w64 (of_z w64 at) ≡ at = search rules in
    let own : c.in_ok-own.own ≡ rows_of row.key held = c.in_ok-own.ensures.rows in
    let found = subst (λ (o : Option Side). IfSome o (IsSideOf typed (to_z w64 (of_z w64 at)) c.in_ok-own.own)) c.in-Some.is
    c.in_ok-before.ensures.side in
    let before : IsSideOf typed at (rows_of row.key held) c.in-Some.before =
    subst (λ (rows : List Row). IsSideOf typed at rows c.in-Some.before) own
    (subst (λ (m : ℤ). IsSideOf typed m c.in_ok-own.own c.in-Some.before) moment found) in
    record {
      sides = told_on c.sides_after.result
          (LeadsFrom typed (to_z w64 (of_z w64 at)) (c.in_ok-own.own ++ row ∷ []) c.in-Some.before c.args.so_far)
          (AreSidesOf typed at held row)
          (λ sides leads.
          sides_told typed at held row c.requires.path c.in-Some.before leads.after c.args.so_far sides before
          (subst (λ (rows : List Row). IsSideOf typed at (rows ++ row ∷ []) leads.after) own
          (subst (λ (m : ℤ). IsSideOf typed m (c.in_ok-own.own ++ row ∷ []) leads.after) moment leads.is)) leads.leads
          c.requires.load)
          c.sides_after.ensures.sides;
    }
