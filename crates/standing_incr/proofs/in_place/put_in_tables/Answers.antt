use Rattle.std.proofs.Common.{◌≡◌, ℤ, Option, List, IfSome, to_z, of_z, w64, rules, sym, subst}
use Rattle.mon_value.specs.declared.rows.Row.{Row}
use Rattle.mon_value.proofs.SourceMoreLemmas.{source_more}
use Rattle.typed_trees.specs.Nodes.{typed_tree}
use Rattle.standing_incr.specs.KeptTables.{AreTablesOf}
use Rattle.standing_incr.specs.Putting.{AreSidesOf}
use Rattle.standing_incr.specs.declared.tables.Sides.{Sides}
use Rattle.standing_incr.proofs.PutLemmas.{groups_can, tables_stand}
use Rattle.standing_incr.proofs.in_place.put_in_tables.Goals as goal

pub sides_of-requires-clause-source : goal.sides_of-requires-clause-source
sides_of-requires-clause-source c =
    source_more c.args.held.now c.args.row.now c.requires.stands.source c.requires.later

pub put_sides-requires-clause-can : goal.put_sides-requires-clause-can
put_sides-requires-clause-can c =
    let typed = typed_tree c.args.typed.now in
    let at = c.args.moment in
    let held = c.args.held.now in
    let row = c.args.row.now in
    let moment : to_z w64 (of_z w64 at) ≡ at = search rules in
    let stands = c.requires.stands in
    let so : AreSidesOf typed at held row c.in-Some.sides =
    subst (λ (m : ℤ). AreSidesOf typed m held row c.in-Some.sides) moment
    (subst (λ (o : Option Sides). IfSome o (AreSidesOf typed (to_z w64 (of_z w64 at)) held row)) c.in-Some.is
    c.in_ok-sides.ensures.sides) in (
      so.lead.others,
      groups_can typed at held row stands.path stands.from c.requires.typed stands.fits c.args.tables.now stands.stands
          c.in-Some.sides so,
    )

pub returns-clause-stands : goal.returns-clause-stands
returns-clause-stands c put =
    let typed = typed_tree c.args.typed.now in
    let at = c.args.moment in
    let held = c.args.held.now in
    let row = c.args.row.now in
    let moment : to_z w64 (of_z w64 at) ≡ at = search rules in
    let stands = c.requires.stands in
    let so : AreSidesOf typed at held row c.in-Some.sides =
    subst (λ (m : ℤ). AreSidesOf typed m held row c.in-Some.sides) moment
    (subst (λ (o : Option Sides). IfSome o (AreSidesOf typed (to_z w64 (of_z w64 at)) held row)) c.in-Some.is
    c.in_ok-sides.ensures.sides) in
    let can = groups_can typed at held row stands.path stands.from c.requires.typed stands.fits c.args.tables.now
    stands.stands c.in-Some.sides so in
    let has = c.put_sides.ensures.put put in
    subst (λ (rows : List Row). AreTablesOf typed at rows c.put_sides.new.tables) (sym has.held_is)
    (tables_stand typed at held row stands.path stands.from c.requires.typed stands.fits c.args.tables.now stands.stands
    c.in-Some.sides so c.put_sides.new.tables (c.put_sides.ensures.load put) has.columns_are has.exchanged
    (c.put_sides.ensures.parts so.lead.others can put))
