use Rattle.std.proofs.Common.{◌≤◌, ◌^◌, sym, subst}
use Rattle.mon_value.specs.declared.limits.TheConstants.{ROW_BITS}
use Rattle.typed_trees.specs.Meaning.{grid_of, load, rows_meant}
use Rattle.typed_trees.specs.Nodes.{columns_of, node_tree, typed_tree}
use Rattle.mon_meaning.specs.Standing.{IsTableOf}
use Rattle.standing_incr.specs.Keeping.{IsStanding, StandingResult}
use Rattle.standing_incr.specs.KeptTables.{aligned_part}
use Rattle.standing_incr.proofs.KeepLemmas.{not_above}
use Rattle.standing_incr.proofs.kept.Kept.aligned.Goals as goal

pub unreachable-requires : goal.unreachable-requires
unreachable-requires c =
    let typed = typed_tree c.self.inside.typed in
    let held = c.self.inside.holding.rows in
    not_above typed c.self.inside.moment held c.in-Above.field-0
    (subst (IsStanding typed c.self.inside.moment held) c.in-Above.is c.self.invariant)
    (subst (λ (v : StandingResult). load (typed_tree v.typed) v.held v.moment ≤ 2 ^ ROW_BITS) (sym c.self.view_is)
    c.requires.within)

pub returns : goal.returns
returns c =
    let typed = typed_tree c.self.inside.typed in
    let held = c.self.inside.holding.rows in
    let are = subst (IsStanding typed c.self.inside.moment held) c.in-Whole.is c.self.invariant in
    record {
      table = subst (λ (v : StandingResult). IsTableOf (columns_of (aligned_part (node_tree v.typed.tree)))
          (rows_meant (grid_of (typed_tree v.typed) v.moment) (aligned_part (node_tree v.typed.tree)) v.held)
          c.in-Whole.tables.table) c.self.view_is are.stands.table;
    }
