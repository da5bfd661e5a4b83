use Rattle.std.proofs.Common.{◌≤◌, ◌^◌, Option, sym, subst}
use Rattle.mon_value.specs.declared.limits.TheConstants.{ROW_BITS}
use Rattle.mon_fold.specs.PartialGroups.{GroupsSoFar}
use Rattle.typed_trees.specs.Meaning.{grid_of, load}
use Rattle.typed_trees.specs.Nodes.{node_tree, typed_tree}
use Rattle.standing_incr.specs.Keeping.{IsStanding, StandingResult}
use Rattle.standing_incr.specs.KeptTables.{AreGroupsAt, grouped_part}
use Rattle.standing_incr.proofs.KeepLemmas.{not_above}
use Rattle.standing_incr.proofs.kept.Kept.parts.Goals as goal

pub unreachable-requires : goal.unreachable-requires
unreachable-requires c =
    let typed = typed_tree c.self.inside.typed in
    let held = c.self.inside.holding.rows in
    not_above typed c.self.inside.moment held c.in-Above.field-0
    (subst (IsStanding typed c.self.inside.moment held) c.in-Above.is c.self.invariant)
    (subst (λ (v : StandingResult). load (typed_tree v.typed) v.held v.moment ≤ 2 ^ ROW_BITS) (sym c.self.view_is)
    c.requires.within)

pub returns : goal.returns
returns c =
    let typed = typed_tree c.self.inside.typed in
    let held = c.self.inside.holding.rows in
    let are = subst (IsStanding typed c.self.inside.moment held) c.in-Whole.is c.self.invariant in
    record {
      groups = subst (λ (parts : Option GroupsSoFar). AreGroupsAt (grid_of (typed_tree c.args.self.now.typed)
          c.args.self.now.moment) c.args.self.now.held (grouped_part (node_tree c.args.self.now.typed.tree)) parts)
          (sym c.as_ref.ensures.value)
          (subst (λ (v : StandingResult). AreGroupsAt (grid_of (typed_tree v.typed) v.moment) v.held
          (grouped_part (node_tree v.typed.tree)) c.in-Whole.tables.parts) c.self.view_is are.stands.parts);
    }
