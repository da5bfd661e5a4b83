use Rattle.std.proofs.Common.{subst}
use Rattle.typed_trees.specs.Nodes.{typed_tree}
use Rattle.mon_meaning.specs.Central.{IsAnswer, IsOver}
use Rattle.standing_incr.specs.Keeping.{IsStanding, StandingResult}
use Rattle.standing_incr.proofs.KeepLemmas.{above_refused, answered, can_finish}
use Rattle.standing_incr.proofs.kept.Kept.result.Goals as goal

pub result_of-requires : goal.result_of-requires
result_of-requires c =
    let typed = typed_tree c.self.inside.typed in
    let held = c.self.inside.holding.rows in
    let are = subst (IsStanding typed c.self.inside.moment held) c.in-Whole.is c.self.invariant in
    record { can = can_finish typed c.self.inside.moment held c.in-Whole.tables are }

pub returns-in-Whole : goal.returns-in-Whole
returns-in-Whole c =
    let typed = typed_tree c.self.inside.typed in
    let held = c.self.inside.holding.rows in
    let are = subst (IsStanding typed c.self.inside.moment held) c.in-Whole.is c.self.invariant in
    record {
      answer = subst (λ (v : StandingResult). IsAnswer (typed_tree v.typed) v.held v.moment c.args.limit
          c.result_of.result) c.self.view_is
          (answered typed c.self.inside.moment held c.in-Whole.tables are c.args.limit c.result_of.result
          c.result_of.ensures.within c.result_of.ensures.finished c.result_of.ensures.over);
    }

pub returns-in-Above : goal.returns-in-Above
returns-in-Above c =
    let typed = typed_tree c.self.inside.typed in
    let held = c.self.inside.holding.rows in
    let are = subst (IsStanding typed c.self.inside.moment held) c.in-Above.is c.self.invariant in
    record {
      answer = subst (λ (v : StandingResult). IsOver (typed_tree v.typed) v.held v.moment c.args.limit c.in-Above.over)
          c.self.view_is
          (above_refused typed c.self.inside.moment held c.in-Above.over are c.args.limit c.requires.limit);
    }
