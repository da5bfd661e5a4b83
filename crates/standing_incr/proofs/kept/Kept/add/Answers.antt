use Rattle.std.proofs.Common.{◌≡◌, ◌∙◌, ◌++◌, ◌∷◌, [], ◌≤ℤ◌, ◌<ℤ◌, ℤ, pos, List, IfSome, to_z, of_z, w64, rules, refl, sym, ap, subst}
use Rattle.mon_value.specs.LeafHistories.{last_end, points_of}
use Rattle.mon_value.specs.declared.rows.Row.{Row}
use Rattle.mon_value.proofs.SourceMoreLemmas.{source_more}
use Rattle.typed_trees.specs.Nodes.{typed_tree}
use Rattle.standing_incr.specs.Comings.{ComesTo}
use Rattle.standing_incr.specs.Keeping.{IsStanding, StandingResult}
use Rattle.standing_incr.proofs.AddLemmas.{came_ahead, came_unheld, either_way, err_then, ok_then, own_fits, seen_fits}
use Rattle.standing_incr.proofs.AheadStands.{stand_ahead}
use Rattle.standing_incr.proofs.kept.Kept.add.Goals as goal

pub coming_of-requires : goal.coming_of-requires
coming_of-requires c =
    let moment : to_z w64 (of_z w64 c.self.inside.moment) ≡ c.self.inside.moment = search rules in
    record {
      typed = own_fits c.self.inside.typed c.args.self.now c.self.inside.moment c.self.inside.holding.rows c.args.row.now
          c.self.view_is c.requires.typed;
      path = c.self.invariant.path;
      moment = subst (λ (m : ℤ). pos 0 ≤ℤ m) (sym moment) c.self.invariant.from;
    }

pub push_copy-requires : goal.push_copy-requires
push_copy-requires c =
    let row = c.args.row.now in
    let held : c.self.inside.holding.rows ≡ c.args.self.now.held = ap (λ (v : StandingResult). v.held) c.self.view_is in
    record {
      later = subst (λ (rows : List Row). IfSome (last_end (points_of row.key rows)) (λ last. last <ℤ row.point.end))
          (sym held) c.requires.later;
    }

pub invariant_of-self : goal.invariant_of-self
invariant_of-self c =
    let typed = typed_tree c.self.inside.typed in
    let at = c.self.inside.moment in
    let rows = c.self.inside.holding.rows in
    let stands = c.self.inside.holding.standing in
    let row = c.args.row.now in
    let held : rows ≡ c.args.self.now.held = ap (λ (v : StandingResult). v.held) c.self.view_is in
    let later = subst (λ (some : List Row). IfSome (last_end (points_of row.key some)) (λ last. last <ℤ row.point.end))
    (sym held) c.requires.later in
    let fits = seen_fits c.self.inside.typed c.args.self.now at rows row c.self.view_is c.requires.typed in
    let source = source_more rows row c.self.invariant.source later in
    let moment : to_z w64 (of_z w64 at) ≡ at = search rules in
    let comes = subst (ComesTo typed at row) c.in-Ahead.is
    (subst (λ (m : ℤ). ComesTo typed m row c.in_ok-coming_of.field-0) moment c.in_ok-coming_of.ensures.comes) in
    either_way (λ (some : List Row). IsStanding typed at some stands) c.push_copy.result c.push_copy.new.rows
    (rows ++ row ∷ []) rows c.push_copy.ensures.more c.push_copy.ensures.kept
    (stand_ahead typed at rows row stands c.self.invariant fits source comes) c.self.invariant

pub returns-in-Ahead : goal.returns-in-Ahead
returns-in-Ahead c =
    let typed = typed_tree c.self.inside.typed in
    let at = c.self.inside.moment in
    let rows = c.self.inside.holding.rows in
    let row = c.args.row.now in
    let held : rows ≡ c.args.self.now.held = ap (λ (v : StandingResult). v.held) c.self.view_is in
    let moment : to_z w64 (of_z w64 at) ≡ at = search rules in
    let comes = subst (ComesTo typed at row) c.in-Ahead.is
    (subst (λ (m : ℤ). ComesTo typed m row c.in_ok-coming_of.field-0) moment c.in_ok-coming_of.ensures.comes) in
    record {
      query = ap (λ (v : StandingResult). v.typed) c.self.view_is;
      moment = ap (λ (v : StandingResult). v.moment) c.self.view_is;
      held = ok_then c.push_copy.result c.push_copy.new.rows (rows ++ row ∷ []) _ c.push_copy.ensures.more
          (came_ahead c.self.inside.typed c.args.self.now at rows row c.self.view_is c.self.inside.holding.standing
          c.self.invariant c.requires.typed comes);
      kept = err_then c.push_copy.result c.push_copy.new.rows rows c.args.self.now.held c.push_copy.ensures.kept held;
    }

pub returns-in-Unheld : goal.returns-in-Unheld
returns-in-Unheld c =
    let typed = typed_tree c.self.inside.typed in
    let at = c.self.inside.moment in
    let rows = c.self.inside.holding.rows in
    let row = c.args.row.now in
    let held : rows ≡ c.args.self.now.held = ap (λ (v : StandingResult). v.held) c.self.view_is in
    let moment : to_z w64 (of_z w64 at) ≡ at = search rules in
    let comes = subst (ComesTo typed at row) c.in-Unheld.is
    (subst (λ (m : ℤ). ComesTo typed m row c.in_ok-coming_of.field-0) moment c.in_ok-coming_of.ensures.comes) in
    record {
      query = refl;
      moment = refl;
      held = sym held
          ∙ came_unheld c.self.inside.typed c.args.self.now at rows row c.self.view_is c.self.inside.holding.standing
          c.self.invariant c.requires.typed comes;
      kept = tt;
    }
