use Rattle.std.proofs.Common.{◌≡◌, ◌∙◌, ◌++◌, ◌∷◌, [], ◌<ℤ◌, ℤ, List, IfSome, to_z, of_z, w64, rules, sym, ap, subst}
use Rattle.mon_value.specs.LeafHistories.{IsSource, last_end, points_of}
use Rattle.mon_value.specs.declared.rows.Row.{Row}
use Rattle.mon_value.proofs.SourceMoreLemmas.{source_more}
use Rattle.typed_trees.specs.Nodes.{typed_tree}
use Rattle.typed_trees.specs.Soundness.{IsTyped}
use Rattle.standing_incr.specs.Comings.{ComesTo}
use Rattle.standing_incr.specs.HeldRows.{held_of}
use Rattle.standing_incr.specs.Keeping.{StandingResult}
use Rattle.standing_incr.specs.KeptTables.{StandsFor}
use Rattle.standing_incr.specs.declared.comings.Coming.TheVariants as coming
use Rattle.standing_incr.proofs.AddLemmas.{seen_fits}
use Rattle.standing_incr.proofs.kept.Kept.put.Goals as goal

pub invariant_of-self-then-put : goal.invariant_of-self-then-put
invariant_of-self-then-put c =
    let typed = typed_tree c.self.inside.typed in
    let at = c.self.inside.moment in
    let rows = c.self.inside.holding.rows in
    let row = c.args.row.now in
    let held : rows ≡ c.args.self.now.held = ap (λ (v : StandingResult). v.held) c.self.view_is in
    let later = subst (λ (some : List Row). IfSome (last_end (points_of row.key some)) (λ last. last <ℤ row.point.end))
    (sym held) c.requires.later in
    let fits = seen_fits c.self.inside.typed c.args.self.now at rows row c.self.view_is c.requires.typed in
    let source = source_more rows row c.self.invariant.source later in
    let moment : to_z w64 (of_z w64 at) ≡ at = search rules in
    let comes : ComesTo typed at row coming.InReach =
    subst (λ (v : StandingResult). ComesTo (typed_tree v.typed) v.moment row coming.InReach) (sym c.self.view_is)
    c.requires.comes in
    let more : c.put_row.new.held ≡ rows ++ row ∷ [] = c.in_ok-put.ensures.held c.if-put.true in
    record {
      path = c.self.invariant.path;
      from = c.self.invariant.from;
      fits = subst (IsTyped typed) (sym more) fits;
      source = subst IsSource (sym more) source;
      needed =
          more ∙ ap (λ (some : List Row). some ++ row ∷ []) c.self.invariant.needed
          ∙ sym (comes rows fits) ∙ ap (held_of typed at) (sym more);
      stands = subst (λ (m : ℤ). StandsFor typed m c.put_row.new.held c.put_row.new.standing) moment
          (c.in_ok-put.ensures.stands c.if-put.true);
    }
