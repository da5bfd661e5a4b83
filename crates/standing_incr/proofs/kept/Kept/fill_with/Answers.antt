use Rattle.std.proofs.Common.{◌≡◌, ◌∙◌, ◌++◌, ◌∷◌, [], ◌≤ℤ◌, ◌<ℤ◌, ℤ, pos, List, IfSome, to_z, of_z, w64, rules, refl, sym, ap, subst}
use Rattle.mon_value.specs.LeafHistories.{IsSource, last_end, points_of}
use Rattle.mon_value.specs.declared.rows.Row.{Row}
use Rattle.mon_value.proofs.SourceMoreLemmas.{source_more}
use Rattle.typed_trees.specs.Nodes.{typed_tree}
use Rattle.typed_trees.specs.Soundness.{IsTyped}
use Rattle.typed_trees.specs.declared.nodes.Typed.{Typed}
use Rattle.standing_incr.specs.HeldRows.{held_of}
use Rattle.standing_incr.specs.Keeping.{IsStanding, StandingResult}
use Rattle.standing_incr.specs.KeptTables.{StandsFor}
use Rattle.standing_incr.specs.declared.kept.Holding.{Holding}
use Rattle.standing_incr.proofs.KeepLemmas.{stand_by}
use Rattle.standing_incr.proofs.kept.Kept.fill_with.Goals as goal

pub with_row-requires : goal.with_row-requires
with_row-requires c =
    let row = c.args.row.now in
    let held : c.self.inside.holding.rows ≡ c.args.self.now.held = ap (λ (v : StandingResult). v.held) c.self.view_is in
    record {
      later = subst (λ (rows : List Row). IfSome (last_end (points_of row.key rows)) (λ last. last <ℤ row.point.end))
          (sym held) c.requires.later;
    }

pub holding_of-requires : goal.holding_of-requires
holding_of-requires c =
    let row = c.args.row.now in
    let held : c.self.inside.holding.rows ≡ c.args.self.now.held = ap (λ (v : StandingResult). v.held) c.self.view_is in
    let query : c.self.inside.typed ≡ c.args.self.now.typed = ap (λ (v : StandingResult). v.typed) c.self.view_is in
    let later = subst (λ (rows : List Row). IfSome (last_end (points_of row.key rows)) (λ last. last <ℤ row.point.end))
    (sym held) c.requires.later in
    let moment : to_z w64 (of_z w64 c.self.inside.moment) ≡ c.self.inside.moment = search rules in
    let more : c.in_ok-rows.rows ≡ c.args.self.now.held ++ row ∷ [] =
    c.in_ok-rows.ensures.more ∙ ap (λ (rows : List Row). rows ++ row ∷ []) held in
    record {
      typed = subst (λ (t : Typed). IsTyped (typed_tree t) c.in_ok-rows.rows) (sym query)
          (subst (IsTyped (typed_tree c.args.self.now.typed)) (sym more) c.requires.typed);
      source = subst IsSource (sym c.in_ok-rows.ensures.more)
          (source_more c.self.inside.holding.rows row c.self.invariant.source later);
      path = c.self.invariant.path;
      moment = subst (λ (m : ℤ). pos 0 ≤ℤ m) (sym moment) c.self.invariant.from;
    }

pub returns : goal.returns
returns c =
    let row = c.args.row.now in
    let held : c.self.inside.holding.rows ≡ c.args.self.now.held = ap (λ (v : StandingResult). v.held) c.self.view_is in
    let query : c.self.inside.typed ≡ c.args.self.now.typed = ap (λ (v : StandingResult). v.typed) c.self.view_is in
    let at : c.self.inside.moment ≡ c.args.self.now.moment = ap (λ (v : StandingResult). v.moment) c.self.view_is in
    let moment : to_z w64 (of_z w64 c.self.inside.moment) ≡ c.self.inside.moment = search rules in
    let more : c.in_ok-rows.rows ≡ c.args.self.now.held ++ row ∷ [] =
    c.in_ok-rows.ensures.more ∙ ap (λ (rows : List Row). rows ++ row ∷ []) held in
    record {
      query = query;
      moment = at;
      held =
          ap (λ (h : Holding). h.rows) c.replace.ensures.after
          ∙ c.in_ok-next.ensures.held
          ∙ ap (λ (m : ℤ). held_of (typed_tree c.self.inside.typed) m c.in_ok-rows.rows) moment
          ∙ (λ i. held_of (typed_tree (query i)) (at i) (more i));
      kept = tt;
    }

pub invariant_of-self : goal.invariant_of-self
invariant_of-self c =
    let typed = typed_tree c.self.inside.typed in
    let row = c.args.row.now in
    let held : c.self.inside.holding.rows ≡ c.args.self.now.held = ap (λ (v : StandingResult). v.held) c.self.view_is in
    let query : c.self.inside.typed ≡ c.args.self.now.typed = ap (λ (v : StandingResult). v.typed) c.self.view_is in
    let later = subst (λ (rows : List Row). IfSome (last_end (points_of row.key rows)) (λ last. last <ℤ row.point.end))
    (sym held) c.requires.later in
    let more : c.in_ok-rows.rows ≡ c.args.self.now.held ++ row ∷ [] =
    c.in_ok-rows.ensures.more ∙ ap (λ (rows : List Row). rows ++ row ∷ []) held in
    let fits = subst (λ (t : Typed). IsTyped (typed_tree t) c.in_ok-rows.rows) (sym query)
    (subst (IsTyped (typed_tree c.args.self.now.typed)) (sym more) c.requires.typed) in
    let source = subst IsSource (sym c.in_ok-rows.ensures.more)
    (source_more c.self.inside.holding.rows row c.self.invariant.source later) in
    let moment : to_z w64 (of_z w64 c.self.inside.moment) ≡ c.self.inside.moment = search rules in
    subst (λ (h : Holding). IsStanding typed c.self.inside.moment h.rows h.standing) (sym c.replace.ensures.after)
    (stand_by typed c.self.inside.moment c.in_ok-rows.rows c.in_ok-next.next.rows c.in_ok-next.next.standing
    c.self.invariant.path c.self.invariant.from fits source
    (c.in_ok-next.ensures.held ∙ ap (λ (m : ℤ). held_of typed m c.in_ok-rows.rows) moment)
    (subst (λ (m : ℤ). StandsFor typed m c.in_ok-next.next.rows c.in_ok-next.next.standing) moment
    c.in_ok-next.ensures.stands))

pub returns-in_err-rows : goal.returns-in_err-rows
returns-in_err-rows c = record { query = refl; moment = refl; held = search rules; kept = search rules }

pub returns-in_err-next : goal.returns-in_err-next
returns-in_err-next c = record { query = refl; moment = refl; held = search rules; kept = search rules }
