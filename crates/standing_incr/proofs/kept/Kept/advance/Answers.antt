use Rattle.std.proofs.Common.{◌≡◌, ◌∙◌, ◌≤ℤ◌, ℤ, pos, to_z, of_z, w64, rules, refl, sym, ap, subst}
use Rattle.typed_trees.specs.Nodes.{typed_tree}
use Rattle.standing_incr.specs.HeldRows.{held_of}
use Rattle.standing_incr.specs.Keeping.{IsStanding, StandingResult}
use Rattle.standing_incr.specs.KeptTables.{StandsFor}
use Rattle.standing_incr.specs.declared.kept.Holding.{Holding}
use Rattle.standing_incr.proofs.KeepLemmas.{stand_by}
use Rattle.std.proofs.Common.{arith}
use Rattle.std.proofs.lemmas.Int.{ints}
use Rattle.standing_incr.proofs.kept.Kept.advance.Goals as goal

pub holding_of-requires : goal.holding_of-requires
holding_of-requires c =
    let at : c.self.inside.moment ≡ c.args.self.now.moment = ap (λ (v : StandingResult). v.moment) c.self.view_is in
    let moment : to_z w64 (of_z w64 c.args.moment) ≡ c.args.moment = search rules in
    let before = c.self.invariant.from in
    let order = c.requires.later in
    record {
      typed = c.self.invariant.fits;
      source = c.self.invariant.source;
      path = c.self.invariant.path;
      moment = subst (λ (m : ℤ). pos 0 ≤ℤ m) (sym moment) (omega (arith, ints));
    }

pub returns : goal.returns
returns c =
    let held : c.self.inside.holding.rows ≡ c.args.self.now.held = ap (λ (v : StandingResult). v.held) c.self.view_is in
    let query : c.self.inside.typed ≡ c.args.self.now.typed = ap (λ (v : StandingResult). v.typed) c.self.view_is in
    let moment : to_z w64 (of_z w64 c.args.moment) ≡ c.args.moment = search rules in
    record {
      query = query;
      moment = moment;
      held =
          ap (λ (h : Holding). h.rows) c.replace.ensures.after
          ∙ c.in_ok-next.ensures.held
          ∙ ap (λ (m : ℤ). held_of (typed_tree c.self.inside.typed) m c.self.inside.holding.rows) moment
          ∙ (λ i. held_of (typed_tree (query i)) c.args.moment (held i));
      kept = tt;
    }

pub invariant_of-self : goal.invariant_of-self
invariant_of-self c =
    let typed = typed_tree c.self.inside.typed in
    let at : c.self.inside.moment ≡ c.args.self.now.moment = ap (λ (v : StandingResult). v.moment) c.self.view_is in
    let before = c.self.invariant.from in
    let order = c.requires.later in
    let from : pos 0 ≤ℤ c.args.moment = omega (arith, ints) in
    let moment : to_z w64 (of_z w64 c.args.moment) ≡ c.args.moment = search rules in
    subst (λ (h : Holding). IsStanding typed (to_z w64 (of_z w64 c.args.moment)) h.rows h.standing)
    (sym c.replace.ensures.after)
    (subst (λ (m : ℤ). IsStanding typed m c.in_ok-next.next.rows c.in_ok-next.next.standing) (sym moment)
    (stand_by typed c.args.moment c.self.inside.holding.rows c.in_ok-next.next.rows c.in_ok-next.next.standing
    c.self.invariant.path from c.self.invariant.fits c.self.invariant.source
    (c.in_ok-next.ensures.held ∙ ap (λ (m : ℤ). held_of typed m c.self.inside.holding.rows) moment)
    (subst (λ (m : ℤ). StandsFor typed m c.in_ok-next.next.rows c.in_ok-next.next.standing) moment
    c.in_ok-next.ensures.stands)))

pub returns-in_err-next : goal.returns-in_err-next
returns-in_err-next c =
    record { query = refl; moment = search rules; held = search rules; kept = search rules }
