use Rattle.std.proofs.Common.{◌≡◌, ◌∙◌, ◌≤ℤ◌, ℤ, pos, true, to_z, of_z, w64, rules, sym, ap, subst}
use Rattle.typed_trees.specs.Nodes.{typed_tree}
use Rattle.mon_meaning.specs.Incremental.{is_incremental}
use Rattle.standing_incr.specs.HeldRows.{held_of}
use Rattle.standing_incr.specs.Keeping.{IsStanding}
use Rattle.standing_incr.specs.KeptTables.{StandsFor}
use Rattle.standing_incr.proofs.EnoughLemmas.{one_path}
use Rattle.standing_incr.proofs.KeepLemmas.{stand_by}
use Rattle.standing_incr.proofs.kept.Kept.made.Goals as goal

pub holding_of-holding-requires : goal.holding_of-holding-requires
holding_of-holding-requires c =
    let typed = typed_tree c.args.typed in
    let moment : to_z w64 (of_z w64 c.args.moment) ≡ c.args.moment = search rules in
    let can : is_incremental typed.tree ≡ true =
    sym c.is_incremental.ensures.incremental ∙ c.if-not-is_incremental.false in
    record {
      typed = c.requires.typed;
      source = c.requires.source;
      path = one_path typed.tree can;
      moment = subst (λ (m : ℤ). pos 0 ≤ℤ m) (sym moment) c.requires.moment;
    }

pub invariant_of-result : goal.invariant_of-result
invariant_of-result c =
    let typed = typed_tree c.args.typed in
    let moment : to_z w64 (of_z w64 c.args.moment) ≡ c.args.moment = search rules in
    let can : is_incremental typed.tree ≡ true =
    sym c.is_incremental.ensures.incremental ∙ c.if-not-is_incremental.false in
    subst (λ (m : ℤ). IsStanding typed m c.in-Ok.holding.rows c.in-Ok.holding.standing) (sym moment)
    (stand_by typed c.args.moment c.args.rows c.in-Ok.holding.rows c.in-Ok.holding.standing (one_path typed.tree can)
    c.requires.moment
    c.requires.typed c.requires.source
    (c.in-Ok.ensures.held ∙ ap (λ (m : ℤ). held_of typed m c.args.rows) moment)
    (subst (λ (m : ℤ). StandsFor typed m c.in-Ok.holding.rows c.in-Ok.holding.standing) moment c.in-Ok.ensures.stands))

pub returns-in-Ok : goal.returns-in-Ok
returns-in-Ok c =
    let typed = typed_tree c.args.typed in
    let moment : to_z w64 (of_z w64 c.args.moment) ≡ c.args.moment = search rules in
    let can : is_incremental typed.tree ≡ true =
    sym c.is_incremental.ensures.incremental ∙ c.if-not-is_incremental.false in
    let held = c.in-Ok.ensures.held ∙ ap (λ (m : ℤ). held_of typed m c.args.rows) moment in
    record {
      kept = λ i. record { typed = c.args.typed; moment = moment i; held = held i };
      incremental = can;
      refused = tt;
    }

pub returns-in-Err : goal.returns-in-Err
returns-in-Err c = record { kept = tt; incremental = tt; refused = tt }
