use Rattle.std.proofs.Common.{◌≡◌, ◌∙◌, IfOk, to_z, of_z, w64, rules, sym, ap, subst}
use Rattle.typed_trees.specs.Meaning.{grid_of}
use Rattle.typed_trees.specs.Nodes.{typed_tree}
use Rattle.standing_incr.specs.HeldRows.{held_of}
use Rattle.standing_incr.specs.Keeping.{StandingResult}
use Rattle.standing_incr.proofs.TurnLemmas.{nothing_held}
use Rattle.standing_incr.proofs.kept.Kept.new.Goals as goal

pub returns-clause-kept : goal.returns-clause-kept
returns-clause-kept c =
    let typed = typed_tree c.args.typed in
    let moment : to_z w64 (of_z w64 c.args.moment) ≡ c.args.moment = search rules in
    subst (λ (v : StandingResult). IfOk c.made.result (λ kept. kept ≡ v))
    (λ i. record {
      typed = c.args.typed;
      moment = moment i;
      held =
          (ap (held_of typed (to_z w64 (of_z w64 c.args.moment))) c.new.ensures.empty
          ∙ sym (nothing_held (grid_of typed (to_z w64 (of_z w64 c.args.moment))) typed.tree)) i;
    })
    c.made.ensures.kept
