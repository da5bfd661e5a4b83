use Rattle.std.proofs.Common.{◌≡◌, ◌∙◌, ℤ, to_z, of_z, w64, rules, sym, ap, subst}
use Rattle.typed_trees.specs.Nodes.{typed_tree}
use Rattle.typed_trees.specs.Soundness.{IsTyped}
use Rattle.standing_incr.specs.HeldRows.{held_of}
use Rattle.standing_incr.proofs.HeldLemmas.{typed_held}
use Rattle.standing_incr.proofs.kept.holding_of.Goals as goal

pub standing_of-requires-clause-typed : goal.standing_of-requires-clause-typed
standing_of-requires-clause-typed c =
    let typed = typed_tree c.args.typed.now in
    let moment : to_z w64 (of_z w64 c.args.moment) ≡ c.args.moment = search rules in
    subst (IsTyped typed)
    (sym (c.in_ok-rows.ensures.held ∙ ap (λ (m : ℤ). held_of typed m c.args.rows.now) moment))
    (typed_held typed c.args.moment c.args.rows.now c.requires.typed)
