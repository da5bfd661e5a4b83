use Rattle.std.proofs.Common.{◌≡◌, ◌∙◌, ◌++◌, ◌∷◌, [], ◌+◌, ◌≤◌, ◌≤ℤ◌, ℤ, List, drop, length, take, to_z, of_z, w64, rules, sym, ap, subst, arith}
use Rattle.std.proofs.lemmas.List.{drop_all, take_all}
use Rattle.typed_trees.specs.Nodes.{typed_tree}
use Rattle.standing_incr.specs.HeldRows.{held_of}
use Rattle.standing_incr.specs.Turns.{HoldsAll}
use Rattle.standing_incr.specs.declared.replaying.Turn.{Turn}
use Rattle.standing_incr.specs.declared.replaying.Turn.TheVariants as turn
use Rattle.standing_incr.proofs.TurnLemmas.{begins, can_fit, ends_later, moment_taken, next_turn, row_taken}
use Rattle.standing_incr.proofs.replaying.take_turns.Goals as goal
use Rattle.standing_incr.proofs.replaying.take_turns.Goals.{in-Add+in_ok-add-in-Add, in-Advance+in_ok-advance-in-Advance}

pub loop-turn-init : goal.loop-turn-init
loop-turn-init c = begins c.args.kept.now c.args.turns.now c.requires.begins

pub add-requires : goal.add-requires
add-requires c =
    let turns = c.args.turns.now in
    let place = c.loop-turn.turn-index in
    let next = next_turn turns place c.turn-item.result c.loop-turn-test.true c.turn-item.is in
    let left : drop place turns ≡ turn.Add c.in-Add.row ∷ drop (place + 1) turns =
    next.1 ∙ ap (λ (t : Turn). t ∷ drop (place + 1) turns) c.in-Add.is in
    let holds = subst (λ (rest : List Turn). HoldsAll c.args.kept.now turns (take place turns) rest c.loop-turn.kept)
    left c.loop-turn.invariant in
    record {
      typed = can_fit c.args.kept.now turns (take place turns) (drop (place + 1) turns) c.loop-turn.kept c.in-Add.row
          holds c.requires.begins.fits c.requires.begins.source;
      later = ends_later c.args.kept.now turns (take place turns) (drop (place + 1) turns) c.loop-turn.kept
          c.in-Add.row holds c.requires.begins.fits c.requires.begins.source;
    }

pub advance-requires : goal.advance-requires
advance-requires c =
    let turns = c.args.turns.now in
    let place = c.loop-turn.turn-index in
    let next = next_turn turns place c.turn-item.result c.loop-turn-test.true c.turn-item.is in
    let left : drop place turns ≡ turn.Advance c.in-Advance.moment ∷ drop (place + 1) turns =
    next.1 ∙ ap (λ (t : Turn). t ∷ drop (place + 1) turns) c.in-Advance.is in
    let holds = subst (λ (rest : List Turn). HoldsAll c.args.kept.now turns (take place turns) rest c.loop-turn.kept)
    left c.loop-turn.invariant in
    let moment : to_z w64 (of_z w64 c.in-Advance.moment) ≡ c.in-Advance.moment = search rules in
    record { later = subst (λ (m : ℤ). c.loop-turn.kept.moment ≤ℤ m) (sym moment) holds.rise.0 }

pub loop-turn-preserved : goal.loop-turn-preserved
loop-turn-preserved c =
    let start = c.args.kept.now in
    let turns = c.args.turns.now in
    let place = c.loop-turn.turn-index in
    let done = take place turns in
    let left = drop (place + 1) turns in
    let next = next_turn turns place c.turn-item.result c.loop-turn-test.true c.turn-item.is in
    elim c.match-turn.branch [
      | in-Add+in_ok-add-in-Add w ↦
          let one = w.in-Add.is in
          let rest : drop place turns ≡ turn.Add w.in-Add.row ∷ left = next.1 ∙ ap (λ (t : Turn). t ∷ left) one in
          let front : take (place + 1) turns ≡ done ++ turn.Add w.in-Add.row ∷ [] =
          next.0 ∙ ap (λ (t : Turn). done ++ t ∷ []) one in
          let holds = subst (λ (some : List Turn). HoldsAll start turns done some c.loop-turn.kept) rest
          c.loop-turn.invariant in
          let after = row_taken start turns done left c.loop-turn.kept w.in-Add.row holds w.add.new.self
          (ap typed_tree w.in_ok-add-in-Add.ensures.query) w.in_ok-add-in-Add.ensures.moment w.in_ok-add-in-Add.ensures.held in
          subst (λ (some : List Turn). HoldsAll start turns some left c.match-turn.kept) (sym front)
          (subst (HoldsAll start turns (done ++ turn.Add w.in-Add.row ∷ []) left) (sym w.kept-is) after)
      | in-Advance+in_ok-advance-in-Advance w ↦
          let one = w.in-Advance.is in
          let moment : to_z w64 (of_z w64 w.in-Advance.moment) ≡ w.in-Advance.moment = search rules in
          let rest : drop place turns ≡ turn.Advance w.in-Advance.moment ∷ left = next.1 ∙ ap (λ (t : Turn). t ∷ left)
          one in
          let front : take (place + 1) turns ≡ done ++ turn.Advance w.in-Advance.moment ∷ [] =
          next.0 ∙ ap (λ (t : Turn). done ++ t ∷ []) one in
          let holds = subst (λ (some : List Turn). HoldsAll start turns done some c.loop-turn.kept) rest
          c.loop-turn.invariant in
          let after = moment_taken start turns done left c.loop-turn.kept w.in-Advance.moment holds w.advance.new.self
          (ap typed_tree w.in_ok-advance-in-Advance.ensures.query)
          (w.in_ok-advance-in-Advance.ensures.moment ∙ moment)
          (w.in_ok-advance-in-Advance.ensures.held
          ∙ ap (λ (m : ℤ). held_of (typed_tree c.loop-turn.kept.typed) m c.loop-turn.kept.held) moment) in
          subst (λ (some : List Turn). HoldsAll start turns some left c.match-turn.kept) (sym front)
          (subst (HoldsAll start turns (done ++ turn.Advance w.in-Advance.moment ∷ []) left) (sym w.kept-is) after)
    ]

pub returns : goal.returns
returns c =
    let turns = c.args.turns.now in
    let place = c.loop-turn.turn-index in
    let past : length turns ≤ place = omega (arith, c.loop-turn-test.false) in
    record {
      taken = subst (λ (some : List Turn). HoldsAll c.args.kept.now turns some [] c.loop-turn.kept)
          (take_all place turns past)
          (subst (λ (some : List Turn). HoldsAll c.args.kept.now turns (take place turns) some c.loop-turn.kept)
          (drop_all place turns past) c.loop-turn.invariant);
    }
