use Rattle.std.proofs.Common.{◌≡◌, ◌∙◌, ◌≤ℤ◌, [], ℤ, pos, List, to_z, of_z, w64, rules, refl, sym, subst}
use Rattle.typed_trees.specs.Nodes.{typed_tree}
use Rattle.standing_incr.specs.Keeping.{StandingResult}
use Rattle.standing_incr.specs.KeptTables.{CannotBeKept}
use Rattle.standing_incr.specs.Turns.{CanReplay, IsReplayed, added, moment_after}
use Rattle.standing_incr.specs.declared.replaying.Turn.{Turn}
use Rattle.standing_incr.proofs.HeldLemmas.{typed_with}
use Rattle.standing_incr.proofs.replaying.replay.Goals as goal

pub new-requires : goal.new-requires
new-requires c =
    let moment : to_z w64 (of_z w64 c.args.moment) ≡ c.args.moment = search rules in
    record {
      typed = typed_with (typed_tree c.args.typed) (added c.args.turns.now) [] c.requires.typed tt;
      moment = subst (λ (m : ℤ). pos 0 ≤ℤ m) (sym moment) c.requires.moment;
    }

pub replay_over-requires : goal.replay_over-requires
replay_over-requires c =
    let turns = c.args.turns.now in
    let moment : to_z w64 (of_z w64 c.args.moment) ≡ c.args.moment = search rules in
    let kept : c.in-Ok.kept ≡ record { typed = c.args.typed; moment = c.args.moment; held = [] } =
    c.in-Ok.ensures.kept ∙ (λ i. record { typed = c.args.typed; moment = moment i; held = [] }) in
    record {
      begins = subst (CanReplay c.in-Ok.kept) (sym c.as_slice.ensures.items)
          (subst (λ (k : StandingResult). CanReplay k turns) (sym kept) (record {
            empty = refl;
            incremental = c.in-Ok.ensures.incremental;
            fits = c.requires.typed;
            source = c.requires.source;
            from = c.requires.moment;
            rise = c.requires.rise;
          }));
      limit = c.requires.limit;
    }

pub returns-in-Ok : goal.returns-in-Ok
returns-in-Ok c =
    let turns = c.args.turns.now in
    let moment : to_z w64 (of_z w64 c.args.moment) ≡ c.args.moment = search rules in
    let kept : c.in-Ok.kept ≡ record { typed = c.args.typed; moment = c.args.moment; held = [] } =
    c.in-Ok.ensures.kept ∙ (λ i. record { typed = c.args.typed; moment = moment i; held = [] }) in
    record {
      answer = subst (λ (ts : List Turn). IsReplayed (typed_tree c.args.typed) (added ts)
          (moment_after c.args.moment ts) c.args.limit c.replay_over.result) c.as_slice.ensures.items
          (subst (λ (k : StandingResult). IsReplayed (typed_tree k.typed) (added c.as_slice.result.now)
          (moment_after k.moment c.as_slice.result.now) c.args.limit c.replay_over.result) kept
          c.replay_over.ensures.answer);
    }

pub returns-in-Err-Fault : goal.returns-in-Err-Fault
returns-in-Err-Fault c = record {
  answer = subst (CannotBeKept (typed_tree c.args.typed).tree) c.in-Err-Fault.field-0-is c.in-Err-Fault.ensures.refused;
}
