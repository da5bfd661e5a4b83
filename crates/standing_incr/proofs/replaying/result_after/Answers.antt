use Rattle.std.proofs.Common.{Ok, Err, subst}
use Rattle.mon_value.specs.declared.refusals.Refusal.{Refusal}
use Rattle.mon_value.specs.declared.refusals.Refusal.TheVariants as refusal
use Rattle.typed_trees.specs.Nodes.{typed_tree}
use Rattle.mon_meaning.specs.Central.{IsRefusedBy}
use Rattle.mon_meaning.specs.declared.meter.OverLimit.{OverLimit}
use Rattle.standing_incr.proofs.TurnLemmas.{ends}
use Rattle.standing_incr.proofs.replaying.result_after.Goals as goal

pub returns-in-Ok : goal.returns-in-Ok
returns-in-Ok c =
    let turns = c.args.turns.now in
    record {
      answer = ends c.args.kept.now turns turns c.take_turns.new.kept c.in_ok-take_turns.ensures.taken c.requires.begins
          c.args.limit (Ok c.in-Ok.table) c.in-Ok.ensures.answer;
    }

pub returns-in-Err-Fault : goal.returns-in-Err-Fault
returns-in-Err-Fault c =
    let turns = c.args.turns.now in
    let after = c.take_turns.new.kept in
    let told = subst (λ (refused : Refusal OverLimit). IsRefusedBy (typed_tree after.typed) after.held after.moment
    c.args.limit refused) c.in-Err-Fault.field-0-is c.in-Err-Fault.ensures.answer in
    record {
      answer = ends c.args.kept.now turns turns after c.in_ok-take_turns.ensures.taken c.requires.begins c.args.limit
          (Err (refusal.Fault c.in-Err-Fault.over)) told;
    }

pub returns-in-Err-OutOfMemory : goal.returns-in-Err-OutOfMemory
returns-in-Err-OutOfMemory c = record { answer = tt }
