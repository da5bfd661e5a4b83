use Rattle.std.proofs.Common.{◌∙◌, IfOk, Option, refl, subst, sym}
use Rattle.core_store.proofs.RecoveryReturns.{went_so}
use Rattle.core_store.specs.RecoverTurns.{AnswersSo}
use Rattle.write_core.specs.declared.copies.CopyTold.{CopyTold}
use Rattle.core_store.proofs.store.Store.recover.Goals as goal

pub end_recovery-requires : goal.end_recovery-requires
end_recovery-requires c = record {
  opening = c.requires.opening;
  asks = sym c.next.ensures.ask ∙ c.is_last.ensures.last c.if-is_last.true;
}

pub recovery_event-requires : goal.recovery_event-requires
recovery_event-requires c = record {
  opening = c.requires.opening;
  more = λ e. c.is_last.ensures.other c.if-is_last.false (c.next.ensures.ask ∙ e);
}

pub returns-in-Ok-Some : goal.returns-in-Ok-Some
returns-in-Ok-Some c = record {
  turn = λ config world i opening.
      let answers = subst (λ answer. IfOk answer (λ (found : Option CopyTold).
      AnswersSo config world i c.args.recovering c.recovery_event.new.self c.args.sight.now c.recovery_event.new.sight
      found)) c.in-Ok-Some.is (c.recovery_event.ensures.answers config world i opening) in
      let answered = subst (λ (found : Option CopyTold). AnswersSo config world i c.args.recovering
      c.recovery_event.new.self c.args.sight.now c.recovery_event.new.sight found) c.in-Ok-Some.field-0-is answers in
      went_so config world i c.args.self.now c.args.recovering c.args.sight.now opening
      (λ e. c.is_last.ensures.other c.if-is_last.false (c.next.ensures.ask ∙ e)) c.recovery_event.new.self
      c.recovery_event.new.sight c.in-Ok-Some.told answered c.told_on.result c.told_on.ensures.went;
}

pub returns-in-Ok-None : goal.returns-in-Ok-None
returns-in-Ok-None c = record {
  turn = λ config world i opening. (
    refl,
    let answers = subst (λ answer. IfOk answer (λ (found : Option CopyTold).
        AnswersSo config world i c.args.recovering c.recovery_event.new.self c.args.sight.now c.recovery_event.new.sight
        found)) c.in-Ok-None.is (c.recovery_event.ensures.answers config world i opening) in
        subst (λ (found : Option CopyTold). AnswersSo config world i c.args.recovering c.recovery_event.new.self
        c.args.sight.now c.recovery_event.new.sight found) c.in-Ok-None.field-0-is answers,
  );
}
