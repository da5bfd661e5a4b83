use Rattle.std.proofs.Common.{◌∙◌, Bool, Some, None, [], cond, refl, sym, ap}
use Rattle.schedule_lines.specs.declared.calls.WeaveFault.TheVariants as fault
use Rattle.weave_core.proofs.schedules.declare.Goals as goal

pub declare-requires-clause-may : goal.declare-requires-clause-may
declare-requires-clause-may c = λ config state agrees.
    record {
      lawful = c.requires.lawful config state agrees;
      fault = ap (λ (b : Bool). cond b (Some fault.BadLine) None)
          (sym (c.is_declared.ensures.declared config state agrees) ∙ c.if-is_declared.false);
    }

pub returns-clause-ran : goal.returns-clause-ran
returns-clause-ran c = λ config state agrees.
    let declared = c.in_ok-declare.ensures.declared config state agrees in
    record {
      fault = ap (λ (b : Bool). cond b (Some fault.BadLine) None)
          (sym (c.is_declared.ensures.declared config state agrees) ∙ c.if-is_declared.false);
      said = [];
      left = declared.after;
      does = (refl, declared.declares);
      agrees = declared.agrees;
      prints = refl;
    }
