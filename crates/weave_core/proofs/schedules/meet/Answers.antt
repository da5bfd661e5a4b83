use Rattle.std.proofs.Common.{◌∙◌, [], refl, sym}
use Rattle.weave_core.proofs.schedules.meet.Goals as goal

pub returns-in-None-clause-ran : goal.returns-in-None-clause-ran
returns-in-None-clause-ran c = λ config state agrees.
    let met = c.meet.ensures.met config state agrees in
    record {
      fault = sym (c.meet_fault.ensures.fault config state agrees) ∙ c.in-None.is;
      said = [];
      left = met.after;
      does = (refl, met.meets);
      agrees = met.agrees;
      prints = refl;
    }
