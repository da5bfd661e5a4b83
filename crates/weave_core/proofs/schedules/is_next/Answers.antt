use Rattle.std.proofs.Common.{◌∙◌, Option, sym, subst}
use Rattle.weave_core.specs.Schedules as spec
use Rattle.core_store.specs.Agreements.{store_of}
use Rattle.schedule_lines.specs.declared.events.Event.{Event}
use Rattle.weave_core.proofs.schedules.is_next.Goals as goal

pub returns-in-Some-clause-next : goal.returns-in-Some-clause-next
returns-in-Some-clause-next c = λ config state agrees same.
    subst (λ (goal : Option Event). spec.IsNextEvent (store_of config) state c.args.actor goal) (sym c.in-Some.is)
    (sym (c.next_event.ensures.next config state agrees) ∙ c.is_event.ensures.same same)

pub returns-in-Some-clause-other : goal.returns-in-Some-clause-other
returns-in-Some-clause-other c = λ config state agrees other next.
    c.is_event.ensures.other other
    (c.next_event.ensures.next config state agrees
    ∙ subst (λ (goal : Option Event). spec.IsNextEvent (store_of config) state c.args.actor goal) c.in-Some.is next)
