use Rattle.std.proofs.Common.{rules, ◌≡◌, ◌∙◌, ℤ, to_z, of_z, w64, refl, sym, subst}
use Rattle.query_core.specs.Program.{ask_of}
use Rattle.query_traces.specs.Rounds.{QuerySetting}
use Rattle.query_traces.specs.declared.asks.Ask.TheVariants as ask
use Rattle.running_query.proofs.EndLemmas.{AreEndsRight, begun, ends_rightly}
use Rattle.running_query.proofs.FunctionLemmas.{on_at}
use Rattle.running_query.proofs.GoingLemmas.{goes_through}
use Rattle.running_query.specs.Asking.{IsUnderWay}
use Rattle.running_query.proofs.asking.looked_up.Goals as goal

pub events-init : goal.events-init
events-init g c =
    let same : to_z w64 (of_z w64 c.args.moment) ≡ c.args.moment = search rules in (
      subst (λ (m : ℤ). IsUnderWay g.N.Names.setting g.N.RaiseName.raise c.args.machine.setting m c.args.know.now
          c.args.know.now c.args.machine) (sym same)
          (begun g.N.Names.setting g.N.RaiseName.raise c.args.machine.setting c.args.moment c.args.know.now
          c.requires.asked c.args.machine c.requires.new),
      refl,
    )

pub returns-then-is_finished-clause-goes : goal.returns-then-is_finished-clause-goes
returns-then-is_finished-clause-goes g c = c.events.invariant.0.goes

pub returns-then-is_finished-clause-ends : goal.returns-then-is_finished-clause-ends
returns-then-is_finished-clause-ends g c =
    let same : to_z w64 (of_z w64 c.args.moment) ≡ c.args.moment = search rules in
    let setting : QuerySetting = c.args.machine.setting in
    let laws : AreEndsRight g.N.Names.setting setting c.args.moment = record {
      answered = λ view events answer asked from sound h. c.sessions_answer_rightly.ensures.answered g.N.Names.setting
          setting c.args.moment view events answer asked from sound h.0 h.1;
      stopped = λ view events limit trace asked from sound h. c.sessions_answer_rightly.ensures.stopped
          g.N.Names.setting setting c.args.moment view events limit trace asked from sound h.0 h.1;
      no_replica = λ view events range named asked from sound h. c.sessions_answer_rightly.ensures.no_replica
          g.N.Names.setting setting c.args.moment view events range named asked from sound h.0 h.1;
      named_told = λ view events end h. c.ends_name_what_was_told.ensures.named g.N.Names.setting setting c.args.moment
          view events end h.0 h.1;
      ordered = λ view events some licensed. c.sessions_keep_the_order.ensures.ordered g.N.Names.setting setting
          c.args.moment view events some licensed;
      whole = λ view events answer some h. c.sessions_keep_the_order.ensures.whole g.N.Names.setting setting
          c.args.moment view events answer some h.0 h.1;
      counted = λ view events answer asked from sound h. c.traces_count_what_was_sent.ensures.sent g.N.Names.setting
          setting c.args.moment view events answer asked from sound h.0 h.1;
    } in
    let last : ask_of c.events.machine.setting c.events.machine.stage ≡ ask.Finished = search rules in
    ends_rightly g.N.Names.setting g.N.RaiseName.raise setting c.args.moment c.args.know.now c.events.know
    c.events.machine (subst (λ (m : ℤ). IsUnderWay g.N.Names.setting g.N.RaiseName.raise c.args.machine.setting m
    c.args.know.now c.events.know c.events.machine) same c.events.invariant.0) laws
    (subst (λ (s : QuerySetting). ask_of s c.events.machine.stage ≡ ask.Finished) c.events.invariant.1 last)
    c.finish.result c.finish.ensures.end

pub step-requires-clause-somewhere : goal.step-requires-clause-somewhere
step-requires-clause-somewhere g c = record {
  entry = c.args.know.now;
  under_way = subst (λ (s : QuerySetting). IsUnderWay g.N.Names.setting g.N.RaiseName.raise s
      (to_z w64 (of_z w64 c.args.moment)) c.args.know.now c.events.know c.events.machine) (sym c.events.invariant.1)
      c.events.invariant.0;
}

pub returns-in-Err-clause-goes : goal.returns-in-Err-clause-goes
returns-in-Err-clause-goes g c =
    goes_through g.N.Names.setting c.args.know.now c.events.know c.step.new.know c.events.invariant.0.goes
    c.step.ensures.goes

pub events-preserved : goal.events-preserved
events-preserved g c = (
  on_at c.step.result _ _ c.in-Ok.is c.step.ensures.on c.args.machine.setting c.args.know.now c.events.invariant.1
      c.events.invariant.0,
  c.step.ensures.setting ∙ c.events.invariant.1,
)
