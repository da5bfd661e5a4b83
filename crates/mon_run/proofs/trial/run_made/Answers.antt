use Rattle.std.proofs.Common.{List, sym, subst}
use Rattle.mon_run.specs.Endings.{Follows, progress}
use Rattle.mon_run.specs.Trials.{trial_end}
use Rattle.mon_run.proofs.TrialLemmas.{not_tried, tried}
use Rattle.mon_run.proofs.trial.run_made.Goals as goal
use Rattle.run_traces.specs.declared.traces.LineTrace.{LineTrace}

pub returns-in_default-clause-tries : goal.returns-in_default-clause-tries
returns-in_default-clause-tries g c = λ folder.
    not_tried c.args.number folder (g.O.Sink.state c.args.out.now) c.new.result c.new.ensures.empty

pub returns-clause-tries : goal.returns-clause-tries
returns-clause-tries g c = λ folder.
    let outcome = c.in-Ok.outcome in
    let before = g.O.Sink.state c.args.out.now in
    let after = g.O.Sink.state c.say-status.new.out in
    tried c.args.number c.say-status.result outcome _ c.written.result.now folder before after
    (sym c.written.ensures.written) c.in-Ok.ensures.ran
    (subst (λ (lines : List LineTrace). Follows (trial_end outcome.status lines c.written.result.now)
    c.say-status.result (progress folder before outcome.lines) (progress folder after outcome.lines))
    c.as_slice.ensures.items (c.say-status.ensures.said folder outcome.lines))
