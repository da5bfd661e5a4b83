use Rattle.mon_run.proofs.TrialLemmas.{text_cut}
use Rattle.mon_run.proofs.trial.write_text.Goals as goal

pub returns-in-Err-clause-wrote : goal.returns-in-Err-clause-wrote
returns-in-Err-clause-wrote g c = λ folder ends.
    text_cut c.args.status c.args.text.now folder ends (g.O.Sink.state c.args.out.now)
    (g.O.Sink.state c.write_all.new.out) c.in-Err.ensures.front c.in-Err.ensures.failed
