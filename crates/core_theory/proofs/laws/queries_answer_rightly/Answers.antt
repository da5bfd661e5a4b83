use Rattle.std.specs.Prelude.{Ok, Err}
use Rattle.query_traces.specs.Answers.{IsAnsweredRightly, IsStoppedRightly}
use Rattle.query_traces.specs.Founds.{HasNoReplica}
use Rattle.query_traces.specs.declared.answers.RoundFault.TheVariants.{NoReplica, StepLimit}
use Rattle.query_core.specs.declared.stages.Stage.TheVariants.{Ended}
use Rattle.core_theory.proofs.ReaderLemmas.{as_new, seen_now, stage_is}
use Rattle.core_theory.proofs.laws.queries_answer_rightly.Goals as goal

pub returns : goal.returns
returns c = record {
  answered = λ store world reader answer own new asked from e.
      seen_now store world reader own new
      (λ now. IsAnsweredRightly store reader.setting reader.moment reader.begin.seen now.seen answer)
      (c.sessions_answer_rightly.ensures.answered store reader.setting reader.moment reader.begin
      reader.session
      answer asked from own.sound (as_new store world reader own new)
      (stage_is store world reader own new (Ended (Ok answer)) e));
  stopped = λ store world reader limit trace own new asked from e.
      seen_now store world reader own new
      (λ now. IsStoppedRightly store reader.setting reader.moment reader.begin.seen now.seen limit trace)
      (c.sessions_answer_rightly.ensures.stopped store reader.setting reader.moment reader.begin
      reader.session
      limit trace asked from own.sound (as_new store world reader own new)
      (stage_is store world reader own new (Ended (Err (StepLimit limit trace))) e));
  no_replica = λ store world reader range named own new asked from e.
      seen_now store world reader own new (λ now. HasNoReplica store.zones reader.begin.seen now.seen range named)
      (c.sessions_answer_rightly.ensures.no_replica store reader.setting reader.moment reader.begin
      reader.session range named asked from own.sound (as_new store world reader own new)
      (stage_is store world reader own new (Ended (Err (NoReplica range named))) e));
}
