use Rattle.query_core.proofs.StageLemmas.{word_again}
use Rattle.query_core.proofs.stages.load_again.Goals as goal

pub returns-in-Ok : goal.returns-in-Ok
returns-in-Ok c = record {
  step = word_again c.args.setting.now c.args.course c.args.round c.args.loading c.in-Ok.loading c.args.word
      c.args.seen c.loaded_again.result c.in-Ok.ensures.loaded c.loaded_again.ensures.step;
}
