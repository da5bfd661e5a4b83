use Rattle.std.proofs.Common.{◌∙◌, [], map, string_bytes, ap}
use Rattle.mon_run.specs.Outside.{Files, calm_folder_state}
use Rattle.mon_run.proofs.TrialLemmas.{ran_made}
use Rattle.mon_run.proofs.trial.run_in_memory.Goals as goal

pub returns : goal.returns
returns g c = record {
  ran = ran_made c.args.number (map string_bytes c.as_slice.result.now) _ _ (g.S.Sink.state c.args.sink.now)
      (g.S.Sink.state c.run.new.out) c.run.result
      (ap (map string_bytes) c.as_slice.ensures.value ∙ c.in_ok-words.ensures.words)
      (c.new-folder.ensures.told ∙ ap (λ (files : Files). calm_folder_state files [] []) c.in_ok-files.ensures.files)
      c.requires.fresh c.run.ensures.ran;
}
