-- Lines that have no places of their own.
use Rattle.std.proofs.Common.{[], Ok, Err}
use Rattle.std.specs.Prelude.{IfOk, Result}
use Rattle.know.specs.Knowledge.{Knowledge}
use Rattle.line_runs.specs.LineWrites.{LineRanSo, LineWrote, ran_line}
use Rattle.line_runs.specs.declared.lines.LineRan.{LineRan}
use Rattle.mon_config.specs.declared.config.Config.{Config}
use Rattle.mon_script.specs.declared.forms.LineForm.{LineForm}
use Rattle.run_traces.specs.declared.line_files.LineFiles.{LineFiles}

module _ {F : Type 0} (config : Config) (what : LineForm) (before after : Knowledge) where
  pub none_own : (content : LineFiles) (ran : Result LineRan F)
      → IfOk ran (λ line. LineWrote config (ran_line what content line.trace []) line.text before after)
      → IfOk ran (λ line. LineRanSo config what content line before after)
  none_own content (Ok line) wrote = record { own = []; wrote = wrote }
  none_own content (Err failed) wrote = tt

  -- whatever stands in the line's content
  pub none_own_ever : (ran : Result LineRan F)
      → IfOk ran (λ line. (content : LineFiles)
      → LineWrote config (ran_line what content line.trace []) line.text before after)
      → IfOk ran (λ line. (content : LineFiles) → LineRanSo config what content line before after)
  none_own_ever (Ok line) wrote = λ content. record { own = []; wrote = wrote content }
  none_own_ever (Err failed) wrote = tt

  pub with_content : (content : LineFiles) (ran : Result LineRan F)
      → IfOk ran (λ line. (held : LineFiles) → LineRanSo config what held line before after)
      → IfOk ran (λ line. LineRanSo config what content line before after)
  with_content content (Ok line) so = so content
  with_content content (Err failed) so = tt
