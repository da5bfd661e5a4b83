use Rattle.std.proofs.Common.{IfOk, refl, subst}
use Rattle.mon_config.specs.declared.config.Config.{Config}
use Rattle.mon_script.specs.declared.controls.ControlForm.TheVariants as control
use Rattle.mon_script.specs.declared.forms.LineForm.TheVariants as form
use Rattle.line_runs.specs.Controls.{IsRecoveryRan}
use Rattle.line_runs.proofs.Ended.{held_by}
use Rattle.line_runs.proofs.RecoveryWrote.{recovery_fronts, recovery_wrote}
use Rattle.line_runs.proofs.controls.recover.Goals as goal

pub returns : goal.returns
returns g c =
    let config = c.args.store.now in
    let range = c.args.range in
    let leaf = c.args.leaf in
    let recovered = c.recover-recovered in
    let told = subst (λ (held : Config). IfOk c.recovery_ran.result
    (IsRecoveryRan held.topology (record { range = range; leaf = leaf }) recovered.result))
    c.config.ensures.config c.recovery_ran.ensures.ran in
    record {
      wrote = recovery_wrote config (form.Control (control.Recover range leaf)) (record { range = range; leaf = leaf }) refl refl
          c.args.p.now recovered.new.p
          (held_by config g.N.Names.setting c.args.p.now.seen c.is_set_up.ensures.setting c.is_sound.ensures.held)
          (held_by config g.N.Names.setting recovered.new.p.seen c.is_set_up.ensures.setting
          c.is_sound-2.ensures.held)
          recovered.result recovered.ensures.recovered recovered.ensures.refused recovered.ensures.nothing
          c.recovery_ran.result told;
      fronts = recovery_fronts config range leaf c.args.p.now recovered.new.p recovered.result
          recovered.ensures.recovered recovered.ensures.nothing;
    }
