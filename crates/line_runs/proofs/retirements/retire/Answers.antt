use Rattle.std.proofs.Common.{◌≡◌, IfOk, refl, subst}
use Rattle.mon_config.specs.declared.config.Config.{Config}
use Rattle.mon_script.specs.declared.controls.ControlForm.TheVariants as control
use Rattle.mon_script.specs.declared.forms.LineForm.TheVariants as form
use Rattle.line_runs.specs.Controls.{retire_ran}
use Rattle.line_runs.specs.declared.lines.LineRan.{LineRan}
use Rattle.line_runs.proofs.Ended.{held_by}
use Rattle.line_runs.proofs.RetireWrote.{retire_fronts, retire_wrote}
use Rattle.line_runs.proofs.retirements.retire.Goals as goal

pub returns : goal.returns
returns g c =
    let config = c.args.store.now in
    let range = c.args.range in
    let leaf = c.args.leaf in
    let retired = c.retire-retired in
    let told = subst (λ (held : Config). IfOk c.retire_ran.result (λ (ran : LineRan).
    ran ≡ retire_ran held.topology (record { range = range; leaf = leaf }) retired.result))
    c.config.ensures.config c.retire_ran.ensures.ran in
    record {
      wrote = retire_wrote config (form.Control (control.Retire range leaf)) (record { range = range; leaf = leaf }) refl
          c.args.p.now retired.new.p
          (held_by config g.N.Names.setting c.args.p.now.seen c.is_set_up.ensures.setting c.is_sound.ensures.held)
          (held_by config g.N.Names.setting retired.new.p.seen c.is_set_up.ensures.setting c.is_sound-2.ensures.held)
          retired.result retired.ensures.retired retired.ensures.refused retired.ensures.nothing c.retire_ran.result told;
      fronts = retire_fronts config (record { range = range; leaf = leaf }) c.args.p.now retired.new.p retired.result
          retired.ensures.retired retired.ensures.nothing;
    }
