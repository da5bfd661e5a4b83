use Rattle.std.proofs.Common.{◌≡◌, false, IfOk, refl, subst}
use Rattle.mon_config.specs.declared.config.Config.{Config}
use Rattle.mon_script.specs.declared.controls.ControlForm.TheVariants as control
use Rattle.mon_script.specs.declared.forms.LineForm.TheVariants as form
use Rattle.line_runs.specs.Controls.{switch_ran}
use Rattle.line_runs.specs.declared.lines.LineRan.{LineRan}
use Rattle.line_runs.proofs.Ended.{held_by}
use Rattle.line_runs.proofs.SwitchWrote.{switch_fronts, switch_wrote}
use Rattle.line_runs.proofs.controls.take_up.Goals as goal

pub returns : goal.returns
returns g c =
    let config = c.args.store.now in
    let leaf = c.args.leaf in
    let switched = c.leaf_up-switched in
    let told = subst (λ (held : Config). IfOk c.switch_ran.result (λ (ran : LineRan).
    ran ≡ switch_ran held.topology (record { leaf = leaf; down = false }) switched.result))
    c.config.ensures.config c.switch_ran.ensures.ran in
    record {
      wrote = switch_wrote config (form.Control (control.Up leaf)) (record { leaf = leaf; down = false }) refl refl c.args.p.now switched.new.p
          (held_by config g.N.Names.setting c.args.p.now.seen c.is_set_up.ensures.setting c.is_sound.ensures.held)
          (held_by config g.N.Names.setting switched.new.p.seen c.is_set_up.ensures.setting c.is_sound-2.ensures.held)
          switched.result switched.ensures.switched switched.ensures.refused switched.ensures.nothing c.switch_ran.result
          told;
      fronts = switch_fronts leaf false c.args.p.now switched.new.p switched.result switched.ensures.switched
          switched.ensures.nothing;
    }
