use Rattle.std.proofs.Common.{rules, ◌≡◌, ℤ, IfOk, refl, subst, to_z, of_z, w64}
use Rattle.mon_config.specs.declared.config.Config.{Config}
use Rattle.mon_script.specs.declared.controls.ControlForm.TheVariants as control
use Rattle.mon_script.specs.declared.forms.LineForm.TheVariants as form
use Rattle.mon_store.specs.Trims.{IsTrimmed}
use Rattle.line_runs.specs.Controls.{IsTrimRan}
use Rattle.line_runs.proofs.Ended.{held_by}
use Rattle.line_runs.proofs.TrimWrote.{trim_fronts, trim_wrote}
use Rattle.line_runs.proofs.trims.trim.Goals as goal

pub returns : goal.returns
returns g c =
    let config = c.args.store.now in
    let range = c.args.range in
    let before = c.args.before in
    let trimmed = c.trim-trimmed in
    let same : to_z w64 (of_z w64 before) ≡ before = search rules in
    let done = subst (λ (bound : ℤ). IfOk trimmed.result (IsTrimmed config range bound c.args.p.now trimmed.new.p)) same
    trimmed.ensures.trimmed in
    let told = subst (λ (held : Config). IfOk c.trim_ran.result
    (IsTrimRan held.topology (record { range = range; before = before }) trimmed.result))
    c.config.ensures.config c.trim_ran.ensures.ran in
    record {
      wrote = trim_wrote config (form.Control (control.Trim range before)) (record { range = range; before = before }) refl
          c.args.p.now trimmed.new.p
          (held_by config g.N.Names.setting c.args.p.now.seen c.is_set_up.ensures.setting c.is_sound.ensures.held)
          (held_by config g.N.Names.setting trimmed.new.p.seen c.is_set_up.ensures.setting c.is_sound-2.ensures.held)
          trimmed.result done trimmed.ensures.refused trimmed.ensures.nothing c.trim_ran.result told;
      fronts = trim_fronts config (record { range = range; before = before }) c.args.p.now trimmed.new.p trimmed.result
          done trimmed.ensures.nothing;
    }
