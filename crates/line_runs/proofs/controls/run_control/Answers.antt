use Rattle.std.proofs.Common.{rules, ◌≡◌, ℤ, IfOk, subst, sym, to_z, of_z, w64}
use Rattle.line_runs.specs.LineWrites.{LineRanSo}
use Rattle.mon_script.specs.declared.controls.ControlForm.{ControlForm}
use Rattle.mon_script.specs.declared.controls.ControlForm.TheVariants as control
use Rattle.mon_script.specs.declared.forms.LineForm.TheVariants as form
use Rattle.line_runs.proofs.NoOwn.{none_own_ever}
use Rattle.line_runs.proofs.controls.run_control.Goals as goal
use Rattle.run_traces.specs.declared.line_files.LineFiles.{LineFiles}

pub returns-in-Down-clause-wrote : goal.returns-in-Down-clause-wrote
returns-in-Down-clause-wrote g c = subst
    (λ (what : ControlForm). IfOk c.take_down.result (λ ran. (content : LineFiles) → LineRanSo c.args.store.now
    (form.Control what) content ran c.args.p.now c.take_down.new.p))
    (sym c.in-Down.is)
    (none_own_ever c.args.store.now (form.Control (control.Down c.in-Down.leaf)) c.args.p.now c.take_down.new.p
    c.take_down.result c.take_down.ensures.wrote)

pub returns-in-Up-clause-wrote : goal.returns-in-Up-clause-wrote
returns-in-Up-clause-wrote g c = subst
    (λ (what : ControlForm). IfOk c.take_up.result (λ ran. (content : LineFiles) → LineRanSo c.args.store.now
    (form.Control what) content ran c.args.p.now c.take_up.new.p))
    (sym c.in-Up.is)
    (none_own_ever c.args.store.now (form.Control (control.Up c.in-Up.leaf)) c.args.p.now c.take_up.new.p
    c.take_up.result c.take_up.ensures.wrote)

pub returns-in-Recover-clause-wrote : goal.returns-in-Recover-clause-wrote
returns-in-Recover-clause-wrote g c = subst
    (λ (what : ControlForm). IfOk c.recover.result (λ ran. (content : LineFiles) → LineRanSo c.args.store.now
    (form.Control what) content ran c.args.p.now c.recover.new.p))
    (sym c.in-Recover.is)
    (none_own_ever c.args.store.now (form.Control (control.Recover c.in-Recover.range c.in-Recover.leaf)) c.args.p.now
    c.recover.new.p c.recover.result c.recover.ensures.wrote)

pub returns-in-Trim-clause-wrote : goal.returns-in-Trim-clause-wrote
returns-in-Trim-clause-wrote g c =
    let same : to_z w64 (of_z w64 c.in-Trim.before) ≡ c.in-Trim.before = search rules in
    subst
    (λ (what : ControlForm). IfOk c.trim.result (λ ran. (content : LineFiles) → LineRanSo c.args.store.now
    (form.Control what) content ran c.args.p.now c.trim.new.p))
    (sym c.in-Trim.is)
    (subst (λ (before : ℤ). IfOk c.trim.result (λ ran. (content : LineFiles) → LineRanSo c.args.store.now
    (form.Control (control.Trim c.in-Trim.range before)) content ran c.args.p.now c.trim.new.p)) same
    c.trim.ensures.wrote)

pub returns-in-Retire-clause-wrote : goal.returns-in-Retire-clause-wrote
returns-in-Retire-clause-wrote g c = subst
    (λ (what : ControlForm). IfOk c.retire.result (λ ran. (content : LineFiles) → LineRanSo c.args.store.now
    (form.Control what) content ran c.args.p.now c.retire.new.p))
    (sym c.in-Retire.is) c.retire.ensures.wrote
