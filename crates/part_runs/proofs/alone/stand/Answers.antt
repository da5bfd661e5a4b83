use Rattle.std.proofs.Common.{rules, ◌≡◌, ℤ, to_z, of_z, w64, subst}
use Rattle.std.specs.Prelude.{IfOk, OnOk}
use Rattle.line_runs.specs.StandingLines.{standing_then}
use Rattle.mon_config.specs.declared.config.Config.{Config}
use Rattle.mon_script.specs.declared.forms.LineForm.TheVariants as form
use Rattle.mon_script.specs.declared.standing_lines.StandingLine.TheVariants as line
use Rattle.part_runs.specs.PartsDone.{AloneDid}
use Rattle.part_runs.proofs.StandLemmas.{stand_answers}
use Rattle.standing.specs.DueLists.{add_fault}
use Rattle.part_runs.proofs.alone.stand.Goals as goal

pub returns-clause-ran : goal.returns-clause-ran
returns-clause-ran g c =
    let state = c.args.standing.now in
    let name = c.args.name.now in
    let text = c.args.text.now in
    let same : to_z w64 (of_z w64 c.args.period) ≡ c.args.period = search rules in
    let stands = subst (λ (period : ℤ). OnOk c.add_standing.result (c.add_standing.new.standing
    ≡ standing_then state name period text (add_fault c.config-config.result.now.schemas state.queries name text))) same
    c.add_standing.ensures.stands in
    subst (λ (config : Config). IfOk c.add_standing.result (λ ran. AloneDid config
    (form.Standing (line.Stand c.args.name.now c.args.period c.args.text.now)) c.args.content.now ran c.args.p.now c.args.p.now
    c.args.standing.now c.add_standing.new.standing)) c.config-config.ensures.config
    (stand_answers c.runs_go_on.ensures.more c.texts_stay.ensures.line g.N.Names.setting c.config-config.result.now
    c.args.p.now c.is_sound.ensures.pass c.is_sound.ensures.borne_out c.requires.every c.args.standing.now
    c.args.name.now c.args.period c.args.text.now c.args.content.now c.add_standing.result
    c.add_standing.new.standing c.add_standing.ensures.ran stands)
