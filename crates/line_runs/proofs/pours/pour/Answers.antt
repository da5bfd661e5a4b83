use Rattle.std.proofs.Common.{◌∙◌, ap, sym, subst}
use Rattle.mon_config.specs.declared.config.Config.{Config}
use Rattle.mon_topo.specs.HeldHistories.{AreHeld}
use Rattle.mon_topo.specs.Settings.{Setting}
use Rattle.run_traces.specs.LineTexts.{pour_text}
use Rattle.line_runs.proofs.PourWrote.{pour_wrote}
use Rattle.line_runs.proofs.pours.pour.Goals as goal

pub returns-in-Ok-clause-wrote : goal.returns-in-Ok-clause-wrote
returns-in-Ok-clause-wrote g c =
    let config = c.args.store.now in
    let ends = c.in_ok-ends.ends in
    pour_wrote config c.args.first.now c.args.second.now c.args.content.now ends c.args.p.now c.poured.new.p
    (subst (λ (s : Setting). AreHeld s.held s.zones s.points c.args.p.now.seen) (sym c.is_set_up.ensures.setting)
    c.is_sound.ensures.held)
    (subst (λ (s : Setting). AreHeld s.held s.zones s.points c.poured.new.p.seen) (sym c.is_set_up.ensures.setting)
    c.is_sound-2.ensures.held)
    c.in_ok-ends.ensures.poured c.number-pass.result c.ran_pour.result.trace c.ran_pour.result.text
    c.number-pass.ensures.number c.ran_pour.ensures.trace (c.ran_pour.ensures.text ∙ c.in-Ok.ensures.text
    ∙ ap (λ (held : Config). pour_text held.topology c.args.first.now c.args.second.now ends) c.config.ensures.config)
