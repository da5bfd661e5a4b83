use Rattle.std.proofs.Common.{◌∙◌, ℕ, List, ap, length, sym, subst}
use Rattle.line_runs.specs.Feeding.{AreFed}
use Rattle.mon_config.specs.declared.config.Config.{Config}
use Rattle.mon_points.specs.Records.{reads_of}
use Rattle.mon_topo.specs.HeldHistories.{AreHeld}
use Rattle.mon_topo.specs.Settings.{Setting}
use Rattle.run_traces.specs.LineTexts.{feed_text}
use Rattle.line_runs.proofs.FeedWrote.{feed_wrote}
use Rattle.line_runs.proofs.feeds.feed.Goals as goal

pub returns-in-Ok-clause-wrote : goal.returns-in-Ok-clause-wrote
returns-in-Ok-clause-wrote g c =
    let config = c.args.store.now in
    feed_wrote config c.args.name.now c.args.content.now c.in_ok-fed.fed.accepted c.in_ok-fed.fed.refused c.args.p.now
    c.fed_records.new.p
    (subst (λ (s : Setting). AreHeld s.held s.zones s.points c.args.p.now.seen) (sym c.is_set_up.ensures.setting)
    c.is_sound.ensures.held)
    (subst (λ (s : Setting). AreHeld s.held s.zones s.points c.fed_records.new.p.seen) (sym
    c.is_set_up.ensures.setting) c.is_sound-2.ensures.held)
    (subst (λ (content : List ℕ). AreFed config 1 (reads_of config.schemas content) c.in_ok-fed.fed.accepted
    c.in_ok-fed.fed.refused c.args.p.now c.fed_records.new.p) c.as_slice.ensures.items c.in_ok-fed.ensures.fed)
    c.number-pass.result c.ran_feed.result.trace c.ran_feed.result.text c.number-pass.ensures.number
    c.ran_feed.ensures.trace (c.ran_feed.ensures.text ∙ c.in-Ok.ensures.text
    ∙ ap (λ (held : Config). feed_text held.topology c.args.name.now (length c.in_ok-fed.fed.accepted)
    c.in_ok-fed.fed.refused) c.config.ensures.config)
