use Rattle.std.proofs.Common.{rules, ◌≡◌, ◌∙◌, Ok, Err, Some, Option, length, ap, sym, subst}
use Rattle.mon_config.specs.declared.config.Config.{Config}
use Rattle.mon_run.specs.Endings.{Progress, seen_by}
use Rattle.mon_run.specs.within.Lines.{LinesHalt, LinesRan, ScriptEnds}
use Rattle.mon_run.specs.within.Stops.{noted, seen}
use Rattle.mon_run.proofs.DueLemmas.{dues_then}
use Rattle.mon_run.proofs.EndingLemmas.{first_leaves, first_ranges, script_done, script_halted}
use Rattle.mon_run.proofs.NumberLemmas.{every_first, split_first}
use Rattle.mon_store.specs.Stores.{setting_of}
use Rattle.mon_topo.specs.HeldHistories.{first_histories, AreHeld}
use Rattle.mon_topo.specs.Settings.{Setting}
use Rattle.mon_topo.specs.Zones.{leaves_in, ranges_in}
use Rattle.mon_value.specs.declared.histories.Histories.{Histories}
use Rattle.mon_run.proofs.runs.Run.over.Goals as goal

-- the histories are held by the configuration
held_then : (config : Config) (setting : Setting) (ended : Histories) → setting_of config ≡ setting
    → AreHeld setting.held setting.zones setting.points ended
    → AreHeld config.schemas config.topology config.range_points ended
held_then config setting ended is held =
    subst (λ (s : Setting). AreHeld s.held s.zones s.points ended) (sym is) held

pub lines-ended-requires-clause-every : goal.lines-ended-requires-clause-every
lines-ended-requires-clause-every g c = λ κs lives.
    every_first c.args.store c.args.pass c.requires.first

pub lines-ended-requires-clause-stock : goal.lines-ended-requires-clause-stock
lines-ended-requires-clause-stock g c = λ κs lives.
    split_first c.args.store c.args.pass (length c.args.lines.now) c.requires.first c.requires.few

pub returns-in-Ok-clause-ended : goal.returns-in-Ok-clause-ended
returns-in-Ok-clause-ended g c =
    let config : Config = c.args.store in
    let lines = c.args.lines.now in
    let before : Progress = seen g.F.Folder.state g.O.Sink.state c.args.self.now in
    let ran : Progress = seen g.F.Folder.state g.O.Sink.state c.lines-ended.new.self in
    let after : Progress = seen g.F.Folder.state g.O.Sink.state c.note.new.self in
    let ended : Histories = c.finish.result.seen in
    let known : noted c.note.new.self ≡ Some ended = ap seen_by c.note.ensures.noted in
    subst (λ (k : Option Histories). ScriptEnds config lines k (Ok c.is_one_refused.result) before after) (sym known)
    (script_done config lines ended before after c.requires.fresh c.runs_go_on.ensures.begun c.runs_hold.ensures.holds
    (held_then config g.N.Names.setting ended c.is_set_up.ensures.setting c.finish.ensures.held)
    (dues_then config.schemas lines c.args.self.now.log.now.traces.items c.lines-ended.new.self.log.now.traces.items
    after.ends c.requires.fresh (ap (λ (p : Progress). p.ends) c.note.ensures.same) c.lines-ended.ensures.due)
    (subst (λ (p : Progress). LinesRan config lines (first_histories config.topology) ended before p)
    (sym c.note.ensures.same)
    (subst (λ (h : Histories). LinesRan config lines (first_histories config.topology) h before ran)
    (sym c.finish.ensures.seen)
    (subst (λ (h : Histories). LinesRan config lines h c.lines-ended.new.p.seen before ran) c.requires.first.seen
    c.in-Ok.ensures.ran)))
    c.is_one_refused.result
    (c.is_one_refused.ensures.refused ∙ search rules))

pub returns-in-Err-clause-ended : goal.returns-in-Err-clause-ended
returns-in-Err-clause-ended g c =
    let config : Config = c.args.store in
    let lines = c.args.lines.now in
    let before : Progress = seen g.F.Folder.state g.O.Sink.state c.args.self.now in
    let ran : Progress = seen g.F.Folder.state g.O.Sink.state c.lines-ended.new.self in
    let after : Progress = seen g.F.Folder.state g.O.Sink.state c.note.new.self in
    let ended : Histories = c.finish.result.seen in
    let known : noted c.note.new.self ≡ Some ended = ap seen_by c.note.ensures.noted in
    let zones : g.N.Names.setting.zones ≡ config.topology =
    sym (ap (λ (s : Setting). s.zones) c.is_set_up.ensures.setting) in
    let stopped = c.in-Err.stop in
    subst (λ (k : Option Histories). ScriptEnds config lines k (Err stopped) before after) (sym known)
    (script_halted config lines ended before after c.requires.fresh c.runs_go_on.ensures.begun c.runs_hold.ensures.holds
    (held_then config g.N.Names.setting ended c.is_set_up.ensures.setting c.finish.ensures.held)
    (dues_then config.schemas lines c.args.self.now.log.now.traces.items c.lines-ended.new.self.log.now.traces.items
    after.ends c.requires.fresh (ap (λ (p : Progress). p.ends) c.note.ensures.same) c.lines-ended.ensures.due) stopped
    (c.finish.ensures.held.all_leaves ∙ ap (λ z. length (leaves_in z)) zones ∙ sym (first_leaves config.topology))
    (c.finish.ensures.held.all_ranges ∙ ap (λ z. length (ranges_in z)) zones ∙ sym (first_ranges config.topology))
    (subst (λ (p : Progress). LinesHalt config lines (first_histories config.topology) ended stopped before p)
    (sym c.note.ensures.same)
    (subst (λ (h : Histories). LinesHalt config lines (first_histories config.topology) h stopped before ran)
    (sym c.finish.ensures.seen)
    (subst (λ (h : Histories). LinesHalt config lines h c.lines-ended.new.p.seen stopped before ran)
    c.requires.first.seen c.in-Err.ensures.stops))))
