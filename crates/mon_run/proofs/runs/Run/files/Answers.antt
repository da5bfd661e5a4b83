use Rattle.std.proofs.Common.{◌∙◌, None, ap}
use Rattle.mon_run.specs.Endings.{Progress, CommandTells}
use Rattle.mon_run.specs.Plans.{Command, IsWovenBy, came, command}
use Rattle.mon_run.specs.within.Stops.{files_plan, noted, seen}
use Rattle.std.proofs.lemmas.Result.{err_from_is_err_and}
use Rattle.mon_run.proofs.RunLemmas.{files_weave, none_noted, weaves_stopped}
use Rattle.mon_run.proofs.runs.Run.files.Goals as goal

pub file_under-requires-clause-fresh : goal.file_under-requires-clause-fresh
file_under-requires-clause-fresh g c = λ κs lives.
    ap (λ log. log.traces.items) c.configuration.ensures.log ∙ c.requires.fresh

pub file_under-requires-clause-none_noted : goal.file_under-requires-clause-none_noted
file_under-requires-clause-none_noted g c = λ κs lives.
    ap (λ log. log.ended) c.configuration.ensures.log ∙ c.requires.none_noted

pub returns-in_err-config-clause-ended : goal.returns-in_err-config-clause-ended
returns-in_err-config-clause-ended g c =
    let what : Command = command c.args.verb c.args.config.now c.args.file.now in
    let after : Progress = seen g.F.Folder.state g.O.Sink.state c.configuration.new.self in
    let known = noted c.configuration.new.self in
    weaves_stopped (files_plan what) IsWovenBy (CommandTells what) known c.from_residual.result
    c.in_err-config.field-0.0 after
    (none_noted c.configuration.new.self (ap (λ log. log.ended) c.configuration.ensures.log ∙ c.requires.none_noted))
    (err_from_is_err_and c.from_residual.result c.from_residual.ensures.1)
    (c.in_err-config.ensures.stops c.args.verb c.args.file.now (came None known after.ends))

pub returns-clause-ended : goal.returns-clause-ended
returns-clause-ended g c =
    let what : Command = command c.args.verb c.args.config.now c.args.file.now in
    let after : Progress = seen g.F.Folder.state g.O.Sink.state c.file_under.new.self in
    files_weave what c.in_ok-config.config (noted c.file_under.new.self) c.file_under.result after
    c.in_ok-config.ensures.config c.configuration.ensures.continues.counts c.file_under.ensures.ended
