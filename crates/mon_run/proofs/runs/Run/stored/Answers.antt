use Rattle.std.proofs.Common.{map, string_bytes, sym}
use Rattle.mon_run.specs.within.Stops.{noted, seen}
use Rattle.mon_run.proofs.RunLemmas.{none_noted, words_refused, words_weave}
use Rattle.mon_run.proofs.runs.Run.stored.Goals as goal

pub returns-in-Some-clause-ended : goal.returns-in-Some-clause-ended
returns-in-Some-clause-ended g c =
    words_weave (map string_bytes c.args.words.now) _ (noted c.files.new.self) c.files.result
    (seen g.F.Folder.state g.O.Sink.state c.files.new.self) c.requires.none c.in-Some.ensures.command
    c.files.ensures.ended

pub returns-in-None-clause-ended : goal.returns-in-None-clause-ended
returns-in-None-clause-ended g c =
    words_refused (map string_bytes c.args.words.now) (noted c.args.self.now)
    (seen g.F.Folder.state g.O.Sink.state c.args.self.now) (none_noted c.args.self.now c.requires.none_noted)
    c.requires.none (sym c.in-None.ensures.command)
