use Rattle.std.proofs.Common.{◌∙◌, map, string_bytes, sym}
use Rattle.mon_run.specs.within.Stops.{noted, seen}
use Rattle.mon_run.proofs.RunLemmas.{none_noted, words_made}
use Rattle.mon_run.proofs.runs.Run.command.Goals as goal

pub stored-requires-clause-none : goal.stored-requires-clause-none
stored-requires-clause-none g c = λ κs lives.
    sym c.in-None.ensures.number

pub returns-in-Some-clause-ended : goal.returns-in-Some-clause-ended
returns-in-Some-clause-ended g c =
    words_made (map string_bytes c.args.words.now) _ (noted c.made.new.self) c.made.result
    (seen g.F.Folder.state g.O.Sink.state c.made.new.self)
    (none_noted c.made.new.self (c.made.ensures.left ∙ c.requires.none_noted)) c.in-Some.ensures.number
    c.made.ensures.folder c.made.ensures.ended
