-- the files of the lines so far were read
use Rattle.std.proofs.Common.{◌≡◌, drop, length}
use Rattle.mon_run.specs.within.Stops.{Continues, seen}
use Rattle.mon_run.proofs.ReadingLemmas.{ReadTo}
use Rattle.mon_run.proofs.runs.Run.contents.Given as goal

abbrev pub invariant-loop-line : goal.invariant-loop-line
invariant-loop-line g l = record {
  continues : Continues g.F.Folder.state g.O.Sink.state l.fn.self l.self;
  log : l.self.log.now ≡ l.fn.self.log.now;
  count : length l.contents ≡ l.line-index;
  read : ReadTo l.lines (drop l.line-index l.lines) l.contents (seen g.F.Folder.state g.O.Sink.state l.fn.self)
      (seen g.F.Folder.state g.O.Sink.state l.self);
}
