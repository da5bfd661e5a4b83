-- the texts so far were written
use Rattle.std.proofs.Common.{◌≡◌, drop}
use Rattle.mon_run.specs.within.Stops.{Continues, seen}
use Rattle.mon_run.proofs.ReadingLemmas.{WroteTo}
use Rattle.mon_run.proofs.runs.Run.texts.Given as goal

abbrev pub invariant-loop-text : goal.invariant-loop-text
invariant-loop-text g l = record {
  continues : Continues g.F.Folder.state g.O.Sink.state l.fn.self l.self;
  folder : g.F.Folder.state l.self.folder.now ≡ g.F.Folder.state l.fn.self.folder.now;
  log : l.self.log.now ≡ l.fn.self.log.now;
  wrote : WroteTo l.texts (drop l.text-index l.texts) (seen g.F.Folder.state g.O.Sink.state l.fn.self)
      (seen g.F.Folder.state g.O.Sink.state l.self);
}
