-- a front of the pieces was written, and those are left that the input still has
use Rattle.std.proofs.Common.{◌≡◌, length}
use Rattle.mon_run.specs.within.Stops.{Continues, seen}
use Rattle.mon_run.proofs.MadeLemmas.{Written}
use Rattle.mon_run.proofs.runs.Run.made.Given as goal

abbrev pub invariant-loop-piece : goal.invariant-loop-piece
invariant-loop-piece g l = record {
  continues : Continues g.F.Folder.state g.O.Sink.state l.fn.self l.self;
  folder : g.F.Folder.state l.self.folder.now ≡ g.F.Folder.state l.fn.self.folder.now;
  left : l.self.log.now.ended ≡ l.fn.self.log.now.ended;
  written : Written l.number l.input
      (seen g.F.Folder.state g.O.Sink.state l.fn.self) (seen g.F.Folder.state g.O.Sink.state l.self);
}

abbrev pub decreases-loop-piece : goal.decreases-loop-piece
decreases-loop-piece g l = length l.input
