-- the lines in front of those that are left ran
use Rattle.std.proofs.Common.{None, [], length}
use Rattle.std.specs.List.{AllByRecursion}
use Rattle.history_book.specs.Seats.{HasEveryNumber}
use Rattle.mon_script.specs.Blocks.{AreInBlocks}
use Rattle.mon_script.specs.Lawful.{IsLawfulLine}
use Rattle.mon_run.specs.within.Dues.{DueTo}
use Rattle.mon_run.specs.within.Lines.{LinesRanTo}
use Rattle.mon_run.specs.within.Stops.{Continues, seen}
use Rattle.mon_run.proofs.runs.Run.lines.Given as goal
use Rattle.part_runs.specs.PartsDone.{CanSplit}
use Rattle.standing.specs.DueLists.{standing_state}

abbrev pub invariant-loop-line : goal.invariant-loop-line
invariant-loop-line g l = record {
  continues : Continues g.F.Folder.state g.O.Sink.state l.fn.self l.self;
  lawful : AllByRecursion (IsLawfulLine l.store.topology) l.left;
  blocks : AreInBlocks None l.left;
  every : HasEveryNumber l.p.purse;
  stock : CanSplit (length l.left) l.p;
  ran : LinesRanTo l.store l.lines l.left l.fn.p.seen l.p.seen
      (seen g.F.Folder.state g.O.Sink.state l.fn.self) (seen g.F.Folder.state g.O.Sink.state l.self);
  due : DueTo l.store.schemas l.lines l.left (standing_state [] None) l.standing l.fn.self.log.now.traces.items
      l.self.log.now.traces.items;
}

abbrev pub decreases-loop-line : goal.decreases-loop-line
decreases-loop-line g l = length l.left
