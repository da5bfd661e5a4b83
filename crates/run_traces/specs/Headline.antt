-- What holds of a run's lines and of the histories at its end.
use Rattle.std.specs.Prelude.{List, [], None}
use Rattle.std.specs.List.{AllByRecursion}
use Rattle.mon_config.specs.declared.config.Config.{Config}
use Rattle.mon_value.specs.declared.histories.Histories.{Histories}
use Rattle.run_theory.specs.Parts.{Each, Part, all_lines}
use Rattle.run_traces.specs.LineCauses.{LineIsCaused}
use Rattle.run_traces.specs.LineSwitches.{LineIsControlled, LineStands}
use Rattle.run_traces.specs.LineDues.{AreDue, asked_parts}
use Rattle.run_traces.specs.LineFeeds.{AreAcknowledged, AreOfLines, LineIsPaired, LineIsTold, ShareNoEntry}
use Rattle.run_traces.specs.LineForms.{LineSuits}
use Rattle.run_traces.specs.LineTables.{LineIsFresh, LineIsPlaced, LineIsRead, LineIsTabled}
use Rattle.run_traces.specs.RanLines.{OwnPlace, RanLine, parts_of, ran_lines}
use Rattle.run_traces.specs.declared.line_files.LineFiles.{LineFiles}
use Rattle.run_traces.specs.declared.traces.LineTrace.{LineTrace}
use Rattle.mon_script.specs.declared.script.ScriptLine.{ScriptLine}
use Rattle.standing.specs.DueLists.{standing_state}

-- Each line came to what a line of its form comes to; each table stands on replicas and cuts in its place, on all that
-- had been accepted before and is not hidden by a trim, and on every leaf that the query wants; each accepted row is
-- acknowledged once, under its line's number, and each put is of such a row; nothing else was made; and whatever was refused
-- has its cause in its place, as has each leaf that missed a row or a trim; and each leaf that was switched, replica that was
-- opened or retired and range that was trimmed stands in its place
pub record RunHolds (config : Config) (ended : Histories) (parts : List (Part RanLine)) : Type 0 where
  pub suits : AllByRecursion LineSuits (all_lines parts)
  pub tables : Each (LineIsTabled config ended) [] parts
  pub fresh : Each (LineIsFresh config ended) [] parts
  pub placed : Each (LineIsPlaced config ended) [] parts
  pub read : Each (LineIsRead config ended) [] parts
  pub told : AllByRecursion (LineIsTold config) (all_lines parts)
  pub acknowledged : AreAcknowledged config ended (all_lines parts)
  pub made : AreOfLines config ended (all_lines parts)
  pub apart : ShareNoEntry ended parts
  pub paired : Each (LineIsPaired ended) [] parts
  pub causes : Each (LineIsCaused config ended) [] parts
  pub controls : Each (LineIsControlled config ended) [] parts
  pub stands : Each (LineStands config ended) [] parts

-- All this holds of a script whose lines came to these traces, where the files of each line held this, for some places of
-- each line's own entries, and where each tick counts as the queries that it asked, one after another; and these are just
-- those that were due
pub record ScriptHolds (config : Config) (contents : List LineFiles) (ended : Histories) (script : List ScriptLine)
    (traces : List LineTrace) : Type 0 where
  pub places : List (List OwnPlace)
  pub run : RunHolds config ended (asked_parts (parts_of (ran_lines script contents traces places)))
  pub dues : AreDue config.schemas (standing_state [] None) script traces
