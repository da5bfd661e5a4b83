-- the text so far and what is said of the lines that are left are the whole text
use Rattle.std.proofs.Common.{◌≡◌, ◌++◌, ◌+◌, ◌≤◌, drop}
use Rattle.mon_script.specs.Lines.{lines_of}
use Rattle.trials.specs.Reading.{place_of}
use Rattle.trials.specs.Summaries as spec
use Rattle.trials.proofs.summaries.push_queries.Given as goal

abbrev pub invariant-loop-trace : goal.invariant-loop-trace
invariant-loop-trace l = record {
  text : l.text.items ++ spec.queries_text (place_of l.at) (drop l.trace-index l.traces)
      ≡ l.initial.text.items ++ spec.queries_text (spec.place 1 (lines_of l.printed)) l.traces;
  few : l.at.number ≤ l.trace-index + 1;
}
