-- whatever the lines that are left print, all print the text so far in front
use Rattle.std.proofs.Common.{◌≤◌, length, string_bytes}
use Rattle.mon_config.specs.declared.config.Config.{Config}
use Rattle.mon_script.specs.Lines.{lines_of}
use Rattle.weave_core.specs.ActorAgreements.{Agrees}
use Rattle.weave_core.specs.States.{State}
use Rattle.core_store.specs.Agreements.{store_of}
use Rattle.weave_core.specs.WeaveCalls.{IsWeaveKept}
use Rattle.schedule_lines.specs.declared.limits.TheConstants.{MOST_LINES}
use Rattle.weave_core.proofs.LineRunLemmas.{Running}
use Rattle.weave_core.proofs.schedules.run_lines.Given as goal

abbrev pub invariant-loop-line : goal.invariant-loop-line
invariant-loop-line l = record {
  kept : IsWeaveKept l.weave;
  few : l.number ≤ MOST_LINES;
  running : (config : Config) (start : State (store_of config)) → Agrees config l.fn.weave start
      → Running config start (lines_of l.text) l.number (lines_of l.rest) l.weave (string_bytes l.fn.out)
      (string_bytes l.out);
}

abbrev pub decreases-loop-line : goal.decreases-loop-line
decreases-loop-line l = length l.rest
