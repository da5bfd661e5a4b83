-- the text so far, in front of what the leaves to come say, is the whole
use Rattle.std.proofs.Common.{◌≡◌, ◌++◌, drop, string_bytes}
use Rattle.mon_topo.specs.Zones.{leaves_in}
use Rattle.run_traces.specs.LineTexts as spec
use Rattle.line_runs.proofs.explanations.leaf_lines.Given as goal

abbrev pub invariant-loop-number : goal.invariant-loop-number
invariant-loop-number l =
    string_bytes l.text ++ spec.leaf_lines l.trace l.number (drop l.number (leaves_in l.topology))
    ≡ spec.leaf_lines l.trace 0 (leaves_in l.topology)
