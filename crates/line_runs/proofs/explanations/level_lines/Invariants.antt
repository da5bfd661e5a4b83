-- the text is that of the operations so far
use Rattle.std.proofs.Common.{◌≡◌, take, string_bytes}
use Rattle.std.specs.List.{flat_map}
use Rattle.run_traces.specs.LineTexts.{op_line}
use Rattle.line_runs.proofs.explanations.level_lines.Given as goal

abbrev pub invariant-loop-level : goal.invariant-loop-level
invariant-loop-level l = string_bytes l.text ≡ flat_map op_line (take l.level-index l.levels)
