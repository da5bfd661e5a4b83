-- the text has the lines so far
use Rattle.std.proofs.Common.{◌≡◌, ◌++◌, take, string_bytes}
use Rattle.std.specs.List.{flat_map}
use Rattle.run_traces.specs.LineTexts.{refusal_line}
use Rattle.line_runs.proofs.feed_texts.push_refusals.Given as goal

abbrev pub invariant-loop-refusal : goal.invariant-loop-refusal
invariant-loop-refusal l = string_bytes l.text ≡ string_bytes l.fn.text ++ flat_map (refusal_line l.topology)
    (take l.refusal-index l.refusal-items)
