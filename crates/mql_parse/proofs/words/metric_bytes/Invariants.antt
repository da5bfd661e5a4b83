-- What was read, in front of what is left.
use Rattle.std.proofs.Common.{◌≡◌, length, string_bytes, true}
use Rattle.mql_parse.specs.TokenReading.{metric_from}
use Rattle.mql_parse.specs.Outcomes.{with_front}
use Rattle.mql_parse.proofs.words.metric_bytes.Given as goal

abbrev pub invariant-loop-after_slash : goal.invariant-loop-after_slash
invariant-loop-after_slash l =
    with_front (string_bytes l.text) (metric_from l.after_slash l.from.at l.from.bytes.now)
    ≡ with_front (string_bytes l.fn.text) (metric_from true l.fn.from.at l.fn.from.bytes.now)

abbrev pub decreases-loop-after_slash : goal.decreases-loop-after_slash
decreases-loop-after_slash l = length l.from.bytes.now
