use Rattle.std.proofs.Common.{◌≡◌}
use Rattle.mon_script.specs.Made.{number_behind}
use Rattle.mon_script.proofs.generator.number_behind.Given as goal

abbrev pub invariant-loop-step : goal.invariant-loop-step
invariant-loop-step l = l.behind ≡ number_behind l._step l.number
