use Rattle.mon_value.proofs.IncreaseLemmas.{increases_large, increases_sum, increases_window}
use Rattle.mon_value.proofs.aligners.increases_are_of_windows.Goals as goal

pub returns-clause-window : goal.returns-clause-window
returns-clause-window c time seconds before points long rise = increases_window time seconds long before points rise

pub returns-clause-each : goal.returns-clause-each
returns-clause-each c most before points some all = increases_large most before points some all

pub returns-clause-sums : goal.returns-clause-sums
returns-clause-sums c before points = increases_sum before points
