use Rattle.typed_rows.proofs.DurationLemmas.{durations_spelled}
use Rattle.typed_rows.proofs.TypedGridLemmas.{typed_grid}
use Rattle.typed_rows.proofs.grids.typed_grids_are_lawful.Goals as goal

pub returns-clause-durations : goal.returns-clause-durations
returns-clause-durations c = durations_spelled

pub returns-clause-grid : goal.returns-clause-grid
returns-clause-grid c = typed_grid
