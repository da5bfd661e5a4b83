use Rattle.plan_split.proofs.FitLemmas.{fields_of_fitting}
use Rattle.plan_split.proofs.laws.series_that_fit_have_fields.Goals as goal

pub returns : goal.returns
returns c = record { fields = fields_of_fitting }
