use Rattle.mon_value.proofs.KeptRowLemmas.{first_rows_are, kept_or_trimmed, kept_source}
use Rattle.mon_value.proofs.TurnLemmas.{came_stands, still_stands, standing_source}
use Rattle.mon_value.proofs.turn_laws.rows_stand_or_are_hidden.Goals as goal

pub returns : goal.returns
returns c = record {
  came = came_stands;
  stood = still_stands;
  source = standing_source;
  kept = kept_or_trimmed;
  kept_source = kept_source;
  begun = first_rows_are;
}
