-- The columns and the faults of items one after another.
use Rattle.typed_columns.proofs.FaultLemmas.{first_with-append}
use Rattle.typed_columns.proofs.ListedLemmas.{option_to_list-filter_map}

pub ruleset item_steps = (first_with-append, option_to_list-filter_map)
