use Rattle.core_store.proofs.OpeningLemmas.{new_opened}
use Rattle.core_store.proofs.store.first_seats.Goals as goal

pub open_ranges-requires : goal.open_ranges-requires
open_ranges-requires c = record {
  none = new_opened c.args.config.now c.in_ok-leaves.leaves.items c.in_ok-leaves.ensures.new;
}
