use Rattle.std.proofs.Common.{◌≡◌, rules}
use Rattle.core_store.specs.Openings.{sight_of_states}
use Rattle.core_store.proofs.SeatingLemmas.{first_seats}
use Rattle.core_store.proofs.store.seated.Goals as goal

pub returns-in-Ok : goal.returns-in-Ok
returns-in-Ok c =
    let seen : c.in-Ok.sight ≡ sight_of_states c.args.leaf_states.items c.args.range_states.items = search rules in
    record {
      seats = first_seats c.args.config.now c.args.leaf_states.items c.args.range_states.items c.in-Ok.sight
          c.seats_of.result c.requires.opened c.requires.histories seen c.seats_of.ensures.words
          c.seats_of.ensures.leaves c.seats_of.ensures.ranges c.seats_of.ensures.sight;
    }
