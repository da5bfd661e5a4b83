use Rattle.std.proofs.Common.{refl}
use Rattle.core_store.proofs.SeatingLemmas.{shared}
use Rattle.core_store.proofs.store.Store.new.Goals as goal

pub returns-in-Ok : goal.returns-in-Ok
returns-in-Ok c =
    let first = c.in-Ok.ensures.seats in
    record {
      shared = shared c.args.config _ first.states first.replays c.in-Ok.seats.first_sight
          c.note_served.ensures.served first.opened first.replay first.sight refl first.words first.leaves first.ranges
          refl;
    }
