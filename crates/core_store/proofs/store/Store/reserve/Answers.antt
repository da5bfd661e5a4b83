use Rattle.std.proofs.Common.{rules, ◌≡◌, Some, slice_get, refl}
use Rattle.std.specs.Vec.{with_item}
use Rattle.core_store.proofs.WriteReturns.{leaf_read, reserve_returns, reserving_leaf, seat_alike, seat_in_sight}
use Rattle.core_store.proofs.WriteReturns.{seat_there}
use Rattle.core_store.proofs.store.Store.reserve.Goals as goal

pub index_mut-seat-requires : goal.index_mut-seat-requires
index_mut-seat-requires c =
    let here = seat_there c.args.self.now c.args.writing c.args.sight.now c.requires.at_work c.args.leaf
    (reserving_leaf c.args.self.now c.args.writing c.args.sight.now c.requires.at_work c.requires.asks.0 c.args.leaf
    c.requires.asks.1) in
    search rules

pub reserve-requires-clause-alike : goal.reserve-requires-clause-alike
reserve-requires-clause-alike c =
    let got : slice_get c.args.self.now.leaves.items c.args.leaf.0 ≡ Some c.index_mut-seat.result.now
    = leaf_read c.args.self.now c.args.writing c.args.sight.now c.requires.at_work c.args.leaf
    (reserving_leaf c.args.self.now c.args.writing c.args.sight.now c.requires.at_work c.requires.asks.0 c.args.leaf
    c.requires.asks.1)
    c.index_mut-seat.result.now c.index_mut-seat.ensures.value in
    seat_alike c.args.self.now c.args.writing c.args.sight.now c.requires.at_work c.args.leaf
    (reserving_leaf c.args.self.now c.args.writing c.args.sight.now c.requires.at_work c.requires.asks.0 c.args.leaf
    c.requires.asks.1) c.index_mut-seat.result.now got

pub reserve-requires-clause-there : goal.reserve-requires-clause-there
reserve-requires-clause-there c =
    let got : slice_get c.args.self.now.leaves.items c.args.leaf.0 ≡ Some c.index_mut-seat.result.now
    = leaf_read c.args.self.now c.args.writing c.args.sight.now c.requires.at_work c.args.leaf
    (reserving_leaf c.args.self.now c.args.writing c.args.sight.now c.requires.at_work c.requires.asks.0 c.args.leaf
    c.requires.asks.1)
    c.index_mut-seat.result.now c.index_mut-seat.ensures.value in
    seat_in_sight c.args.self.now c.args.writing c.args.sight.now c.requires.at_work c.args.leaf
    (reserving_leaf c.args.self.now c.args.writing c.args.sight.now c.requires.at_work c.requires.asks.0 c.args.leaf
    c.requires.asks.1) c.index_mut-seat.result.now got

pub returns : goal.returns
returns c =
    let got : slice_get c.args.self.now.leaves.items c.args.leaf.0 ≡ Some c.index_mut-seat.result.now
    = leaf_read c.args.self.now c.args.writing c.args.sight.now c.requires.at_work c.args.leaf
    (reserving_leaf c.args.self.now c.args.writing c.args.sight.now c.requires.at_work c.requires.asks.0 c.args.leaf
    c.requires.asks.1)
    c.index_mut-seat.result.now c.index_mut-seat.ensures.value in
    record {
      turn = λ config world i work. reserve_returns config world i c.args.self.now c.args.writing c.args.sight.now work
          c.requires.asks.0 c.args.leaf c.requires.asks.1 c.index_mut-seat.result.now got (record {
            alloc = c.args.self.now.alloc;
            config = c.args.self.now.config;
            words = c.args.self.now.words;
            leaves = with_item c.args.self.now.leaves c.args.leaf.0 c.reserve.new.seat;
            ranges = c.args.self.now.ranges;
            first_sight = c.args.self.now.first_sight;
          }) c.reserve.new.seat c.reserve.new.writing
          c.reserve.new.sight c.in_ok-went.went c.turn_of.result
          (record { config = refl; words = refl; leaves = refl; ranges = refl; first = refl })
          c.in_ok-went.ensures.reserves
          c.turn_of.ensures.turn;
    }
