use Rattle.std.proofs.Common.{rules, ◌≡◌, Some, slice_get, refl}
use Rattle.std.specs.Vec.{with_item}
use Rattle.core_store.proofs.WriteReturns.{leaf_read, enter_returns, entering_leaf, seat_alike, seat_in_sight}
use Rattle.core_store.proofs.WriteReturns.{seat_there}
use Rattle.core_store.proofs.store.Store.enter.Goals as goal

pub index_mut-seat-requires : goal.index_mut-seat-requires
index_mut-seat-requires c =
    let here = seat_there c.args.self.now c.args.writing c.args.sight.now c.requires.at_work c.args.leaf
    (entering_leaf c.args.self.now c.args.writing c.args.sight.now c.requires.at_work c.requires.asks.0 c.args.leaf
    c.requires.asks.1) in
    search rules

pub enter-requires-clause-alike : goal.enter-requires-clause-alike
enter-requires-clause-alike c =
    let got : slice_get c.args.self.now.leaves.items c.args.leaf.0 ≡ Some c.index_mut-seat.result.now
    = leaf_read c.args.self.now c.args.writing c.args.sight.now c.requires.at_work c.args.leaf
    (entering_leaf c.args.self.now c.args.writing c.args.sight.now c.requires.at_work c.requires.asks.0 c.args.leaf
    c.requires.asks.1)
    c.index_mut-seat.result.now c.index_mut-seat.ensures.value in
    seat_alike c.args.self.now c.args.writing c.args.sight.now c.requires.at_work c.args.leaf
    (entering_leaf c.args.self.now c.args.writing c.args.sight.now c.requires.at_work c.requires.asks.0 c.args.leaf
    c.requires.asks.1) c.index_mut-seat.result.now got

pub enter-requires-clause-there : goal.enter-requires-clause-there
enter-requires-clause-there c =
    let got : slice_get c.args.self.now.leaves.items c.args.leaf.0 ≡ Some c.index_mut-seat.result.now
    = leaf_read c.args.self.now c.args.writing c.args.sight.now c.requires.at_work c.args.leaf
    (entering_leaf c.args.self.now c.args.writing c.args.sight.now c.requires.at_work c.requires.asks.0 c.args.leaf
    c.requires.asks.1)
    c.index_mut-seat.result.now c.index_mut-seat.ensures.value in
    seat_in_sight c.args.self.now c.args.writing c.args.sight.now c.requires.at_work c.args.leaf
    (entering_leaf c.args.self.now c.args.writing c.args.sight.now c.requires.at_work c.requires.asks.0 c.args.leaf
    c.requires.asks.1) c.index_mut-seat.result.now got

pub returns : goal.returns
returns c =
    let got : slice_get c.args.self.now.leaves.items c.args.leaf.0 ≡ Some c.index_mut-seat.result.now
    = leaf_read c.args.self.now c.args.writing c.args.sight.now c.requires.at_work c.args.leaf
    (entering_leaf c.args.self.now c.args.writing c.args.sight.now c.requires.at_work c.requires.asks.0 c.args.leaf
    c.requires.asks.1)
    c.index_mut-seat.result.now c.index_mut-seat.ensures.value in
    record {
      turn = λ config world i work. enter_returns config world i c.args.self.now c.args.writing c.args.sight.now work
          c.requires.asks.0 c.args.leaf c.requires.asks.1 c.index_mut-seat.result.now got (record {
            alloc = c.args.self.now.alloc;
            config = c.args.self.now.config;
            words = c.args.self.now.words;
            leaves = with_item c.args.self.now.leaves c.args.leaf.0 c.enter.new.seat;
            ranges = c.args.self.now.ranges;
            first_sight = c.args.self.now.first_sight;
          }) c.enter.new.seat c.enter.new.writing
          c.enter.new.sight c.in_ok-went.went c.turn_of.result
          (record { config = refl; words = refl; leaves = refl; ranges = refl; first = refl })
          c.in_ok-went.ensures.enters
          c.turn_of.ensures.turn;
    }
