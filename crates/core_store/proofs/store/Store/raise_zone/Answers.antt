use Rattle.std.proofs.Common.{rules, ◌≡◌, Some, slice_get, refl}
use Rattle.std.specs.Vec.{with_item}
use Rattle.core_store.proofs.WriteReturns.{leaf_read, raising_zone_child, raising_zone_leaf, raising_zone_word}
use Rattle.core_store.proofs.WriteReturns.{zone_returns, seat_alike, seat_in_sight, seat_there}
use Rattle.core_store.proofs.store.Store.raise_zone.Goals as goal

pub index_mut-seat-requires : goal.index_mut-seat-requires
index_mut-seat-requires c =
    let here = seat_there c.args.self.now c.args.writing c.args.sight.now c.requires.at_work c.in-Some.leaf
    (raising_zone_leaf c.args.self.now c.args.writing c.args.sight.now c.requires.at_work c.args.bucket c.requires.asks
    c.in-Some.leaf c.in-Some.is) in
    search rules

pub raise-requires-clause-there : goal.raise-requires-clause-there
raise-requires-clause-there c =
    let got : slice_get c.args.self.now.leaves.items c.in-Some.leaf.0 ≡ Some c.index_mut-seat.result.now
    = leaf_read c.args.self.now c.args.writing c.args.sight.now c.requires.at_work c.in-Some.leaf
    (raising_zone_leaf c.args.self.now c.args.writing c.args.sight.now c.requires.at_work c.args.bucket c.requires.asks
    c.in-Some.leaf c.in-Some.is)
    c.index_mut-seat.result.now c.index_mut-seat.ensures.value in
    raising_zone_word c.args.self.now c.args.writing c.args.sight.now c.requires.at_work c.args.bucket c.requires.asks
    c.in-Some.leaf c.in-Some.is c.index_mut-seat.result.now got

pub raise-requires-clause-child : goal.raise-requires-clause-child
raise-requires-clause-child c =
    let got : slice_get c.args.self.now.leaves.items c.in-Some.leaf.0 ≡ Some c.index_mut-seat.result.now
    = leaf_read c.args.self.now c.args.writing c.args.sight.now c.requires.at_work c.in-Some.leaf
    (raising_zone_leaf c.args.self.now c.args.writing c.args.sight.now c.requires.at_work c.args.bucket c.requires.asks
    c.in-Some.leaf c.in-Some.is)
    c.index_mut-seat.result.now c.index_mut-seat.ensures.value in
    raising_zone_child c.args.self.now c.args.writing c.args.sight.now c.requires.at_work c.args.bucket c.requires.asks
    c.in-Some.leaf c.in-Some.is
    c.index_mut-seat.result.now got

pub raise-requires-2-clause-alike : goal.raise-requires-2-clause-alike
raise-requires-2-clause-alike c =
    let got : slice_get c.args.self.now.leaves.items c.in-Some.leaf.0 ≡ Some c.index_mut-seat.result.now
    = leaf_read c.args.self.now c.args.writing c.args.sight.now c.requires.at_work c.in-Some.leaf
    (raising_zone_leaf c.args.self.now c.args.writing c.args.sight.now c.requires.at_work c.args.bucket c.requires.asks
    c.in-Some.leaf c.in-Some.is)
    c.index_mut-seat.result.now c.index_mut-seat.ensures.value in
    seat_alike c.args.self.now c.args.writing c.args.sight.now c.requires.at_work c.in-Some.leaf
    (raising_zone_leaf c.args.self.now c.args.writing c.args.sight.now c.requires.at_work c.args.bucket c.requires.asks
    c.in-Some.leaf c.in-Some.is) c.index_mut-seat.result.now got

pub raise-requires-2-clause-there : goal.raise-requires-2-clause-there
raise-requires-2-clause-there c =
    let got : slice_get c.args.self.now.leaves.items c.in-Some.leaf.0 ≡ Some c.index_mut-seat.result.now
    = leaf_read c.args.self.now c.args.writing c.args.sight.now c.requires.at_work c.in-Some.leaf
    (raising_zone_leaf c.args.self.now c.args.writing c.args.sight.now c.requires.at_work c.args.bucket c.requires.asks
    c.in-Some.leaf c.in-Some.is)
    c.index_mut-seat.result.now c.index_mut-seat.ensures.value in
    seat_in_sight c.args.self.now c.args.writing c.args.sight.now c.requires.at_work c.in-Some.leaf
    (raising_zone_leaf c.args.self.now c.args.writing c.args.sight.now c.requires.at_work c.args.bucket c.requires.asks
    c.in-Some.leaf c.in-Some.is) c.index_mut-seat.result.now got

pub returns : goal.returns
returns c =
    let got : slice_get c.args.self.now.leaves.items c.in-Some.leaf.0 ≡ Some c.index_mut-seat.result.now
    = leaf_read c.args.self.now c.args.writing c.args.sight.now c.requires.at_work c.in-Some.leaf
    (raising_zone_leaf c.args.self.now c.args.writing c.args.sight.now c.requires.at_work c.args.bucket c.requires.asks
    c.in-Some.leaf c.in-Some.is)
    c.index_mut-seat.result.now c.index_mut-seat.ensures.value in
    record {
      turn = λ config world i work. zone_returns config world i c.args.self.now c.args.writing c.args.sight.now work
          c.args.bucket
          c.requires.asks c.in-Some.leaf c.in-Some.is c.index_mut-seat.result.now got (record {
            alloc = c.args.self.now.alloc;
            config = c.args.self.now.config;
            words = c.raise.new.self;
            leaves = with_item c.args.self.now.leaves c.in-Some.leaf.0 c.raise-2.new.seat;
            ranges = c.args.self.now.ranges;
            first_sight = c.args.self.now.first_sight;
          }) c.raise-2.new.seat c.raise-2.new.writing c.raise-2.new.sight
          (record { config = refl; words = c.raise.ensures.raised; leaves = refl; ranges = refl; first = refl })
          c.in_ok-raise.ensures.raises;
    }
