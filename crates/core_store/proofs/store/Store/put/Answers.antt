use Rattle.std.proofs.Common.{rules, ◌≡◌, Some, slice_get, refl}
use Rattle.std.specs.Vec.{with_item}
use Rattle.core_store.proofs.WriteReturns.{leaf_read, put_returns, putting_follows, putting_leaf, seat_alike}
use Rattle.core_store.proofs.WriteReturns.{seat_in_sight, seat_there}
use Rattle.core_store.proofs.store.Store.put.Goals as goal

pub index_mut-seat-requires : goal.index_mut-seat-requires
index_mut-seat-requires c =
    let here = seat_there c.args.self.now c.args.writing c.args.sight.now c.requires.at_work c.args.leaf
    (putting_leaf c.args.self.now c.args.writing c.args.sight.now c.requires.at_work c.args.slot c.args.leaf
    c.requires.asks) in
    search rules

pub put-requires-clause-alike : goal.put-requires-clause-alike
put-requires-clause-alike c =
    let got : slice_get c.args.self.now.leaves.items c.args.leaf.0 ≡ Some c.index_mut-seat.result.now
    = leaf_read c.args.self.now c.args.writing c.args.sight.now c.requires.at_work c.args.leaf
    (putting_leaf c.args.self.now c.args.writing c.args.sight.now c.requires.at_work c.args.slot c.args.leaf
    c.requires.asks)
    c.index_mut-seat.result.now c.index_mut-seat.ensures.value in
    seat_alike c.args.self.now c.args.writing c.args.sight.now c.requires.at_work c.args.leaf
    (putting_leaf c.args.self.now c.args.writing c.args.sight.now c.requires.at_work c.args.slot c.args.leaf
    c.requires.asks) c.index_mut-seat.result.now got

pub put-requires-clause-there : goal.put-requires-clause-there
put-requires-clause-there c =
    let got : slice_get c.args.self.now.leaves.items c.args.leaf.0 ≡ Some c.index_mut-seat.result.now
    = leaf_read c.args.self.now c.args.writing c.args.sight.now c.requires.at_work c.args.leaf
    (putting_leaf c.args.self.now c.args.writing c.args.sight.now c.requires.at_work c.args.slot c.args.leaf
    c.requires.asks)
    c.index_mut-seat.result.now c.index_mut-seat.ensures.value in
    seat_in_sight c.args.self.now c.args.writing c.args.sight.now c.requires.at_work c.args.leaf
    (putting_leaf c.args.self.now c.args.writing c.args.sight.now c.requires.at_work c.args.slot c.args.leaf
    c.requires.asks) c.index_mut-seat.result.now got

pub put-requires-clause-follows : goal.put-requires-clause-follows
put-requires-clause-follows c =
    let got : slice_get c.args.self.now.leaves.items c.args.leaf.0 ≡ Some c.index_mut-seat.result.now
    = leaf_read c.args.self.now c.args.writing c.args.sight.now c.requires.at_work c.args.leaf
    (putting_leaf c.args.self.now c.args.writing c.args.sight.now c.requires.at_work c.args.slot c.args.leaf
    c.requires.asks)
    c.index_mut-seat.result.now c.index_mut-seat.ensures.value in
    putting_follows c.args.self.now c.args.writing c.args.sight.now c.requires.at_work c.args.slot c.args.leaf
    c.requires.asks
    c.index_mut-seat.result.now got

pub returns : goal.returns
returns c =
    let got : slice_get c.args.self.now.leaves.items c.args.leaf.0 ≡ Some c.index_mut-seat.result.now
    = leaf_read c.args.self.now c.args.writing c.args.sight.now c.requires.at_work c.args.leaf
    (putting_leaf c.args.self.now c.args.writing c.args.sight.now c.requires.at_work c.args.slot c.args.leaf
    c.requires.asks)
    c.index_mut-seat.result.now c.index_mut-seat.ensures.value in
    record {
      turn = λ config world i work. put_returns config world i c.args.self.now c.args.writing c.args.sight.now work
          c.args.slot c.args.leaf c.requires.asks c.index_mut-seat.result.now got (record {
            alloc = c.args.self.now.alloc;
            config = c.args.self.now.config;
            words = c.args.self.now.words;
            leaves = with_item c.args.self.now.leaves c.args.leaf.0 c.put.new.seat;
            ranges = c.args.self.now.ranges;
            first_sight = c.args.self.now.first_sight;
          }) c.put.new.seat c.put.new.writing c.put.new.sight
          (record { config = refl; words = refl; leaves = refl; ranges = refl; first = refl }) c.in_ok-put.ensures.puts;
    }
