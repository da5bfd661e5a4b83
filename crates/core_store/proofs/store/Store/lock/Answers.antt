use Rattle.std.proofs.Common.{◌≡◌, Some, slice_get, refl}
use Rattle.std.specs.Vec.{with_item}
use Rattle.core_store.proofs.WriteReturns.{lock_alike, lock_returns, lock_there, range_read}
use Rattle.core_store.proofs.store.Store.lock.Goals as goal

pub lock-requires-clause-alike : goal.lock-requires-clause-alike
lock-requires-clause-alike c =
    let got : slice_get c.args.self.now.ranges.items c.args.writing.range.0 ≡ Some c.index_mut-seat.result.now
    = range_read c.args.self.now c.args.writing c.args.sight.now c.requires.at_work c.index_mut-seat.result.now
    c.index_mut-seat.ensures.value in
    lock_alike c.args.self.now c.args.writing c.args.sight.now c.requires.at_work c.index_mut-seat.result.now got

pub lock-requires-clause-there : goal.lock-requires-clause-there
lock-requires-clause-there c =
    let got : slice_get c.args.self.now.ranges.items c.args.writing.range.0 ≡ Some c.index_mut-seat.result.now
    = range_read c.args.self.now c.args.writing c.args.sight.now c.requires.at_work c.index_mut-seat.result.now
    c.index_mut-seat.ensures.value in
    lock_there c.args.self.now c.args.writing c.args.sight.now c.requires.at_work c.index_mut-seat.result.now got

pub returns : goal.returns
returns c =
    let got : slice_get c.args.self.now.ranges.items c.args.writing.range.0 ≡ Some c.index_mut-seat.result.now
    = range_read c.args.self.now c.args.writing c.args.sight.now c.requires.at_work c.index_mut-seat.result.now
    c.index_mut-seat.ensures.value in
    record {
      turn = λ config world i work. lock_returns config world i c.args.self.now c.args.writing c.args.sight.now work
          c.requires.asks c.index_mut-seat.result.now got (record {
            alloc = c.args.self.now.alloc;
            config = c.args.self.now.config;
            words = c.args.self.now.words;
            leaves = c.args.self.now.leaves;
            ranges = with_item c.args.self.now.ranges c.args.writing.range.0 c.lock.new.seat;
            first_sight = c.args.self.now.first_sight;
          }) c.lock.new.seat c.lock.new.writing c.lock.new.sight
          c.in_ok-went.went c.turn_of.result
          (record { config = refl; words = refl; leaves = refl; ranges = refl; first = refl })
          c.in_ok-went.ensures.locks
          c.turn_of.ensures.turn;
    }
