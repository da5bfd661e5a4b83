use Rattle.std.proofs.Common.{◌≡◌, Some, slice_get, refl}
use Rattle.std.specs.Vec.{with_item}
use Rattle.core_store.proofs.WriteReturns.{acking_room, acknowledge_returns, lock_alike, lock_there, own_key}
use Rattle.core_store.proofs.WriteReturns.{range_read}
use Rattle.core_store.proofs.store.Store.acknowledge.Goals as goal

pub let_go-requires-clause-alike : goal.let_go-requires-clause-alike
let_go-requires-clause-alike c =
    let got : slice_get c.args.self.now.ranges.items c.args.writing.range.0 ≡ Some c.index_mut-seat.result.now
    = range_read c.args.self.now c.args.writing c.args.sight.now c.requires.at_work c.index_mut-seat.result.now
    c.index_mut-seat.ensures.value in
    lock_alike c.args.self.now c.args.writing c.args.sight.now c.requires.at_work c.index_mut-seat.result.now got

pub let_go-requires-clause-there : goal.let_go-requires-clause-there
let_go-requires-clause-there c =
    let got : slice_get c.args.self.now.ranges.items c.args.writing.range.0 ≡ Some c.index_mut-seat.result.now
    = range_read c.args.self.now c.args.writing c.args.sight.now c.requires.at_work c.index_mut-seat.result.now
    c.index_mut-seat.ensures.value in
    lock_there c.args.self.now c.args.writing c.args.sight.now c.requires.at_work c.index_mut-seat.result.now got

pub let_go-requires-clause-room : goal.let_go-requires-clause-room
let_go-requires-clause-room c =
    let got : slice_get c.args.self.now.ranges.items c.args.writing.range.0 ≡ Some c.index_mut-seat.result.now
    = range_read c.args.self.now c.args.writing c.args.sight.now c.requires.at_work c.index_mut-seat.result.now
    c.index_mut-seat.ensures.value in
    acking_room c.args.self.now c.args.writing c.args.sight.now c.requires.at_work c.requires.asks
    c.index_mut-seat.result.now got

pub let_go-requires-clause-key : goal.let_go-requires-clause-key
let_go-requires-clause-key c = own_key c.args.self.now c.args.writing c.args.sight.now c.requires.at_work

pub returns-in-Ok : goal.returns-in-Ok
returns-in-Ok c =
    let got : slice_get c.args.self.now.ranges.items c.args.writing.range.0 ≡ Some c.index_mut-seat.result.now
    = range_read c.args.self.now c.args.writing c.args.sight.now c.requires.at_work c.index_mut-seat.result.now
    c.index_mut-seat.ensures.value in
    record {
      turn = λ config world i work. acknowledge_returns config world i c.args.self.now c.args.writing c.args.sight.now
          work
          c.requires.asks c.told.new.self.range c.told.new.self.stage c.finish-end.result c.in-Ok.ensures.range
          c.in-Ok.ensures.after c.finish-end.ensures.end c.index_mut-seat.result.now got (record {
            alloc = c.args.self.now.alloc;
            config = c.args.self.now.config;
            words = c.args.self.now.words;
            leaves = c.args.self.now.leaves;
            ranges = with_item c.args.self.now.ranges c.args.writing.range.0 c.let_go.new.seat;
            first_sight = c.args.self.now.first_sight;
          }) c.let_go.new.seat c.let_go.new.sight
          (record { config = refl; words = refl; leaves = refl; ranges = refl; first = refl })
          c.let_go.ensures.lets_go;
    }
