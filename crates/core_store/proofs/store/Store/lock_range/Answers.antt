use Rattle.std.proofs.Common.{◌≡◌, Option, Some, length, slice_get, refl}
use Rattle.std.proofs.lemmas.Option.{slice_get_read}
use Rattle.core_store.specs.RecoveryEvents.{LocksToOpenIf}
use Rattle.write_core.specs.declared.copies.CopyTold.{CopyTold}
use Rattle.core_store.proofs.store.Store.lock_range.Goals as goal
use Rattle.mon_value.proofs.PlainLemmas.{if_ok_on}

pub lock_to_open-requires : goal.lock_to_open-requires
lock_to_open-requires c =
    let was : slice_get c.args.self.now.ranges.items c.args.range.0 ≡ Some c.index_mut-seat.result.now
    = slice_get_read c.args.self.now.ranges.items (length c.args.self.now.ranges.items) c.args.range.0
    c.index_mut-seat.result.now refl c.requires.there c.index_mut-seat.ensures.value in
    let seated = c.requires.seated c.index_mut-seat.result.now was in
    record { alike = seated.0; there = seated.1 }

pub returns : goal.returns
returns c =
    let was : slice_get c.args.self.now.ranges.items c.args.range.0 ≡ Some c.index_mut-seat.result.now
    = slice_get_read c.args.self.now.ranges.items (length c.args.self.now.ranges.items) c.args.range.0
    c.index_mut-seat.result.now refl c.requires.there c.index_mut-seat.ensures.value in
    record {
      locks = if_ok_on (λ (answer : Option CopyTold). LocksToOpenIf c.args.number c.args.range c.args.leaf
          c.index_mut-seat.result.now c.lock_to_open.new.seat c.args.sight.now c.lock_to_open.new.sight answer) _
          (λ answer h. record {
            before = c.index_mut-seat.result.now;
            was = was;
            seat = c.lock_to_open.new.seat;
            changes = record { config = refl; words = refl; leaves = refl; ranges = refl; first = refl };
            locks = h;
          }) c.lock_to_open.result c.lock_to_open.ensures.locks;
    }
