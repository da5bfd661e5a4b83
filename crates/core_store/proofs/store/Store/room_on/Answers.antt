use Rattle.std.proofs.Common.{◌≡◌, Some, length, slice_get, refl}
use Rattle.std.proofs.lemmas.Option.{slice_get_read}
use Rattle.core_store.proofs.store.Store.room_on.Goals as goal

pub room_for-requires : goal.room_for-requires
room_for-requires c =
    let was : slice_get c.args.self.now.leaves.items c.args.leaf.0 ≡ Some c.index_mut-seat.result.now
    = slice_get_read c.args.self.now.leaves.items (length c.args.self.now.leaves.items) c.args.leaf.0
    c.index_mut-seat.result.now refl c.requires.there c.index_mut-seat.ensures.value in
    let seated = c.requires.seated c.index_mut-seat.result.now was in
    record { alike = seated.0; there = seated.1 }

pub returns : goal.returns
returns c =
    let was : slice_get c.args.self.now.leaves.items c.args.leaf.0 ≡ Some c.index_mut-seat.result.now
    = slice_get_read c.args.self.now.leaves.items (length c.args.self.now.leaves.items) c.args.leaf.0
    c.index_mut-seat.result.now refl c.requires.there c.index_mut-seat.ensures.value in
    record {
      asks = record {
        before = c.index_mut-seat.result.now;
        was = was;
        seat = c.room_for.new.seat;
        changes = record { config = refl; words = refl; leaves = refl; ranges = refl; first = refl };
        asks = c.room_for.ensures.asks;
      };
    }
