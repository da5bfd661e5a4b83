use Rattle.std.proofs.Common.{◌≡◌, Some, length, slice_get, refl}
use Rattle.std.proofs.lemmas.Option.{slice_get_read}
use Rattle.core_store.proofs.store.Store.retire.Goals as goal

pub retire-requires : goal.retire-requires
retire-requires c =
    let was : slice_get c.args.self.now.ranges.items c.args.retiring.range.0 ≡ Some c.index_mut-seat.result.now
    = slice_get_read c.args.self.now.ranges.items (length c.args.self.now.ranges.items) c.args.retiring.range.0
    c.index_mut-seat.result.now refl c.requires.there c.index_mut-seat.ensures.value in
    let seated = c.requires.seated c.index_mut-seat.result.now was in
    record { alike = seated.0; there = seated.1 }

pub returns : goal.returns
returns c =
    let was : slice_get c.args.self.now.ranges.items c.args.retiring.range.0 ≡ Some c.index_mut-seat.result.now
    = slice_get_read c.args.self.now.ranges.items (length c.args.self.now.ranges.items) c.args.retiring.range.0
    c.index_mut-seat.result.now refl c.requires.there c.index_mut-seat.ensures.value in
    record {
      retires = record {
        before = c.index_mut-seat.result.now;
        was = was;
        seat = c.retire.new.seat;
        changes = record { config = refl; words = refl; leaves = refl; ranges = refl; first = refl };
        retires = c.retire.ensures.retires;
      };
    }
