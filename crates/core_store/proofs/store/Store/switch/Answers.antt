use Rattle.std.proofs.Common.{◌≡◌, Some, length, slice_get, refl}
use Rattle.std.proofs.lemmas.Option.{slice_get_read}
use Rattle.core_store.proofs.store.Store.switch.Goals as goal

pub switch-requires : goal.switch-requires
switch-requires c =
    let was : slice_get c.args.self.now.leaves.items c.args.switching.leaf.0 ≡ Some c.index_mut-seat.result.now
    = slice_get_read c.args.self.now.leaves.items (length c.args.self.now.leaves.items) c.args.switching.leaf.0
    c.index_mut-seat.result.now refl c.requires.there c.index_mut-seat.ensures.value in
    let seated = c.requires.seated c.index_mut-seat.result.now was in
    record { alike = seated.0; there = seated.1 }

pub returns : goal.returns
returns c =
    let was : slice_get c.args.self.now.leaves.items c.args.switching.leaf.0 ≡ Some c.index_mut-seat.result.now
    = slice_get_read c.args.self.now.leaves.items (length c.args.self.now.leaves.items) c.args.switching.leaf.0
    c.index_mut-seat.result.now refl c.requires.there c.index_mut-seat.ensures.value in
    record {
      switches = record {
        before = c.index_mut-seat.result.now;
        was = was;
        seat = c.switch.new.seat;
        changes = record { config = refl; words = refl; leaves = refl; ranges = refl; first = refl };
        switches = c.switch.ensures.switches;
      };
    }
