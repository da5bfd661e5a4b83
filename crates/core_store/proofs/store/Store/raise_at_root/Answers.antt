use Rattle.std.proofs.Common.{◌≡◌, Some, length, slice_get, refl}
use Rattle.std.proofs.lemmas.Option.{slice_get_read}
use Rattle.core_store.proofs.RecoveryReturns.{met_leaf}
use Rattle.core_store.proofs.store.Store.raise_at_root.Goals as goal

pub raise-requires : goal.raise-requires
raise-requires c =
    let was : slice_get c.args.self.now.leaves.items c.args.leaf.0 ≡ Some c.index_mut-seat.result.now
    = slice_get_read c.args.self.now.leaves.items (length c.args.self.now.leaves.items) c.args.leaf.0
    c.index_mut-seat.result.now refl c.requires.there c.index_mut-seat.ensures.value in
    let may = c.requires.may c.index_mut-seat.result.now was in
    record { there = may.0; child = may.1 }

pub meet-requires : goal.meet-requires
meet-requires c =
    let was : slice_get c.args.self.now.leaves.items c.args.leaf.0 ≡ Some c.index_mut-seat.result.now
    = slice_get_read c.args.self.now.leaves.items (length c.args.self.now.leaves.items) c.args.leaf.0
    c.index_mut-seat.result.now refl c.requires.there c.index_mut-seat.ensures.value in
    let seated = c.requires.seated c.index_mut-seat.result.now was in
    record { alike = seated.0; there = seated.1 }

pub returns : goal.returns
returns c =
    let was : slice_get c.args.self.now.leaves.items c.args.leaf.0 ≡ Some c.index_mut-seat.result.now
    = slice_get_read c.args.self.now.leaves.items (length c.args.self.now.leaves.items) c.args.leaf.0
    c.index_mut-seat.result.now refl c.requires.there c.index_mut-seat.ensures.value in
    record {
      done = refl;
      raises = record {
        before = c.index_mut-seat.result.now;
        was = was;
        seat = c.meet.new.self;
        changes = record {
          config = refl;
          words = c.raise.ensures.raised;
          leaves = refl;
          ranges = refl;
          first = refl;
        };
        meets = met_leaf c.args.leaf c.index_mut-seat.result.now c.meet.new.self c.args.sight.now c.meet.new.sight
            c.meet.ensures.state c.meet.ensures.holder c.meet.ensures.zone c.meet.ensures.place c.meet.ensures.seat
            c.meet.ensures.sight;
      };
    }
