use Rattle.std.proofs.Common.{◌≡◌, Some, length, slice_get, refl}
use Rattle.std.proofs.lemmas.Option.{slice_get_read}
use Rattle.core_store.proofs.RecoveryReturns.{on_ok}
use Rattle.core_store.proofs.store.Store.put_entry.Goals as goal

pub open_replica-requires : goal.open_replica-requires
open_replica-requires c =
    let was : slice_get c.args.self.now.leaves.items c.args.leaf.0 ≡ Some c.index_mut-seat.result.now
    = slice_get_read c.args.self.now.leaves.items (length c.args.self.now.leaves.items) c.args.leaf.0
    c.index_mut-seat.result.now refl c.requires.there c.index_mut-seat.ensures.value in
    let seated = c.requires.seated c.index_mut-seat.result.now was in
    record {
      alike = seated.0;
      there = seated.1;
      rows = c.requires.rows;
      follows = c.requires.follows c.index_mut-seat.result.now was;
    }

pub returns : goal.returns
returns c =
    let was : slice_get c.args.self.now.leaves.items c.args.leaf.0 ≡ Some c.index_mut-seat.result.now
    = slice_get_read c.args.self.now.leaves.items (length c.args.self.now.leaves.items) c.args.leaf.0
    c.index_mut-seat.result.now refl c.requires.there c.index_mut-seat.ensures.value in
    record {
      puts = on_ok c.open_replica.result (λ puts. record {
        before = c.index_mut-seat.result.now;
        was = was;
        seat = c.open_replica.new.seat;
        changes = record { config = refl; words = refl; leaves = refl; ranges = refl; first = refl };
        puts = puts;
      }) c.open_replica.ensures.puts;
    }
