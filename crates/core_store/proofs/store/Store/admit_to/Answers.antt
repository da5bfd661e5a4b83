use Rattle.std.proofs.Common.{◌≡◌, Option, Some, length, slice_get, refl}
use Rattle.std.proofs.lemmas.Option.{slice_get_read}
use Rattle.core_store.specs.RecoveryEvents.{AsksLeafIf, IsAdmitted}
use Rattle.write_core.specs.CopySteps.{newcomer}
use Rattle.write_core.specs.declared.copies.CopyTold.{CopyTold}
use Rattle.core_store.proofs.store.Store.admit_to.Goals as goal
use Rattle.mon_value.proofs.PlainLemmas.{if_ok_on}

pub admit-requires : goal.admit-requires
admit-requires c =
    let was : slice_get c.args.self.now.leaves.items c.args.leaf.0 ≡ Some c.index_mut-seat.result.now
    = slice_get_read c.args.self.now.leaves.items (length c.args.self.now.leaves.items) c.args.leaf.0
    c.index_mut-seat.result.now refl c.requires.there c.index_mut-seat.ensures.value in
    let seated = c.requires.seated c.index_mut-seat.result.now was in
    record { alike = seated.0; there = seated.1 }

pub returns : goal.returns
returns c =
    let was : slice_get c.args.self.now.leaves.items c.args.leaf.0 ≡ Some c.index_mut-seat.result.now
    = slice_get_read c.args.self.now.leaves.items (length c.args.self.now.leaves.items) c.args.leaf.0
    c.index_mut-seat.result.now refl c.requires.there c.index_mut-seat.ensures.value in
    record {
      asks = if_ok_on (λ (answer : Option CopyTold). AsksLeafIf (IsAdmitted c.args.rows.now) (newcomer c.args.number) c.args.leaf
          c.index_mut-seat.result.now c.admit.new.seat c.args.sight.now c.admit.new.sight answer) _
          (λ answer h. record {
            before = c.index_mut-seat.result.now;
            was = was;
            seat = c.admit.new.seat;
            changes = record { config = refl; words = refl; leaves = refl; ranges = refl; first = refl };
            asks = h;
          }) c.admit.result c.admit.ensures.asks;
    }
