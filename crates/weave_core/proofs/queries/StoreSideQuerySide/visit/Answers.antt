use Rattle.std.proofs.Common.{◌≡◌, ◌≤ℤ◌, ℤ, pos, Some, length, of_z, slice_get, to_z, w64, refl, rules, subst, sym}
use Rattle.std.proofs.lemmas.Option.{slice_get_read}
use Rattle.weave_core.proofs.LeafAnswers.{leaf_answers, leaf_seated, leaf_there}
use Rattle.query_core.specs.Machine.{slots_of}
use Rattle.weave_core.specs.QueryLooks.{LooksIf}
use Rattle.weave_core.specs.QuerySides.{querying_of}
use Rattle.weave_core.proofs.queries.StoreSideQuerySide.visit.Goals as goal
use Rattle.mon_value.proofs.PlainLemmas.{if_ok_on}

pub index_mut-seat-requires : goal.index_mut-seat-requires
index_mut-seat-requires c =
    let w = c.requires.asked.somewhere in
    let here = leaf_there w.config w.core w.k c.args.self.now.store.now (querying_of c.args.machine.now c.args.moment)
    c.args.sight.now w.asking c.args.leaf c.requires.asked.asks in
    search rules

pub look-requires : goal.look-requires
look-requires c =
    let w = c.requires.asked.somewhere in
    let own = querying_of c.args.machine.now c.args.moment in
    let here = leaf_there w.config w.core w.k c.args.self.now.store.now own c.args.sight.now w.asking c.args.leaf
    c.requires.asked.asks in
    let was : slice_get c.args.self.now.store.now.leaves.items c.args.leaf.0 ≡ Some c.index_mut-seat.result.now
    = slice_get_read c.args.self.now.store.now.leaves.items (length c.args.self.now.store.now.leaves.items) c.args.leaf.0
    c.index_mut-seat.result.now refl here c.index_mut-seat.ensures.value in
    let seated = leaf_seated w.config w.core w.k c.args.self.now.store.now own c.args.sight.now w.asking c.args.leaf
    c.requires.asked.asks c.index_mut-seat.result.now was in
    let passed : to_z w64 (of_z w64 c.args.moment) ≡ c.args.moment = search rules in
    record {
      alike = seated.0;
      there = seated.1;
      listed = search rules;
      moment = subst (λ (m : ℤ). pos 0 ≤ℤ m) (sym passed) w.asking.reader.moment_lawful;
      limit = search rules;
      readable = seated.2;
    }

pub returns : goal.returns
returns c =
    let w = c.requires.asked.somewhere in
    let own = querying_of c.args.machine.now c.args.moment in
    let here = leaf_there w.config w.core w.k c.args.self.now.store.now own c.args.sight.now w.asking c.args.leaf
    c.requires.asked.asks in
    let was : slice_get c.args.self.now.store.now.leaves.items c.args.leaf.0 ≡ Some c.index_mut-seat.result.now
    = slice_get_read c.args.self.now.store.now.leaves.items (length c.args.self.now.store.now.leaves.items) c.args.leaf.0
    c.index_mut-seat.result.now refl here c.index_mut-seat.ensures.value in
    let passed : to_z w64 (of_z w64 c.args.moment) ≡ c.args.moment = search rules in
    record {
      told = if_ok_on _ _ (λ told is config core k asking e. leaf_answers config core k c.args.self.now.store.now own
          c.args.sight.now asking c.args.leaf e _ c.look.new.sight told (record {
            before = c.index_mut-seat.result.now;
            was = was;
            seat = c.look.new.seat;
            changes = record { config = refl; words = refl; leaves = refl; ranges = refl; first = refl };
            looks = subst (λ (m : ℤ). LooksIf c.args.machine.now.setting.plan m c.args.self.now.store.now.config.limit
                (slots_of c.args.machine.now.stage c.args.leaf) c.args.leaf c.index_mut-seat.result.now c.look.new.seat
                c.args.sight.now c.look.new.sight told) passed is;
          })) c.look.result c.look.ensures.looks;
      left = refl;
    }
