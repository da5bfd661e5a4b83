use Rattle.std.proofs.Common.{◌≡◌, List, Some, length, slice_get, refl, rules, subst}
use Rattle.std.proofs.lemmas.Option.{slice_get_read}
use Rattle.weave_core.proofs.RangeAnswers.{range_answers, range_seated, range_there}
use Rattle.mon_value.specs.declared.positions.Leaf.{Leaf}
use Rattle.weave_core.specs.QueryLooks.{FindsIf}
use Rattle.weave_core.specs.QuerySides.{querying_of}
use Rattle.weave_core.proofs.queries.StoreSideQuerySide.resolve.Goals as goal

pub index_mut-seat-requires : goal.index_mut-seat-requires
index_mut-seat-requires c =
    let w = c.requires.asked.somewhere in
    let here = range_there w.config w.core w.k c.args.self.now.store.now (querying_of c.args.machine.now c.args._moment)
    c.args.sight.now w.asking c.args.range c.requires.asked.asks in
    search rules

pub find-requires : goal.find-requires
find-requires c =
    let w = c.requires.asked.somewhere in
    let own = querying_of c.args.machine.now c.args._moment in
    let here = range_there w.config w.core w.k c.args.self.now.store.now own c.args.sight.now w.asking c.args.range
    c.requires.asked.asks in
    let was : slice_get c.args.self.now.store.now.ranges.items c.args.range.0 ≡ Some c.index_mut-seat.result.now
    = slice_get_read c.args.self.now.store.now.ranges.items (length c.args.self.now.store.now.ranges.items) c.args.range.0
    c.index_mut-seat.result.now refl here c.index_mut-seat.ensures.value in
    let seated = range_seated w.config w.core w.k c.args.self.now.store.now own c.args.sight.now w.asking c.args.range
    c.requires.asked.asks c.index_mut-seat.result.now was in
    record { alike = seated.0; there = seated.1 }

pub returns : goal.returns
returns c =
    let w = c.requires.asked.somewhere in
    let own = querying_of c.args.machine.now c.args._moment in
    let here = range_there w.config w.core w.k c.args.self.now.store.now own c.args.sight.now w.asking c.args.range
    c.requires.asked.asks in
    let was : slice_get c.args.self.now.store.now.ranges.items c.args.range.0 ≡ Some c.index_mut-seat.result.now
    = slice_get_read c.args.self.now.store.now.ranges.items (length c.args.self.now.store.now.ranges.items) c.args.range.0
    c.index_mut-seat.result.now refl here c.index_mut-seat.ensures.value in
    record {
      told = λ config core k asking e. range_answers config core k c.args.self.now.store.now own c.args.sight.now asking
          c.args.range e _ c.find.new.sight c.find.result (record {
            before = c.index_mut-seat.result.now;
            was = was;
            seat = c.find.new.seat;
            changes = record { config = refl; words = refl; leaves = refl; ranges = refl; first = refl };
            finds = subst (λ (avoided : List Leaf). FindsIf c.args.range avoided c.index_mut-seat.result.now
                c.find.new.seat c.args.sight.now c.find.new.sight c.find.result) c.avoided.ensures.avoided
                c.find.ensures.finds;
          });
      left = refl;
    }
