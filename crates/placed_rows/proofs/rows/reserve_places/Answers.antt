use Rattle.placed_rows.proofs.SeriesLemmas.{room_there, seen_same}
use Rattle.placed_rows.proofs.rows.reserve_places.Goals as goal

pub returns-clause-same : goal.returns-clause-same
returns-clause-same c =
    seen_same c.args.places.now.items c.args.series c.index_mut.result.now c.reserve_own.new.at c.requires
    c.index_mut.ensures.value c.reserve_own.ensures.same

pub returns-clause-room : goal.returns-clause-room
returns-clause-room c =
    room_there c.reserve_own.result c.args.places.now.items c.args.series c.args.more c.reserve_own.new.at c.requires
    c.reserve_own.ensures.room
