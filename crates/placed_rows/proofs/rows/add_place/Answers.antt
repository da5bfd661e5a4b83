use Rattle.std.proofs.Common.{sym}
use Rattle.placed_rows.proofs.SeriesLemmas.{room_left, seen_more}
use Rattle.placed_rows.proofs.rows.add_place.Goals as goal

pub returns-clause-added : goal.returns-clause-added
returns-clause-added c =
    seen_more c.args.places.now.items c.args.series c.args.place c.index_mut.result.now c.push_place.new.at
    c.index_mut.result.now c.requires.series (sym c.index_mut.ensures.value) c.push_place.ensures.added

pub returns-clause-room : goal.returns-clause-room
returns-clause-room c more room =
    room_left c.args.places.now.items c.args.series more c.args.place c.index_mut.result.now c.push_place.new.at
    c.requires.series c.index_mut.ensures.value c.push_place.ensures.added c.push_place.ensures.room room
