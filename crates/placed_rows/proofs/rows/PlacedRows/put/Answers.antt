use Rattle.std.proofs.Common.{◌≡◌, length, rules, sym}
use Rattle.placed_rows.specs.Placed.{places_seen}
use Rattle.placed_rows.proofs.SeriesLemmas.{place_within, put_pushed, put_written, pushed_once, room_less, seen_many, written_once}
use Rattle.placed_rows.proofs.rows.PlacedRows.put.Goals as goal

pub write-requires : goal.write-requires
write-requires c =
    place_within c.args.self.now.rows.items (places_seen c.args.self.now.places.items) c.requires.once c.args.series c.args.n
    c.args.row (seen_many c.args.self.now.places.items c.args.series c.requires.series) c.in-Some.place
    (sym c.in-Some.ensures)

pub returns-in-Some-clause-series : goal.returns-in-Some-clause-series
returns-in-Some-clause-series c =
    put_written c.args.self.now.rows.items (places_seen c.args.self.now.places.items) c.requires.once c.args.series c.args.n
    c.args.row (seen_many c.args.self.now.places.items c.args.series c.requires.series) c.in-Some.place
    c.write.new.rows.items (sym c.in-Some.ensures) c.write.ensures.written

pub returns-in-Some-clause-once : goal.returns-in-Some-clause-once
returns-in-Some-clause-once c =
    written_once c.args.self.now.rows.items (places_seen c.args.self.now.places.items) c.requires.once c.args.series c.args.n
    c.args.row (seen_many c.args.self.now.places.items c.args.series c.requires.series) c.in-Some.place
    c.write.new.rows.items c.write.ensures.written

pub returns-in-None-clause-series : goal.returns-in-None-clause-series
returns-in-None-clause-series c =
    let last : c.len-place.result ≡ length c.args.self.now.rows.items = search rules in
    put_pushed c.args.self.now.rows.items (places_seen c.args.self.now.places.items) c.requires.once c.args.series c.args.n
    c.args.row (seen_many c.args.self.now.places.items c.args.series c.requires.series) c.len-place.result
    c.push_reserved.new.self.items (places_seen c.add_place.new.places.items) last c.push_reserved.ensures.items
    c.add_place.ensures.added (sym c.in-None.ensures)

pub returns-in-None-clause-once : goal.returns-in-None-clause-once
returns-in-None-clause-once c =
    let last : c.len-place.result ≡ length c.args.self.now.rows.items = search rules in
    pushed_once c.args.self.now.rows.items (places_seen c.args.self.now.places.items) c.requires.once c.args.series c.args.n
    c.args.row (seen_many c.args.self.now.places.items c.args.series c.requires.series) c.len-place.result
    c.push_reserved.new.self.items (places_seen c.add_place.new.places.items) last c.push_reserved.ensures.items
    c.add_place.ensures.added

pub returns-in-Some-clause-room_there : goal.returns-in-Some-clause-room_there
returns-in-Some-clause-room_there c more room = room_less c.args.self.now.places.items c.args.series more room

pub returns-in-None-clause-room_there : goal.returns-in-None-clause-room_there
returns-in-None-clause-room_there c more room = c.add_place.ensures.room more room
