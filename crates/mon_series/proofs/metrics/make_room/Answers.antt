use Rattle.std.proofs.Common.{◌∙◌, sym, ap, subst}
use Rattle.mon_value.specs.Same.{same_text}
use Rattle.mon_series.specs.within.Metrics.{Index, IsPlace, numbers_held}
use Rattle.mon_series.proofs.FirstLemmas.{first_position}
use Rattle.mon_series.proofs.MetricLemmas.{place_first, place_kept, room_found, same_set}
use Rattle.mon_series.proofs.metrics.make_room.Goals as goal

pub returns-in-Some-clause-numbers : goal.returns-in-Some-clause-numbers
returns-in-Some-clause-numbers c =
    let more = c.more_room.ensures.more in
    λ metric. ap (λ (index : Index). numbers_held index metric) more.1 ∙ same_set c.args.index.now.entries c.in-Some.at
    more.0 more.2 metric

pub returns-in-Some-clause-room : goal.returns-in-Some-clause-room
returns-in-Some-clause-room c =
    let index = c.args.index.now.entries in
    let metric = c.args.metric.now in
    let at = c.in-Some.at in
    let more = c.more_room.ensures.more in
    let place = place_first metric index at (first_position (same_text metric) index at
    (sym c.in-Some.ensures.index)) in
    room_found metric c.more_room.new.index.entries at c.more_room.result
    (subst (λ (es : Index). IsPlace metric es at) (sym more.1) (place_kept metric index at at more.0 place))
    c.more_room.ensures.place c.more_room.ensures.room
