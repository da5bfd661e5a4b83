use Rattle.std.proofs.Common.{◌≤◌, ℕ, List, Option, IfSome, sym, subst}
use Rattle.mon_value.specs.Rooms.{RoomList}
use Rattle.mon_series.proofs.FirstLemmas.{get_there}
use Rattle.mon_series.proofs.MetricLemmas.{set_there}
use Rattle.mon_series.proofs.metrics.more_room.Goals as goal

pub returns-clause-room : goal.returns-clause-room
returns-clause-room c =
    let index = c.args.index.now.entries in
    let before = c.in-Some.numbers.now in
    let there = get_there index c.args.at before c.in-Some.ensures.value in
    subst (λ (o : Option (List ℕ × RoomList ℕ)). IfSome o (λ entry. 1 ≤ entry.1.spare))
    (sym (set_there index c.args.at there.0 before c.reserve_one.new.self there.1)) c.in_ok-reserve_one.ensures.room
