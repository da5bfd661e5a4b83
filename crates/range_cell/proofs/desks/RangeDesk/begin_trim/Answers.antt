use Rattle.std.proofs.Common.{◌≡◌, ◌<◌, IfOk, List, length, sym, ap, subst, ◌∙◌}
use Rattle.history_book.specs.Seats.{HoldsOwn}
use Rattle.mon_topo.specs.RangeHistories.{serving}
use Rattle.mon_topo.specs.Zones.{ranges_in}
use Rattle.mon_value.specs.declared.histories.RangeEntry.{RangeEntry}
use Rattle.mon_value.specs.declared.positions.Range.{Range}
use Rattle.mon_value.specs.declared.positions.SlotLeaf.{SlotLeaf}
use Rattle.range_cell.proofs.HoldingLemmas.{on_err, on_ok}
use Rattle.range_cell.proofs.MeetingLemmas.{if_held, if_rests, rest_as}
use Rattle.range_cell.proofs.RestLemmas.{more_held}
use Rattle.range_cell.specs.Calls.{HasBegun, parted_owner}
use Rattle.write_core.specs.Replays.{Replay}
use Rattle.range_cell.proofs.desks.RangeDesk.begin_trim.Goals as goal

pub part-requires : goal.part-requires
part-requires g c =
    let owner = c.args.self.now.owner in
    record {
      hold = λ yes. subst HoldsOwn (sym c.receive.ensures.came.book) (
        owner.range,
        c.requires.rest.own,
        more_held owner.range owner.book.held c.args.know.now.purse.holds c.requires.rest.holds,
      );
    }

pub returns-clause-serve : goal.returns-clause-serve
returns-clause-serve g c =
    subst (λ (r : Replay). IfOk c.with_ack_room-replicas.result (λ (replicas : List SlotLeaf). replicas ≡ serving r.history))
    c.receive.ensures.replay c.with_ack_room-replicas.ensures.serve

pub returns-clause-begun : goal.returns-clause-begun
returns-clause-begun g c =
    let leaves = g.N.BookName.book.leaves in
    let know = c.args.know.now in
    let desk = c.args.self.now in
    let now = c.receive.new.self.owner in
    let hold = c.is_ok-hold.result in
    let asked = c.with_ack_room-replicas.new.replay in
    let same : asked.history ≡ desk.replay.history =
    c.with_ack_room-replicas.ensures.history ∙ ap (λ (r : Replay). r.history) c.receive.ensures.replay in
    let rest = rest_as desk.owner.range.0 desk.owner desk.replay asked same c.requires.rest in
    let gone : c.part.new.self ≡ parted_owner hold now =
    λ i. record { range = c.part.ensures.range i; hints = c.part.ensures.hints i; book = c.part.ensures.book i } in
    on_ok _ c.with_ack_room-replicas.result hold c.is_ok-hold.ensures.value (λ yes'.
    let both = if_held leaves know desk.owner now c.requires.rest.own c.receive.ensures.came asked rest
    c.requires.none hold c.part.new.self gone c.receive.new.know c.part.new.know c.receive.ensures.left
    c.part.ensures.know yes' in (
      subst (λ (h : List RangeEntry). HasBegun leaves desk.owner.range h know c.part.new.know) same both.0,
      both.1,
    ))

pub returns-clause-refused : goal.returns-clause-refused
returns-clause-refused g c =
    let leaves = g.N.BookName.book.leaves in
    let know = c.args.know.now in
    let desk = c.args.self.now in
    let now = c.receive.new.self.owner in
    let hold = c.is_ok-hold.result in
    let asked = c.with_ack_room-replicas.new.replay in
    let same : asked.history ≡ desk.replay.history =
    c.with_ack_room-replicas.ensures.history ∙ ap (λ (r : Replay). r.history) c.receive.ensures.replay in
    let rest = rest_as desk.owner.range.0 desk.owner desk.replay asked same c.requires.rest in
    let gone : c.part.new.self ≡ parted_owner hold now =
    λ i. record { range = c.part.ensures.range i; hints = c.part.ensures.hints i; book = c.part.ensures.book i } in
    on_err _ c.with_ack_room-replicas.result hold c.is_ok-hold.ensures.value
    (if_rests leaves know desk.owner now c.requires.rest.own c.receive.ensures.came asked rest c.requires.none hold
    c.part.new.self gone c.receive.new.know c.part.new.know c.receive.ensures.left c.part.ensures.know)

pub returns-clause-here : goal.returns-clause-here
returns-clause-here g c =
    subst (λ (r : Range). r.0 < length (ranges_in g.N.Names.setting.zones)) c.receive.ensures.came.range
    c.receive.ensures.of_range.here
