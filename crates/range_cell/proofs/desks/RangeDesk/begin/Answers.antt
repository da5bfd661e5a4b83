use Rattle.std.proofs.Common.{◌≡◌, ◌<◌, IfOk, length, sym, ap, subst, ◌∙◌}
use Rattle.history_book.specs.Seats.{HoldsOwn}
use Rattle.mon_topo.specs.Zones.{ranges_in}
use Rattle.mon_value.specs.declared.positions.Range.{Range}
use Rattle.range_cell.proofs.MeetingLemmas.{answered_so, if_held, if_rests, refused_so, rest_as, whole_so}
use Rattle.range_cell.proofs.RestLemmas.{more_held}
use Rattle.range_cell.specs.Calls.{parted_owner}
use Rattle.write_core.specs.RangeAnswers.{lock_answer}
use Rattle.write_core.specs.Replays.{Replay}
use Rattle.range_cell.proofs.desks.RangeDesk.begin.Goals as goal

pub part-requires : goal.part-requires
part-requires g c =
    let owner = c.args.self.now.owner in
    record {
      hold = λ yes. subst HoldsOwn (sym c.receive.ensures.came.book) (
        owner.range,
        c.requires.rest.own,
        more_held owner.range owner.book.held c.args.know.now.purse.holds c.requires.rest.holds,
      );
    }

pub returns-clause-told : goal.returns-clause-told
returns-clause-told g c =
    subst (λ (r : Replay). IfOk c.asked-told.result (λ told. told ≡ lock_answer c.args.limit r.history c.args.row.now))
    c.receive.ensures.replay c.asked-told.ensures.told

pub returns-clause-answered : goal.returns-clause-answered
returns-clause-answered g c =
    let leaves = g.N.BookName.book.leaves in
    let know = c.args.know.now in
    let desk = c.args.self.now in
    let now = c.receive.new.self.owner in
    let came = c.receive.ensures.came in
    let hold = c.is_taken-hold.result in
    let asked = c.asked-told.new.replay in
    let same : asked.history ≡ desk.replay.history =
    c.asked-told.ensures.history ∙ ap (λ (r : Replay). r.history) c.receive.ensures.replay in
    let rest = rest_as desk.owner.range.0 desk.owner desk.replay asked same c.requires.rest in
    let gone : c.part.new.self ≡ parted_owner hold now =
    λ i. record { range = c.part.ensures.range i; hints = c.part.ensures.hints i; book = c.part.ensures.book i } in
    answered_so leaves desk.owner.range asked c.part.new.self know c.part.new.know c.asked-told.result hold
    c.is_taken-hold.ensures.taken
    (if_held leaves know desk.owner now c.requires.rest.own came asked rest c.requires.none hold c.part.new.self gone
    c.receive.new.know c.part.new.know c.receive.ensures.left c.part.ensures.know)
    (if_rests leaves know desk.owner now c.requires.rest.own came asked rest c.requires.none hold c.part.new.self gone
    c.receive.new.know c.part.new.know c.receive.ensures.left c.part.ensures.know)

pub returns-clause-refused : goal.returns-clause-refused
returns-clause-refused g c =
    let leaves = g.N.BookName.book.leaves in
    let know = c.args.know.now in
    let desk = c.args.self.now in
    let now = c.receive.new.self.owner in
    let hold = c.is_taken-hold.result in
    let asked = c.asked-told.new.replay in
    let same : asked.history ≡ desk.replay.history =
    c.asked-told.ensures.history ∙ ap (λ (r : Replay). r.history) c.receive.ensures.replay in
    let rest = rest_as desk.owner.range.0 desk.owner desk.replay asked same c.requires.rest in
    let gone : c.part.new.self ≡ parted_owner hold now =
    λ i. record { range = c.part.ensures.range i; hints = c.part.ensures.hints i; book = c.part.ensures.book i } in
    refused_so leaves desk.owner.range asked c.part.new.self know c.part.new.know c.asked-told.result hold
    c.is_taken-hold.ensures.taken
    (if_rests leaves know desk.owner now c.requires.rest.own c.receive.ensures.came asked rest c.requires.none hold
    c.part.new.self gone c.receive.new.know c.part.new.know c.receive.ensures.left c.part.ensures.know)

pub returns-clause-here : goal.returns-clause-here
returns-clause-here g c =
    subst (λ (r : Range). r.0 < length (ranges_in g.N.Names.setting.zones)) c.receive.ensures.came.range
    c.receive.ensures.of_range.here

pub returns-clause-whole : goal.returns-clause-whole
returns-clause-whole g c =
    let desk = c.args.self.now in
    whole_so g.N.BookName.book.leaves c.args.know.now desk.owner c.receive.new.self.owner c.requires.rest.own
    c.receive.ensures.came c.is_taken-hold.result c.receive.new.know c.part.new.know c.receive.ensures.left
    c.part.ensures.know ∙ c.requires.rest.history
