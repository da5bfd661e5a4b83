use Rattle.std.proofs.Common.{◌≡◌, false, sym, subst, ◌∙◌}
use Rattle.range_cell.proofs.MeetingLemmas.{met_so, rests_back, whole_so}
use Rattle.range_cell.specs.Calls.{parted_owner}
use Rattle.range_cell.specs.Rest.{IsRangeAtRest}
use Rattle.write_core.specs.Replays.{Replay}
use Rattle.range_cell.proofs.desks.RangeDesk.give_back.Goals as goal

pub returns : goal.returns
returns g c =
    let leaves = g.N.BookName.book.leaves in
    let know = c.args.know.now in
    let desk = c.args.self.now in
    let now = c.receive.new.self.owner in
    let came = c.receive.ensures.came in
    let gone : c.part.new.self ≡ parted_owner false now =
    λ i. record { range = c.part.ensures.range i; hints = c.part.ensures.hints i; book = c.part.ensures.book i } in
    record {
      rest = subst (λ (r : Replay). IsRangeAtRest desk.owner.range.0 r c.part.new.self) (sym c.receive.ensures.replay)
          (rests_back leaves know desk.owner now c.requires.held.own came desk.replay c.requires.held c.requires.holds
          c.requires.turns c.part.new.self gone);
      met = met_so leaves know desk.owner now c.requires.held.own came false c.receive.new.know c.part.new.know
          c.receive.ensures.left c.part.ensures.know;
      whole = whole_so leaves know desk.owner now c.requires.held.own came false c.receive.new.know c.part.new.know
          c.receive.ensures.left c.part.ensures.know ∙ c.requires.held.history;
    }
