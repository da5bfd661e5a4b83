use Rattle.std.proofs.Common.{◌≡◌, List, true, sym, ap, subst, ◌∙◌}
use Rattle.history_book.specs.Seats.{HoldsOwn, Owner}
use Rattle.know.specs.Knowledge.{Knowledge}
use Rattle.mon_value.specs.declared.histories.RangeEntry.{RangeEntry}
use Rattle.range_cell.proofs.MeetingLemmas.{has_begun, rests_held, seen_so}
use Rattle.range_cell.proofs.RestLemmas.{more_held}
use Rattle.range_cell.specs.Calls.{HasBegun, parted_owner}
use Rattle.range_cell.specs.Rest.{IsRangeHeld}
use Rattle.write_core.specs.Replays.{Replay}
use Rattle.range_cell.proofs.desks.RangeDesk.lend.Goals as goal

pub part-requires : goal.part-requires
part-requires g c =
    let owner = c.args.self.now.owner in
    record {
      hold = λ yes. subst HoldsOwn (sym c.receive.ensures.came.book) (
        owner.range,
        c.requires.rest.own,
        more_held owner.range owner.book.held c.args.know.now.purse.holds c.requires.rest.holds,
      );
    }

pub returns : goal.returns
returns g c =
    let leaves = g.N.BookName.book.leaves in
    let know = c.args.know.now in
    let desk = c.args.self.now in
    let now = c.receive.new.self.owner in
    let came = c.receive.ensures.came in
    let back : c.part.new.self ≡ parted_owner true now =
    λ i. record { range = c.part.ensures.range i; hints = c.part.ensures.hints i; book = c.part.ensures.book i } in
    record {
      held = subst (λ (r : Replay). IsRangeHeld desk.owner.range.0 r c.part.new.self) (sym c.receive.ensures.replay)
          (rests_held leaves know desk.owner now c.requires.rest.own came desk.replay c.requires.rest c.part.new.self
          back);
      none = ap (λ (r : Replay). r.history) c.receive.ensures.replay ∙ c.requires.none;
      lent = record {
        same_range = c.part.ensures.range ∙ came.range;
        begun = subst (λ (h : List RangeEntry). HasBegun leaves desk.owner.range h know c.part.new.know) c.requires.none
            (has_begun leaves know desk.owner now c.requires.rest.own came desk.replay c.requires.rest
            c.receive.new.know c.part.new.know c.receive.ensures.left c.part.ensures.know);
        seen = seen_so leaves know desk.owner now c.requires.rest.own came true c.receive.new.know c.part.new.know
            c.receive.ensures.left c.part.ensures.know;
        both = ap (λ (o : Owner). o.seen) c.part.ensures.book
            ∙ sym (ap (λ (k : Knowledge). k.seen) c.part.ensures.know);
      };
      sound = c.part.ensures.sound;
    }
