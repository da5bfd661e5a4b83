use Rattle.std.proofs.Common.{◌≡◌, List, false, sym, ap, subst, ◌∙◌, rules}
use Rattle.history_book.specs.Seats.{Owner, guest_purse, hand_of}
use Rattle.mon_topo.specs.HeldHistories.{openings_from, IsHeldBy}
use Rattle.mon_topo.specs.Replicas.{HasReplicas}
use Rattle.mon_topo.specs.Zones.{first_replicas}
use Rattle.mon_value.specs.Histories.{range_history}
use Rattle.mon_value.specs.declared.positions.Leaf.{Leaf}
use Rattle.mon_value.specs.declared.positions.Range.{Range}
use Rattle.range_cell.proofs.NewRangeLemmas.{borne_then, has_opened_first, opened_owner, rests_opened}
use Rattle.range_cell.specs.Calls.{parted_owner}
use Rattle.range_cell.specs.NewRanges.{after_entries}
use Rattle.range_cell.proofs.desks.RangeDesk.open_first.Goals as goal

pub append_openings-requires : goal.append_openings-requires
append_openings-requires g c =
    let leaves = g.N.BookName.book.leaves in
    let zones = g.N.Names.setting.zones in
    let know = c.args.know.now in
    let owner = c.args.self.now.owner in
    let now = c.receive.new.self.owner in
    let came = c.receive.ensures.came in
    let first : c.as_slice-2.result.now ≡ first_replicas zones owner.range.0 =
    c.as_slice-2.ensures.items ∙ c.requires.first in
    record {
      first = first ∙ ap (λ (r : Range). first_replicas zones r.0) (sym came.range);
      replicas = subst (HasReplicas zones) (sym came.range) c.requires.replicas;
      here = c.receive.ensures.of_range.here;
      own = c.receive.ensures.of_range.history;
      none = (λ i. range_history (came.book i).seen (came.range i)) ∙ came.whole ∙ c.requires.held.history
          ∙ c.requires.none;
      number = ap (λ (o : Owner). (hand_of (guest_purse o.guest)).own) came.book ∙ c.requires.number;
      sound = c.receive.ensures.sound;
      borne_out = subst (λ (l : List Leaf). IsHeldBy now.book.seen now.range (openings_from 0 l)) (sym first)
          (borne_then leaves know owner now c.requires.held.own came
          (openings_from 0 (first_replicas zones owner.range.0)) c.requires.borne_out);
    }

pub returns-clause-rest : goal.returns-clause-rest
returns-clause-rest g c =
    let leaves = g.N.BookName.book.leaves in
    let zones = g.N.Names.setting.zones in
    let know = c.args.know.now in
    let desk = c.args.self.now in
    let now = c.receive.new.self.owner in
    let came = c.receive.ensures.came in
    let es = openings_from 0 (first_replicas zones desk.owner.range.0) in
    let first : c.as_slice-2.result.now ≡ first_replicas zones desk.owner.range.0 =
    c.as_slice-2.ensures.items ∙ c.requires.first in
    let then_owner : c.append_openings.new.self.owner
    ≡ opened_owner leaves know desk.owner now c.requires.held.own came es now =
    λ i. record {
      range = c.append_openings.ensures.range i;
      hints = c.append_openings.ensures.hints i;
      book = (c.append_openings.ensures.book
          ∙ (λ k. after_entries (came.range k) (openings_from 0 (first k)) now.book)) i;
    } in
    let parts : c.part.new.self ≡ parted_owner false c.append_openings.new.self.owner =
    λ i. record { range = c.part.ensures.range i; hints = c.part.ensures.hints i; book = c.part.ensures.book i } in
    rests_opened leaves know desk.owner now c.requires.held.own came es desk.replay c.requires.held c.requires.none
    c.requires.holds c.append_openings.new.self.replay (search rules) c.requires.opened c.part.new.self
    (parts ∙ ap (parted_owner false) then_owner)

pub returns-clause-opened : goal.returns-clause-opened
returns-clause-opened g c =
    let leaves = g.N.BookName.book.leaves in
    let zones = g.N.Names.setting.zones in
    let know = c.args.know.now in
    let desk = c.args.self.now in
    let now = c.receive.new.self.owner in
    let came = c.receive.ensures.came in
    let es = openings_from 0 (first_replicas zones desk.owner.range.0) in
    let first : c.as_slice-2.result.now ≡ first_replicas zones desk.owner.range.0 =
    c.as_slice-2.ensures.items ∙ c.requires.first in
    has_opened_first leaves know desk.owner now c.requires.held.own came es desk.replay c.requires.held c.requires.none
    c.requires.holds c.append_openings.new.self.owner.hints c.append_openings.new.self.owner.book c.receive.new.know
    c.part.new.know
    (c.append_openings.ensures.book ∙ (λ k. after_entries (came.range k) (openings_from 0 (first k)) now.book))
    c.receive.ensures.left c.part.ensures.know
