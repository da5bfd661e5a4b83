use Rattle.std.proofs.Common.{◌≡◌, ℕ, false, Some, List, [], ◌∷◌, ◌++◌, refl, sym, ap, subst, ◌∙◌}
use Rattle.std.specs.Prelude.{Contains, map}
use Rattle.history_book.specs.Seats.{Owner, after_append, guest_purse, hand_of}
use Rattle.history_book.specs.declared.views.BookEntry.TheVariants as one
use Rattle.mon_topo.proofs.FrontLemmas.{begins_from}
use Rattle.mon_topo.specs.RangeHistories.{IsLegal, serving}
use Rattle.mon_value.specs.Histories.{joined_histories, range_history}
use Rattle.mon_value.specs.declared.histories.RangeEntry.{RangeEntry}
use Rattle.mon_value.specs.declared.histories.RangeEntry.TheVariants as entry
use Rattle.mon_value.specs.declared.positions.SlotLeaf.{SlotLeaf}
use Rattle.owners.specs.Owners.{RangeView}
use Rattle.owners.specs.Puts.{pass_of}
use Rattle.range_cell.proofs.MeetingLemmas.{has_entered, if_rests, legal_then, rests_so, sound_with, turns_kept, whole_so}
use Rattle.range_cell.proofs.RetiringLemmas.{retired_held, retired_just, slot_serves}
use Rattle.range_cell.specs.Calls.{HasEntered, parted_owner}
use Rattle.range_cell.specs.Rest.{IsRangeAtRest, others}
use Rattle.write_core.specs.Replays.{Replay}
use Rattle.write_core.specs.Retirements.{retirement_of}
use Rattle.write_core.specs.declared.retirements.Retirement.TheVariants as told
use Rattle.range_cell.proofs.desks.RangeDesk.retire.Goals as goal

pub enter_retirement-requires : goal.enter_retirement-requires
enter_retirement-requires g c =
    let setting = g.N.Names.setting in
    let leaves = g.N.BookName.book.leaves in
    let know = c.args.know.now in
    let desk = c.args.self.now in
    let own = desk.owner.range in
    let history = desk.replay.history in
    let now = c.receive.new.self.owner in
    let came = c.receive.ensures.came in
    let number : Some c.in-Some.pass ≡ (hand_of know.purse).own = c.in-Some.ensures.number in
    let e : RangeEntry = entry.Retired c.in-Some.pass c.in-WasRetired.slot in
    let told_so : retirement_of history c.args.leaf ≡ told.WasRetired c.in-WasRetired.slot =
    ap (λ (r : Replay). retirement_of r.history c.args.leaf) (sym c.receive.ensures.replay)
    ∙ sym c.in-WasRetired.ensures.told in
    let legal : IsLegal setting.held setting.zones setting.points own history =
    legal_then leaves know desk.owner now c.requires.rest.own came setting history c.requires.rest.history
    c.receive.ensures.sound c.receive.ensures.of_range in
    record {
      named = refl;
      serves = subst (λ (r : Replay). Contains (map (λ (replica : SlotLeaf). replica.slot) (serving r.history))
          c.in-WasRetired.slot) (sym c.receive.ensures.replay)
          (slot_serves setting own history legal c.args.leaf c.in-Some.pass c.in-WasRetired.slot told_so);
      history = (λ i. range_history (came.book i).seen (came.range i)) ∙ came.whole ∙ c.requires.rest.history
          ∙ ap (λ (r : Replay). r.history) (sym c.receive.ensures.replay);
      number = ap (λ (o : Owner). (hand_of (guest_purse o.guest)).own) came.book ∙ sym number;
      sound = sound_with leaves know desk.owner now c.requires.rest.own came setting history e
          (λ seen fronts whole here held. retired_held setting own history legal c.args.leaf c.in-Some.pass
          c.in-WasRetired.slot told_so seen whole here held)
          c.requires.rest.history c.receive.ensures.sound c.receive.ensures.of_range;
    }

pub returns-in-WasRetired-clause-rest : goal.returns-in-WasRetired-clause-rest
returns-in-WasRetired-clause-rest g c =
    let setting = g.N.Names.setting in
    let leaves = g.N.BookName.book.leaves in
    let know = c.args.know.now in
    let desk = c.args.self.now in
    let own = desk.owner.range in
    let history = desk.replay.history in
    let now = c.receive.new.self.owner in
    let came = c.receive.ensures.came in
    let number : Some c.in-Some.pass ≡ (hand_of know.purse).own = c.in-Some.ensures.number in
    let e : RangeEntry = entry.Retired c.in-Some.pass c.in-WasRetired.slot in
    let told_so : retirement_of history c.args.leaf ≡ told.WasRetired c.in-WasRetired.slot =
    ap (λ (r : Replay). retirement_of r.history c.args.leaf) (sym c.receive.ensures.replay)
    ∙ sym c.in-WasRetired.ensures.told in
    let legal : IsLegal setting.held setting.zones setting.points own history =
    legal_then leaves know desk.owner now c.requires.rest.own came setting history c.requires.rest.history
    c.receive.ensures.sound c.receive.ensures.of_range in
    let entered : RangeView =
    record { range = now.range; hints = now.hints; book = after_append (one.Range e) now.book } in
    let then_owner : c.enter_retirement.new.self.owner ≡ entered =
    λ i. record {
      range = c.enter_retirement.ensures.range i;
      hints = c.enter_retirement.ensures.hints i;
      book = c.enter_retirement.ensures.book i;
    } in
    let parts : c.part.new.self ≡ parted_owner false c.enter_retirement.new.self.owner =
    λ i. record { range = c.part.ensures.range i; hints = c.part.ensures.hints i; book = c.part.ensures.book i } in
    rests_so leaves know desk.owner now c.requires.rest.own came desk.replay c.requires.rest e
    (retired_just setting own history legal c.args.leaf c.in-Some.pass c.in-WasRetired.slot told_so
    (joined_histories desk.owner.book.seen know.seen)
    (turns_kept leaves know desk.owner now c.requires.rest.own came desk.replay c.requires.rest))
    c.enter_retirement.new.self.replay
    (c.enter_retirement.ensures.history ∙ ap (λ (r : Replay). r.history ++ e ∷ []) c.receive.ensures.replay)
    c.part.new.self (parts ∙ ap (parted_owner false) then_owner)

pub returns-in-WasRetired-clause-retired : goal.returns-in-WasRetired-clause-retired
returns-in-WasRetired-clause-retired g c =
    let setting = g.N.Names.setting in
    let leaves = g.N.BookName.book.leaves in
    let know = c.args.know.now in
    let desk = c.args.self.now in
    let own = desk.owner.range in
    let history = desk.replay.history in
    let now = c.receive.new.self.owner in
    let came = c.receive.ensures.came in
    let number : Some c.in-Some.pass ≡ (hand_of know.purse).own = c.in-Some.ensures.number in
    let e : RangeEntry = entry.Retired c.in-Some.pass c.in-WasRetired.slot in
    let told_so : retirement_of history c.args.leaf ≡ told.WasRetired c.in-WasRetired.slot =
    ap (λ (r : Replay). retirement_of r.history c.args.leaf) (sym c.receive.ensures.replay)
    ∙ sym c.in-WasRetired.ensures.told in
    let legal : IsLegal setting.held setting.zones setting.points own history =
    legal_then leaves know desk.owner now c.requires.rest.own came setting history c.requires.rest.history
    c.receive.ensures.sound c.receive.ensures.of_range in
    let mine = c.requires.number in
    let same : c.in-Some.pass ≡ pass_of know = cc in
    let came_to : HasEntered leaves own history (entry.Retired (pass_of know) c.in-WasRetired.slot) know c.part.new.know =
    subst (λ (n : ℕ). HasEntered leaves own history (entry.Retired n c.in-WasRetired.slot) know c.part.new.know) same
    (has_entered leaves know desk.owner now c.requires.rest.own came desk.replay c.requires.rest.history e
    c.enter_retirement.new.self.owner.hints c.enter_retirement.new.self.owner.book c.receive.new.know c.part.new.know
    c.enter_retirement.ensures.book c.receive.ensures.left c.part.ensures.know) in
    record {
      history = history;
      front = begins_from history (range_history know.seen own) (came.fronts.1 own).0
          (sym (came.whole ∙ c.requires.rest.history) ∙ sym (came.fronts.1 own).1);
      told_so = told_so;
      entered = came_to;
      holding = came_to.holding ∙ ap (others own) c.requires.none ∙ sym c.requires.none;
    }

pub returns-in-NotServing-clause-rest : goal.returns-in-NotServing-clause-rest
returns-in-NotServing-clause-rest g c =
    let desk = c.args.self.now in
    let now = c.receive.new.self.owner in
    let part = c.part-in-NotServing in
    let gone : part.new.self ≡ parted_owner false now =
    λ i. record { range = part.ensures.range i; hints = part.ensures.hints i; book = part.ensures.book i } in
    subst (λ (r : Replay). IsRangeAtRest desk.owner.range.0 r part.new.self) (sym c.receive.ensures.replay)
    (if_rests g.N.BookName.book.leaves c.args.know.now desk.owner now c.requires.rest.own c.receive.ensures.came
    desk.replay c.requires.rest c.requires.none false part.new.self gone c.receive.new.know part.new.know
    c.receive.ensures.left part.ensures.know refl).1

pub returns-in-NotServing-clause-retired : goal.returns-in-NotServing-clause-retired
returns-in-NotServing-clause-retired g c =
    let leaves = g.N.BookName.book.leaves in
    let know = c.args.know.now in
    let desk = c.args.self.now in
    let now = c.receive.new.self.owner in
    let came = c.receive.ensures.came in
    let part = c.part-in-NotServing in
    let gone : part.new.self ≡ parted_owner false now =
    λ i. record { range = part.ensures.range i; hints = part.ensures.hints i; book = part.ensures.book i } in
    record {
      met = (if_rests leaves know desk.owner now c.requires.rest.own came desk.replay c.requires.rest c.requires.none false
          part.new.self gone c.receive.new.know part.new.know c.receive.ensures.left part.ensures.know refl).0;
      why = ap (λ (h : List RangeEntry). retirement_of h c.args.leaf)
          (whole_so leaves know desk.owner now c.requires.rest.own came false c.receive.new.know part.new.know
          c.receive.ensures.left part.ensures.know ∙ c.requires.rest.history
          ∙ ap (λ (r : Replay). r.history) (sym c.receive.ensures.replay))
          ∙ sym c.in-NotServing.ensures.told;
    }

pub returns-in-LastServing-clause-rest : goal.returns-in-LastServing-clause-rest
returns-in-LastServing-clause-rest g c =
    let desk = c.args.self.now in
    let now = c.receive.new.self.owner in
    let part = c.part-in-LastServing in
    let gone : part.new.self ≡ parted_owner false now =
    λ i. record { range = part.ensures.range i; hints = part.ensures.hints i; book = part.ensures.book i } in
    subst (λ (r : Replay). IsRangeAtRest desk.owner.range.0 r part.new.self) (sym c.receive.ensures.replay)
    (if_rests g.N.BookName.book.leaves c.args.know.now desk.owner now c.requires.rest.own c.receive.ensures.came
    desk.replay c.requires.rest c.requires.none false part.new.self gone c.receive.new.know part.new.know
    c.receive.ensures.left part.ensures.know refl).1

pub returns-in-LastServing-clause-retired : goal.returns-in-LastServing-clause-retired
returns-in-LastServing-clause-retired g c =
    let leaves = g.N.BookName.book.leaves in
    let know = c.args.know.now in
    let desk = c.args.self.now in
    let now = c.receive.new.self.owner in
    let came = c.receive.ensures.came in
    let part = c.part-in-LastServing in
    let gone : part.new.self ≡ parted_owner false now =
    λ i. record { range = part.ensures.range i; hints = part.ensures.hints i; book = part.ensures.book i } in
    record {
      met = (if_rests leaves know desk.owner now c.requires.rest.own came desk.replay c.requires.rest c.requires.none false
          part.new.self gone c.receive.new.know part.new.know c.receive.ensures.left part.ensures.know refl).0;
      why = ap (λ (h : List RangeEntry). retirement_of h c.args.leaf)
          (whole_so leaves know desk.owner now c.requires.rest.own came false c.receive.new.know part.new.know
          c.receive.ensures.left part.ensures.know ∙ c.requires.rest.history
          ∙ ap (λ (r : Replay). r.history) (sym c.receive.ensures.replay))
          ∙ sym c.in-LastServing.ensures.told;
    }
