use Rattle.std.proofs.Common.{◌≡◌, ℕ, false, Some, [], ◌∷◌, ◌++◌, refl, sym, ap, subst, ◌∙◌}
use Rattle.history_book.specs.declared.views.BookEntry.TheVariants as one
use Rattle.history_book.specs.Seats.{Owner, after_append, guest_purse, hand_of}
use Rattle.mon_value.specs.Histories.{range_history}
use Rattle.mon_value.specs.declared.histories.RangeEntry.{RangeEntry}
use Rattle.mon_value.specs.declared.histories.RangeEntry.TheVariants as entry
use Rattle.owners.specs.Owners.{RangeView}
use Rattle.owners.specs.Puts.{pass_of}
use Rattle.range_cell.proofs.MeetingLemmas.{has_entered, rests_entered, sound_entered}
use Rattle.range_cell.specs.Calls.{HasEntered, MayEnter, parted_owner}
use Rattle.write_core.specs.Replays.{HasReplicaRoom, Replay}
use Rattle.range_cell.proofs.desks.RangeDesk.open.Goals as goal

pub enter_opening-requires : goal.enter_opening-requires
enter_opening-requires g c =
    let setting = g.N.Names.setting in
    let leaves = g.N.BookName.book.leaves in
    let know = c.args.know.now in
    let desk = c.args.self.now in
    let now = c.receive.new.self.owner in
    let came = c.receive.ensures.came in
    let number : Some c.in-Some.pass ≡ (hand_of know.purse).own = c.in-Some.ensures.number in
    let mine = c.requires.number in
    let same : c.in-Some.pass ≡ pass_of know = cc in
    let e : RangeEntry = entry.Opened c.in-Some.pass c.args.slot c.args.leaf in
    let may : MayEnter setting desk.owner.range desk.replay.history e know =
    subst (λ (n : ℕ). MayEnter setting desk.owner.range desk.replay.history (entry.Opened n c.args.slot c.args.leaf) know)
    (sym same) c.requires.may in
    record {
      named = refl;
      room = subst HasReplicaRoom (sym c.receive.ensures.replay) c.requires.room;
      history = (λ i. range_history (came.book i).seen (came.range i)) ∙ came.whole ∙ c.requires.held.history
          ∙ ap (λ (r : Replay). r.history) (sym c.receive.ensures.replay);
      number = ap (λ (o : Owner). (hand_of (guest_purse o.guest)).own) came.book ∙ sym number;
      sound = sound_entered leaves know desk.owner now c.requires.held.own came setting desk.replay.history e may
          c.requires.held.history c.receive.ensures.sound c.receive.ensures.of_range;
    }

pub returns : goal.returns
returns g c =
    let setting = g.N.Names.setting in
    let leaves = g.N.BookName.book.leaves in
    let know = c.args.know.now in
    let desk = c.args.self.now in
    let now = c.receive.new.self.owner in
    let came = c.receive.ensures.came in
    let number : Some c.in-Some.pass ≡ (hand_of know.purse).own = c.in-Some.ensures.number in
    let mine = c.requires.number in
    let same : c.in-Some.pass ≡ pass_of know = cc in
    let e : RangeEntry = entry.Opened c.in-Some.pass c.args.slot c.args.leaf in
    let may : MayEnter setting desk.owner.range desk.replay.history e know =
    subst (λ (n : ℕ). MayEnter setting desk.owner.range desk.replay.history (entry.Opened n c.args.slot c.args.leaf) know)
    (sym same) c.requires.may in
    let entered : RangeView =
    record { range = now.range; hints = now.hints; book = after_append (one.Range e) now.book } in
    let then_owner : c.enter_opening.new.self.owner ≡ entered =
    λ i. record { range = c.enter_opening.ensures.range i; hints = c.enter_opening.ensures.hints i; book = c.enter_opening.ensures.book i } in
    let parts : c.part.new.self ≡ parted_owner false c.enter_opening.new.self.owner =
    λ i. record { range = c.part.ensures.range i; hints = c.part.ensures.hints i; book = c.part.ensures.book i } in
    record {
      rest = rests_entered leaves know desk.owner now c.requires.held.own came desk.replay c.requires.held c.requires.holds
          e c.enter_opening.new.self.replay
          (c.enter_opening.ensures.history ∙ ap (λ (r : Replay). r.history ++ e ∷ []) c.receive.ensures.replay)
          may.turns c.part.new.self (parts ∙ ap (parted_owner false) then_owner);
      entered = subst (λ (n : ℕ). HasEntered leaves desk.owner.range desk.replay.history
          (entry.Opened n c.args.slot c.args.leaf) know c.part.new.know) same
          (has_entered leaves know desk.owner now c.requires.held.own came desk.replay c.requires.held.history e
          c.enter_opening.new.self.owner.hints c.enter_opening.new.self.owner.book c.receive.new.know c.part.new.know
          c.enter_opening.ensures.book c.receive.ensures.left c.part.ensures.know);
    }
