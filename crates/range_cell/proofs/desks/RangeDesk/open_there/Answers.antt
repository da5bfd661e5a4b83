use Rattle.std.proofs.Common.{◌≡◌, ◌<◌, ℕ, List, Some, [], ◌∷◌, sym, ap, subst, ◌∙◌}
use Rattle.history_book.specs.Seats.{times_range}
use Rattle.know.specs.declared.answers.Found.{Found}
use Rattle.mon_topo.specs.RangeHistories.{left_rows}
use Rattle.mon_value.specs.declared.histories.Entry.TheVariants as entry
use Rattle.mon_value.specs.declared.histories.RangeEntry.TheVariants as range_entry
use Rattle.mon_value.specs.declared.positions.Range.{Range}
use Rattle.mon_value.specs.declared.positions.Slot.{Slot}
use Rattle.mon_value.specs.declared.rows.Row.{Row}
use Rattle.owners.specs.Calls.{HasFoundUp}
use Rattle.owners.specs.Openings.{HasOpened, MayOpen}
use Rattle.owners.specs.Puts.{pass_of}
use Rattle.range_cell.proofs.LookingLemmas.{same_just, same_entries}
use Rattle.range_cell.proofs.ReplicaLemmas.{is_free, may_open, may_tell, pass_then, same_number, still_holds}
use Rattle.range_cell.specs.Calls.{HasEntered, HasGivenBack, MayEnter}
use Rattle.range_cell.specs.Rest.{HaveJust}
use Rattle.write_core.specs.CopySteps.{next_slot}
use Rattle.range_cell.proofs.desks.RangeDesk.open_there.Goals as goal

pub next_slot-slot-requires : goal.next_slot-slot-requires
next_slot-slot-requires g c = record {
  free = (is_free c.args.self.now.replay.history c.args.leaf c.requires.holding.free).left;
}

pub opened-requires : goal.opened-requires
opened-requires g c =
    let history = c.args.self.now.replay.history in
    record {
      may = subst (λ (slot : Slot). MayOpen g.N.Names.setting c.args.know.now c.args.leaf c.args.range slot c.args.rows)
          (sym c.next_slot-slot.ensures.slot)
          (may_open g.N.Names.setting c.args.range c.args.leaf history c.args.know.now c.requires.holding c.args.rows
          c.requires.rows c.requires.some);
    }

pub open-requires : goal.open-requires
open-requires g c =
    let setting = g.N.Names.setting in
    let know = c.args.know.now in
    let then = c.opened.new.know in
    let range = c.args.range in
    let leaf = c.args.leaf in
    let history = c.args.self.now.replay.history in
    let slot = c.next_slot-slot.result in
    let holding = c.requires.holding in
    let told = subst (λ (f : Found). HasOpened leaf (entry.Opened (pass_of know) range slot c.args.rows) f know then)
    c.in-Ok-Up.field-0-is c.in-Ok-Up.ensures.opened in
    let up : HasFoundUp leaf (entry.Opened (pass_of know) range (next_slot history) (left_rows history) ∷ [])
    know.purse.rooms know then =
    subst (λ (s : Slot). HasFoundUp leaf (entry.Opened (pass_of know) range s (left_rows history) ∷ [])
    know.purse.rooms know then) c.next_slot-slot.ensures.slot
    (subst (λ (rows : List Row). HasFoundUp leaf (entry.Opened (pass_of know) range slot rows ∷ [])
    know.purse.rooms know then) c.requires.rows told) in
    let pass_is : pass_of then ≡ pass_of know = pass_then setting range leaf history know holding up.history then
    up.called in
    record {
      held = c.requires.held;
      holds = subst (λ (r : Range). 0 < times_range r then.purse.holds) c.requires.range
          (still_holds setting range leaf history know holding up.history then up.called);
      room = c.requires.room;
      number = same_number setting range leaf history know holding up.history then up.called
          ∙ ap (λ (n : ℕ). Some n) (sym pass_is);
      may = subst (λ (r : Range). MayEnter setting r history (range_entry.Opened (pass_of then) slot leaf) then)
          c.requires.range
          (subst (λ (n : ℕ). MayEnter setting range history (range_entry.Opened n slot leaf) then) (sym pass_is)
          (subst (λ (s : Slot). MayEnter setting range history (range_entry.Opened (pass_of know) s leaf) then)
          (sym c.next_slot-slot.ensures.slot)
          (may_tell setting range leaf history know holding up.history then up.called)));
    }

pub returns-in-Ok-Up-clause-ended : goal.returns-in-Ok-Up-clause-ended
returns-in-Ok-Up-clause-ended g c =
    let setting = g.N.Names.setting in
    let leaves = g.N.BookName.book.leaves in
    let know = c.args.know.now in
    let then = c.opened.new.know in
    let range = c.args.range in
    let leaf = c.args.leaf in
    let history = c.args.self.now.replay.history in
    let slot = c.next_slot-slot.result in
    let told = subst (λ (f : Found). HasOpened leaf (entry.Opened (pass_of know) range slot c.args.rows) f know then)
    c.in-Ok-Up.field-0-is c.in-Ok-Up.ensures.opened in
    let here : HasFoundUp leaf (entry.Opened (pass_of know) range slot (left_rows history) ∷ [])
    know.purse.rooms know then =
    subst (λ (rows : List Row). HasFoundUp leaf (entry.Opened (pass_of know) range slot rows ∷ [])
    know.purse.rooms know then) c.requires.rows told in
    let up = subst (λ (s : Slot). HasFoundUp leaf
    (entry.Opened (pass_of know) range s (left_rows history) ∷ []) know.purse.rooms know then)
    c.next_slot-slot.ensures.slot here in
    let pass_is : pass_of then ≡ pass_of know = pass_then setting range leaf history know c.requires.holding up.history
    then up.called in
    record {
      slot_is = c.next_slot-slot.ensures.slot;
      opened = then;
      at_leaf = here;
      entered = subst (λ (n : ℕ). HasEntered leaves range history (range_entry.Opened n slot leaf) then
          c.open.new.know) pass_is
          (subst (λ (r : Range). HasEntered leaves r history (range_entry.Opened (pass_of then) slot leaf) then
          c.open.new.know) (sym c.requires.range) c.open.ensures.entered);
    }

pub give_back-requires : goal.give_back-requires
give_back-requires g c =
    let know = c.args.know.now in
    let then = c.opened.new.know in
    let range = c.args.range in
    let leaf = c.args.leaf in
    let history = c.args.self.now.replay.history in
    let down = subst (λ (f : Found). HasOpened leaf
    (entry.Opened (pass_of know) range c.next_slot-slot.result c.args.rows) f know then)
    c.in-Ok-Down.field-0-is c.in-Ok-Down.ensures.opened in
    record {
      held = c.requires.held;
      holds = subst (λ (r : Range). 0 < times_range r then.purse.holds) c.requires.range
          (subst (λ (xs : List Range). 0 < times_range range xs) (sym down.called.holds) c.requires.holding.held);
      turns = subst (λ (r : Range). HaveJust then.seen r history) c.requires.range
          (same_just range history know then
          (same_entries leaf down.history know then down.called range c.requires.holding.held)
          c.requires.holding.just);
    }

pub returns-in-Ok-Down-clause-ended : goal.returns-in-Ok-Down-clause-ended
returns-in-Ok-Down-clause-ended g c =
    let leaves = g.N.BookName.book.leaves in
    let know = c.args.know.now in
    let then = c.opened.new.know in
    record {
      then = then;
      at_leaf = subst (λ (f : Found). HasOpened c.args.leaf
          (entry.Opened (pass_of know) c.args.range c.next_slot-slot.result c.args.rows) f know then)
          c.in-Ok-Down.field-0-is c.in-Ok-Down.ensures.opened;
      back = subst (λ (r : Range). HasGivenBack leaves r c.args.self.now.replay.history then c.give_back.new.know)
          (sym c.requires.range)
          (record { met = c.give_back.ensures.met; whole = c.give_back.ensures.whole });
    }

pub give_back-requires-in-Err : goal.give_back-requires-in-Err
give_back-requires-in-Err g c =
    let know = c.args.know.now in
    let then = c.opened.new.know in
    let range = c.args.range in
    let leaf = c.args.leaf in
    let history = c.args.self.now.replay.history in
    let looked = c.in-Err.ensures.refused in
    record {
      held = c.requires.held;
      holds = subst (λ (r : Range). 0 < times_range r then.purse.holds) c.requires.range
          (subst (λ (xs : List Range). 0 < times_range range xs) (sym looked.called.holds) c.requires.holding.held);
      turns = subst (λ (r : Range). HaveJust then.seen r history) c.requires.range
          (same_just range history know then
          (same_entries leaf looked.history know then looked.called range c.requires.holding.held)
          c.requires.holding.just);
    }

pub returns-in-Err-clause-ended : goal.returns-in-Err-clause-ended
returns-in-Err-clause-ended g c =
    let leaves = g.N.BookName.book.leaves in
    let then = c.opened.new.know in
    record {
      then = then;
      at_leaf = c.in-Err.ensures.refused;
      back = subst (λ (r : Range). HasGivenBack leaves r c.args.self.now.replay.history then c.give_back-in-Err.new.know)
          (sym c.requires.range)
          (record { met = c.give_back-in-Err.ensures.met; whole = c.give_back-in-Err.ensures.whole });
    }
