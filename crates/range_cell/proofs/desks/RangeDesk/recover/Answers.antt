use Rattle.std.proofs.Common.{◌≡◌, ◌<◌, ℕ, Some, List, length, sym, ap, subst, ◌∙◌}
use Rattle.std.specs.Prelude.{option_map}
use Rattle.history_book.specs.Seats.{hand_of, times_range}
use Rattle.history_book.specs.declared.views.Kept.{Kept}
use Rattle.mon_topo.proofs.FrontLemmas.{begins_from, begins_through}
use Rattle.mon_topo.specs.HeldHistories.{first_range_history, BeginsWith}
use Rattle.mon_topo.specs.RangeHistories.{IsInZoneOf, serving}
use Rattle.mon_value.specs.Histories.{range_history}
use Rattle.mon_value.specs.declared.histories.RangeEntry.{RangeEntry}
use Rattle.mon_value.specs.declared.positions.Range.{Range}
use Rattle.owners.specs.Puts.{number_or, pass_of}
use Rattle.range_cell.proofs.HoldingLemmas.{denied_so, is_holding, recovered_so}
use Rattle.range_cell.specs.Calls.{HasBegun, HasMetRange}
use Rattle.range_cell.specs.Copying.{IsHolding}
use Rattle.range_cell.specs.Recoveries.{HasEndedSo}
use Rattle.range_cell.specs.Rest.{IsRangeAtRest, IsRangeHeld}
use Rattle.range_cell.proofs.desks.RangeDesk.recover.Goals as goal

pub recover_held-requires : goal.recover_held-requires
recover_held-requires g c =
    let setting = g.N.Names.setting in
    let know = c.args.know.now in
    let then = c.begin_recovery.new.know in
    let own = c.args.self.now.owner.range in
    let history = c.args.self.now.replay.history in
    let same : c.begin_recovery.new.self.replay.history ≡ history = c.begin_recovery.ensures.history in
    let begun = c.in-Ok.ensures.begun.0 in
    let sound = c.begin_recovery.ensures.sound in
    let here : own.0 < length then.seen.ranges =
    subst (λ (n : ℕ). own.0 < n) (sym sound.held.all_ranges) c.begin_recovery.ensures.here in
    let number : (hand_of then.purse).own ≡ Some (pass_of know) =
    ap (option_map (λ (kept : Kept). kept.number)) begun.met.own ∙ c.requires.number in
    let pass_is : pass_of then ≡ pass_of know = ap (number_or 0) number in
    let holds : 0 < times_range own then.purse.holds =
    subst (λ (xs : List Range). 0 < times_range own xs) (sym begun.met.holding) begun.some in
    let first : BeginsWith (range_history know.seen own) (first_range_history setting.zones own.0) =
    subst (λ (r : Range). BeginsWith (range_history know.seen r) (first_range_history setting.zones r.0))
    c.requires.range c.requires.begun in
    let begins : BeginsWith history (first_range_history setting.zones own.0) =
    subst (λ (h : List RangeEntry). BeginsWith h (first_range_history setting.zones own.0)) begun.whole
    (begins_through (first_range_history setting.zones own.0) (range_history know.seen own)
    (range_history then.seen own) first
    (begins_from (range_history then.seen own) (range_history know.seen own) (begun.met.fronts.1 own).0
    (sym (begun.met.fronts.1 own).1))) in
    let holding : IsHolding setting own c.args.leaf history then =
    is_holding setting own c.args.leaf history then sound.held here begun.whole begun.turns
    (subst (λ (r : Range). IsInZoneOf setting.zones r c.args.leaf) c.requires.range c.requires.zoned)
    c.in-Ok.ensures.may begins (number ∙ ap (λ (n : ℕ). Some n) (sym pass_is)) holds in
    record {
      held = subst (λ (r : Range). IsRangeHeld r.0 c.begin_recovery.new.self.replay c.begin_recovery.new.self.owner)
          (sym c.begin_recovery.ensures.range) c.in-Ok.ensures.begun.1;
      range = c.requires.range ∙ sym c.begin_recovery.ensures.range;
      room = c.in-Ok.ensures.room;
      serve = c.in-Ok.ensures.serve ∙ ap serving (sym same);
      holding = subst (λ (r : Range). IsHolding setting r c.args.leaf c.begin_recovery.new.self.replay.history then)
          (sym c.requires.range)
          (subst (λ (h : List RangeEntry). IsHolding setting own c.args.leaf h then) (sym same) holding);
    }

pub returns-in-Ok-clause-rest : goal.returns-in-Ok-clause-rest
returns-in-Ok-clause-rest g c =
    subst (λ (r : Range). IsRangeAtRest r.0 c.recover_held.new.self.replay c.recover_held.new.self.owner)
    c.begin_recovery.ensures.range c.recover_held.ensures.rest

pub returns-in-Ok-clause-recovered : goal.returns-in-Ok-clause-recovered
returns-in-Ok-clause-recovered g c =
    let leaves = g.N.BookName.book.leaves in
    let know = c.args.know.now in
    let then = c.begin_recovery.new.know in
    let range = c.args.range in
    let history = c.args.self.now.replay.history in
    let begun = c.in-Ok.ensures.begun.0 in
    let number : (hand_of then.purse).own ≡ Some (pass_of know) =
    ap (option_map (λ (kept : Kept). kept.number)) begun.met.own ∙ c.requires.number in
    recovered_so leaves range c.args.leaf (pass_of know) know c.recover_held.new.know history then c.in-Ok.ensures.may
    (subst (λ (r : Range). HasBegun leaves r history know then) (sym c.requires.range) begun) c.recover_held.result
    (subst (λ (n : ℕ). HasEndedSo leaves range c.args.leaf history n then c.recover_held.new.know
    c.recover_held.result) (ap (number_or 0) number)
    (subst (λ (h : List RangeEntry). HasEndedSo leaves range c.args.leaf h (pass_of then) then
    c.recover_held.new.know c.recover_held.result) c.begin_recovery.ensures.history c.recover_held.ensures.ended))

pub returns-in-Err-clause-rest : goal.returns-in-Err-clause-rest
returns-in-Err-clause-rest g c = c.in-Err.ensures.refused.1

pub returns-in-Err-clause-recovered : goal.returns-in-Err-clause-recovered
returns-in-Err-clause-recovered g c =
    let leaves = g.N.BookName.book.leaves in
    let know = c.args.know.now in
    let then = c.begin_recovery.new.know in
    let history = c.args.self.now.replay.history in
    denied_so leaves c.args.range c.args.leaf (pass_of know) know then history
    (subst (λ (r : Range). range_history then.seen r ≡ history) (sym c.requires.range) c.begin_recovery.ensures.whole)
    (subst (λ (r : Range). HasMetRange leaves r know.purse.holds know then) (sym c.requires.range)
    c.in-Err.ensures.refused.0) c.in-Err.fault c.in-Err.ensures.denied
