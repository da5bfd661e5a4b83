use Rattle.std.proofs.Common.{◌≡◌, ◌<◌, ℕ, ℤ, Some, length, rules, to_z, of_z, w64, sym, ap, subst, ◌∙◌}
use Rattle.std.specs.Prelude.{List, option_map}
use Rattle.history_book.specs.Seats.{hand_of, times_range}
use Rattle.history_book.specs.declared.views.Kept.{Kept}
use Rattle.mon_topo.specs.RangeHistories.{IsLegal, serving}
use Rattle.mon_value.specs.Turns.{Hides}
use Rattle.mon_value.specs.declared.histories.RangeEntry.{RangeEntry}
use Rattle.mon_value.specs.declared.positions.Range.{Range}
use Rattle.mon_value.specs.declared.positions.SlotLeaf.{SlotLeaf}
use Rattle.owners.specs.Puts.{number_or, pass_of}
use Rattle.range_cell.proofs.BeginLemmas.{is_beginning}
use Rattle.range_cell.proofs.EndingLemmas.{turned_trimmed}
use Rattle.range_cell.specs.Calls.{HasBegun, HasMetRange}
use Rattle.range_cell.specs.Rest.{HaveJust, IsRangeAtRest, IsRangeHeld}
use Rattle.range_cell.specs.Stages.{IsBeginning}
use Rattle.range_cell.specs.Trims.{AtLock}
use Rattle.range_cell.specs.Writes.{HasTurned}
use Rattle.range_cell.proofs.desks.RangeDesk.trim.Goals as goal

pub carry_out-requires : goal.carry_out-requires
carry_out-requires g c =
    let setting = g.N.Names.setting in
    let leaves = g.N.BookName.book.leaves in
    let know = c.args.know.now in
    let then = c.begin_trim.new.know in
    let own = c.args.self.now.owner.range in
    let history = c.args.self.now.replay.history in
    let history_then = c.begin_trim.new.self.replay.history in
    let same : history_then ≡ history = c.begin_trim.ensures.history in
    let begun : HasBegun leaves own history know then = c.in-Ok.ensures.begun.0 in
    let here : own.0 < length then.seen.ranges =
    subst (λ (n : ℕ). own.0 < n) (sym c.begin_trim.ensures.sound.held.all_ranges) c.begin_trim.ensures.here in
    let legal : IsLegal setting.held setting.zones setting.points own history =
    subst (IsLegal setting.held setting.zones setting.points own) begun.whole
    (c.begin_trim.ensures.sound.held.legal own here) in
    let number : (hand_of then.purse).own ≡ Some (pass_of know) =
    ap (option_map (λ (kept : Kept). kept.number)) begun.met.own ∙ c.requires.number in
    let as_given : to_z w64 (of_z w64 c.args.before) ≡ c.args.before = search rules in
    let pass_is : pass_of then ≡ pass_of know = ap (number_or 0) number in
    let holds : 0 < times_range own then.purse.holds =
    subst (λ (xs : List Range). 0 < times_range own xs) (sym begun.met.holding) begun.some in
    record {
      held = subst (λ (r : Range). IsRangeHeld r.0 c.begin_trim.new.self.replay c.begin_trim.new.self.owner)
          (sym c.begin_trim.ensures.range) c.in-Ok.ensures.begun.1;
      range = c.requires.range ∙ sym c.begin_trim.ensures.range;
      room = c.in-Ok.ensures.room;
      serve = c.in-Ok.ensures.serve ∙ ap serving (sym same);
      begins = subst (λ (bound : ℤ). IsBeginning setting c.args.range (Hides bound) (pass_of then) c.in-Ok.replicas then)
          (sym as_given)
          (subst (λ (r : Range). IsBeginning setting r (Hides c.args.before) (pass_of then) c.in-Ok.replicas then)
          (sym c.requires.range)
          (subst (λ (xs : List SlotLeaf). IsBeginning setting own (Hides c.args.before) (pass_of then) xs then)
          (sym c.in-Ok.ensures.serve)
          (is_beginning setting own history then c.begin_trim.ensures.sound.held here begun.whole begun.turns
          (Hides c.args.before) (pass_of then) (number ∙ ap (λ (n : ℕ). Some n) (sym pass_is)) holds tt tt)));
      stocked = tt;
      turns = subst (λ (r : Range). HaveJust then.seen r history_then) (sym c.requires.range)
          (subst (λ (h : List RangeEntry). HaveJust then.seen own h) (sym same) begun.turns);
      legal = subst (λ (r : Range). IsLegal setting.held setting.zones setting.points r history_then)
          (sym c.requires.range)
          (subst (IsLegal setting.held setting.zones setting.points own) (sym same) legal);
      takes = tt;
    }

pub returns-in-Ok-clause-rest : goal.returns-in-Ok-clause-rest
returns-in-Ok-clause-rest g c =
    subst (λ (r : Range). IsRangeAtRest r.0 c.carry_out.new.self.replay c.carry_out.new.self.owner)
    c.begin_trim.ensures.range c.carry_out.ensures.rest

pub returns-in-Ok-clause-trimmed : goal.returns-in-Ok-clause-trimmed
returns-in-Ok-clause-trimmed g c =
    let leaves = g.N.BookName.book.leaves in
    let know = c.args.know.now in
    let then = c.begin_trim.new.know in
    let range = c.args.range in
    let history = c.args.self.now.replay.history in
    let begun : HasBegun leaves c.args.self.now.owner.range history know then = c.in-Ok.ensures.begun.0 in
    let number : (hand_of then.purse).own ≡ Some (pass_of know) =
    ap (option_map (λ (kept : Kept). kept.number)) begun.met.own ∙ c.requires.number in
    let as_given : to_z w64 (of_z w64 c.args.before) ≡ c.args.before = search rules in
    turned_trimmed leaves range c.args.before (pass_of know) know c.carry_out.new.know history then
    (subst (λ (r : Range). HasBegun leaves r history know then) (sym c.requires.range) begun) c.carry_out.result
    (subst (λ (h : List RangeEntry).
    HasTurned leaves range (Hides c.args.before) h (pass_of know) then c.carry_out.new.know c.carry_out.result)
    c.begin_trim.ensures.history
    (subst (λ (n : ℕ). HasTurned leaves range (Hides c.args.before) c.begin_trim.new.self.replay.history n then
    c.carry_out.new.know c.carry_out.result) (ap (number_or 0) number)
    (subst (λ (bound : ℤ). HasTurned leaves range (Hides bound) c.begin_trim.new.self.replay.history (pass_of then) then
    c.carry_out.new.know c.carry_out.result) as_given c.carry_out.ensures.ended)))

pub returns-in-Err-clause-rest : goal.returns-in-Err-clause-rest
returns-in-Err-clause-rest g c = c.in-Err.ensures.refused.1

pub returns-in-Err-clause-trimmed : goal.returns-in-Err-clause-trimmed
returns-in-Err-clause-trimmed g c =
    AtLock (subst (λ (r : Range). HasMetRange g.N.BookName.book.leaves r c.args.know.now.purse.holds c.args.know.now
    c.begin_trim.new.know) (sym c.requires.range) c.in-Err.ensures.refused.0)
