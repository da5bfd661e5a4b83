use Rattle.std.proofs.Common.{◌≡◌, ◌<◌, ℕ, Some, List, length, rules, sym, ap, subst, ◌∙◌}
use Rattle.std.specs.Prelude.{option_map}
use Rattle.history_book.specs.Seats.{hand_of, times_range}
use Rattle.history_book.specs.declared.views.Kept.{Kept}
use Rattle.mon_topo.specs.HeldHistories.{IsAtHome}
use Rattle.range_cell.specs.Rest.{HaveJust, IsRangeAtRest, IsRangeHeld}
use Rattle.mon_topo.specs.RangeHistories.{IsLegal}
use Rattle.mon_value.specs.Histories.{range_history}
use Rattle.mon_value.specs.Turns.{Adds}
use Rattle.mon_value.specs.declared.histories.RangeEntry.{RangeEntry}
use Rattle.mon_value.specs.declared.positions.Range.{Range}
use Rattle.mon_value.specs.declared.positions.SlotLeaf.{SlotLeaf}
use Rattle.owners.specs.Puts.{number_or, pass_of}
use Rattle.range_cell.proofs.BeginLemmas.{is_beginning}
use Rattle.range_cell.proofs.EndingLemmas.{ended_written, taken_true}
use Rattle.range_cell.specs.Calls.{HasAnswered, HasBegun, HasMetRange}
use Rattle.range_cell.specs.Stages.{IsBeginning}
use Rattle.range_cell.specs.Writes.{AtLock, HasEnded}
use Rattle.write_core.specs.RangeAnswers.{lock_answer}
use Rattle.write_core.specs.Steps.{IsToldByRange}
use Rattle.write_core.specs.declared.asks.WriteTold.{WriteTold}
use Rattle.write_core.specs.declared.asks.WriteTold.TheVariants as told
use Rattle.range_cell.proofs.desks.RangeDesk.write.Goals as goal

pub write_held-requires : goal.write_held-requires
write_held-requires g c =
    let setting = g.N.Names.setting in
    let leaves = g.N.BookName.book.leaves in
    let know = c.args.know.now in
    let then = c.begin.new.know in
    let range = c.args.range in
    let own = c.args.self.now.owner.range in
    let history = c.args.self.now.replay.history in
    let history_then = c.begin.new.self.replay.history in
    let replicas = c.in-Ok-Slots.replicas in
    let row = c.args.row.now in
    let is : c.in-Ok-Slots.field-0 ≡ told.Slots replicas = c.in-Ok-Slots.field-0-is in
    let both = subst (λ (x : WriteTold). HasAnswered leaves own c.begin.new.self.replay c.begin.new.self.owner x know then)
    is c.in-Ok-Slots.ensures.answered in
    let begun : HasBegun leaves own history_then know then = both.0 in
    let here : own.0 < length then.seen.ranges =
    subst (λ (n : ℕ). own.0 < n) (sym c.begin.ensures.sound.held.all_ranges) c.begin.ensures.here in
    let legal : IsLegal setting.held setting.zones setting.points own history_then =
    subst (IsLegal setting.held setting.zones setting.points own) begun.whole
    (c.begin.ensures.sound.held.legal own here) in
    let same_history : history_then ≡ history = c.begin.ensures.history in
    let tells : lock_answer setting.points history_then row ≡ told.Slots replicas =
    ap (λ (h : List RangeEntry). lock_answer setting.points h row) same_history
    ∙ ap (λ (n : ℕ). lock_answer n history row) (sym c.requires.limit)
    ∙ sym c.in-Ok-Slots.ensures.told ∙ is in
    let may : IsToldByRange setting history_then (Adds row) (told.Slots replicas) =
    subst (IsToldByRange setting history_then (Adds row)) tells (taken_true setting own history_then row legal) in
    let number : (hand_of then.purse).own ≡ Some (pass_of know) =
    ap (option_map (λ (kept : Kept). kept.number)) begun.met.own ∙ c.requires.number in
    let pass_is : pass_of then ≡ pass_of know = ap (number_or 0) number in
    let holds : 0 < times_range own then.purse.holds =
    subst (λ (xs : List Range). 0 < times_range own xs) (sym begun.met.holding) begun.some in
    record {
      held = subst (λ (r : Range). IsRangeHeld r.0 c.begin.new.self.replay c.begin.new.self.owner)
          (sym c.begin.ensures.range) both.1;
      range = c.requires.range ∙ sym c.begin.ensures.range;
      room = c.in-Ok-Slots.ensures.room;
      serve = may.0;
      begins = subst (λ (r : Range). IsBeginning setting r (Adds row) (pass_of then) replicas then)
          (sym c.requires.range)
          (subst (λ (xs : List SlotLeaf). IsBeginning setting own (Adds row) (pass_of then) xs then)
          (sym may.0)
          (is_beginning setting own history_then then c.begin.ensures.sound.held here begun.whole begun.turns (Adds row)
          (pass_of then) (number ∙ ap (λ (n : ℕ). Some n) (sym pass_is)) holds
          (subst (λ (r : Range). IsAtHome setting.held setting.zones r row)
          c.requires.range c.requires.home) may.1));
      turns = subst (λ (r : Range). HaveJust then.seen r history_then) (sym c.requires.range) begun.turns;
      legal = subst (λ (r : Range). IsLegal setting.held setting.zones setting.points r history_then)
          (sym c.requires.range) legal;
      takes = may.1;
    }

pub returns-in-Ok-Slots-clause-rest : goal.returns-in-Ok-Slots-clause-rest
returns-in-Ok-Slots-clause-rest g c =
    subst (λ (r : Range). IsRangeAtRest r.0 c.write_held.new.self.replay c.write_held.new.self.owner)
    c.begin.ensures.range c.write_held.ensures.rest

pub returns-in-Ok-Slots-clause-written : goal.returns-in-Ok-Slots-clause-written
returns-in-Ok-Slots-clause-written g c =
    let setting = g.N.Names.setting in
    let leaves = g.N.BookName.book.leaves in
    let know = c.args.know.now in
    let then = c.begin.new.know in
    let range = c.args.range in
    let own = c.args.self.now.owner.range in
    let history = c.args.self.now.replay.history in
    let history_then = c.begin.new.self.replay.history in
    let replicas = c.in-Ok-Slots.replicas in
    let row = c.args.row.now in
    let is : c.in-Ok-Slots.field-0 ≡ told.Slots replicas = c.in-Ok-Slots.field-0-is in
    let begun : HasBegun leaves own history_then know then =
    (subst (λ (x : WriteTold). HasAnswered leaves own c.begin.new.self.replay c.begin.new.self.owner x know then)
    is c.in-Ok-Slots.ensures.answered).0 in
    let here : own.0 < length then.seen.ranges =
    subst (λ (n : ℕ). own.0 < n) (sym c.begin.ensures.sound.held.all_ranges) c.begin.ensures.here in
    let legal : IsLegal setting.held setting.zones setting.points own history_then =
    subst (IsLegal setting.held setting.zones setting.points own) begun.whole
    (c.begin.ensures.sound.held.legal own here) in
    let tells : lock_answer c.args.limit history_then row ≡ told.Slots replicas =
    ap (λ (h : List RangeEntry). lock_answer c.args.limit h row) c.begin.ensures.history
    ∙ sym c.in-Ok-Slots.ensures.told ∙ is in
    let may : IsToldByRange setting history_then (Adds row) (told.Slots replicas) =
    subst (IsToldByRange setting history_then (Adds row))
    (ap (λ (n : ℕ). lock_answer n history_then row) (sym c.requires.limit) ∙ tells)
    (taken_true setting own history_then row legal) in
    let number : (hand_of then.purse).own ≡ Some (pass_of know) =
    ap (option_map (λ (kept : Kept). kept.number)) begun.met.own ∙ c.requires.number in
    ended_written leaves range row c.args.limit (pass_of know) know c.write_held.new.know history_then then
    (tells ∙ ap (λ (xs : List SlotLeaf). told.Slots xs) may.0)
    (subst (λ (r : Range). HasBegun leaves r history_then know then) (sym c.requires.range) begun)
    c.write_held.result
    (subst (λ (n : ℕ). HasEnded leaves range (Adds row) history_then n then c.write_held.new.know c.write_held.result)
    (ap (number_or 0) number) c.write_held.ensures.ended)

pub returns-in-Ok-OldPoint-clause-rest : goal.returns-in-Ok-OldPoint-clause-rest
returns-in-Ok-OldPoint-clause-rest g c =
    (subst (λ (x : WriteTold). HasAnswered g.N.BookName.book.leaves c.args.self.now.owner.range c.begin.new.self.replay
    c.begin.new.self.owner x c.args.know.now c.begin.new.know) c.in-Ok-OldPoint.field-0-is
    c.in-Ok-OldPoint.ensures.answered).1

pub returns-in-Ok-OldPoint-clause-written : goal.returns-in-Ok-OldPoint-clause-written
returns-in-Ok-OldPoint-clause-written g c =
    let leaves = g.N.BookName.book.leaves in
    let know = c.args.know.now in
    let then = c.begin.new.know in
    let own = c.args.self.now.owner.range in
    let row = c.args.row.now in
    let met = (subst (λ (x : WriteTold). HasAnswered leaves own c.begin.new.self.replay c.begin.new.self.owner x know then)
    c.in-Ok-OldPoint.field-0-is c.in-Ok-OldPoint.ensures.answered).0 in
    let why : lock_answer c.args.limit (range_history then.seen c.args.range) row ≡ told.OldPoint c.in-Ok-OldPoint.last =
    subst (λ (r : Range). lock_answer c.args.limit (range_history then.seen r) row
    ≡ told.OldPoint c.in-Ok-OldPoint.last) (sym c.requires.range)
    (ap (λ (h : List RangeEntry). lock_answer c.args.limit h row) c.begin.ensures.whole
    ∙ sym c.in-Ok-OldPoint.ensures.told ∙ c.in-Ok-OldPoint.field-0-is) in
    record {
      met = subst (λ (r : Range). HasMetRange leaves r know.purse.holds know then) (sym c.requires.range) met;
      why = search rules;
    }

pub returns-in-Ok-RangeFull-clause-rest : goal.returns-in-Ok-RangeFull-clause-rest
returns-in-Ok-RangeFull-clause-rest g c =
    (subst (λ (x : WriteTold). HasAnswered g.N.BookName.book.leaves c.args.self.now.owner.range c.begin.new.self.replay
    c.begin.new.self.owner x c.args.know.now c.begin.new.know) c.in-Ok-RangeFull.field-0-is
    c.in-Ok-RangeFull.ensures.answered).1

pub returns-in-Ok-RangeFull-clause-written : goal.returns-in-Ok-RangeFull-clause-written
returns-in-Ok-RangeFull-clause-written g c =
    let leaves = g.N.BookName.book.leaves in
    let know = c.args.know.now in
    let then = c.begin.new.know in
    let own = c.args.self.now.owner.range in
    let row = c.args.row.now in
    let met = (subst (λ (x : WriteTold). HasAnswered leaves own c.begin.new.self.replay c.begin.new.self.owner x know then)
    c.in-Ok-RangeFull.field-0-is c.in-Ok-RangeFull.ensures.answered).0 in
    record {
      met = subst (λ (r : Range). HasMetRange leaves r know.purse.holds know then) (sym c.requires.range) met;
      why = subst (λ (r : Range). lock_answer c.args.limit (range_history then.seen r) row
          ≡ told.RangeFull c.in-Ok-RangeFull.count) (sym c.requires.range)
          (ap (λ (h : List RangeEntry). lock_answer c.args.limit h row) c.begin.ensures.whole
          ∙ sym c.in-Ok-RangeFull.ensures.told ∙ c.in-Ok-RangeFull.field-0-is);
    }

pub returns-in-Err-clause-rest : goal.returns-in-Err-clause-rest
returns-in-Err-clause-rest g c = c.in-Err.ensures.refused.1

pub returns-in-Err-clause-written : goal.returns-in-Err-clause-written
returns-in-Err-clause-written g c =
    AtLock (subst (λ (r : Range). HasMetRange g.N.BookName.book.leaves r c.args.know.now.purse.holds c.args.know.now
    c.begin.new.know) (sym c.requires.range) c.in-Err.ensures.refused.0)
