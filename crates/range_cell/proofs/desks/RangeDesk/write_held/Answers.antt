use Rattle.std.proofs.Common.{◌≡◌, ◌<◌, ℕ, [], sym, subst}
use Rattle.history_book.specs.Seats.{times_range}
use Rattle.mon_value.specs.Histories.{range_history}
use Rattle.mon_value.specs.Turns.{Turn, Adds}
use Rattle.mon_value.specs.declared.positions.Range.{Range}
use Rattle.mon_value.specs.declared.positions.SlotLeaf.{SlotLeaf}
use Rattle.owners.specs.Puts.{pass_of}
use Rattle.range_cell.proofs.BeginLemmas.{withdraws_at_once}
use Rattle.range_cell.specs.Calls.{HasMetRange, others_of}
use Rattle.range_cell.specs.Deeds.{IsStocked}
use Rattle.range_cell.specs.Rest.{HaveJust}
use Rattle.range_cell.specs.Stages.{IsBeginning, IsWithdrawing}
use Rattle.range_cell.specs.Writes.{HasTurned}
use Rattle.std.specs.Prelude.{List}
use Rattle.write_core.specs.Steps.{TakesTurn}
use Rattle.range_cell.proofs.desks.RangeDesk.write_held.Goals as goal

pub carry_out-requires : goal.carry_out-requires
carry_out-requires g c =
    let setting = g.N.Names.setting in
    let know = c.args.know.now in
    let history = c.args.self.now.replay.history in
    let is = c.in-Ok.ensures.turn in
    record {
      held = c.requires.held;
      range = c.requires.range;
      room = c.requires.room;
      serve = c.requires.serve;
      begins = subst (λ (t : Turn). IsBeginning setting c.args.range t (pass_of know) c.args.replicas know) (sym is)
          c.requires.begins;
      stocked = subst (λ (n : ℕ). IsStocked n c.in-Ok.deed) c.len.ensures.count c.in-Ok.ensures.stocked;
      turns = c.requires.turns;
      legal = c.requires.legal;
      takes = subst (λ (t : Turn). TakesTurn setting history t) (sym is) c.requires.takes;
    }

pub returns-in-Ok-clause-ended : goal.returns-in-Ok-clause-ended
returns-in-Ok-clause-ended g c =
    let leaves = g.N.BookName.book.leaves in
    let know = c.args.know.now in
    let history = c.args.self.now.replay.history in
    let pass = pass_of know in
    c.as_written.ensures.ended leaves c.args.range (Adds c.args.row.now) history pass know c.carry_out.new.know
    (subst (λ (t : Turn). HasTurned leaves c.args.range t history pass know c.carry_out.new.know c.carry_out.result)
    c.in-Ok.ensures.turn c.carry_out.ensures.ended)

pub give_back-requires : goal.give_back-requires
give_back-requires g c =
    let know = c.args.know.now in
    record {
      held = c.requires.held;
      holds = subst (λ (r : Range). 0 < times_range r know.purse.holds) c.requires.range c.requires.begins.held;
      turns = subst (λ (r : Range). HaveJust know.seen r c.args.self.now.replay.history) c.requires.range
          c.requires.turns;
    }

pub returns-in-Err-clause-ended : goal.returns-in-Err-clause-ended
returns-in-Err-clause-ended g c =
    let know = c.args.know.now in
    let history = c.args.self.now.replay.history in
    let pass = pass_of know in
    record {
      mid = know;
      withdrawn = subst (λ (replicas : List SlotLeaf). IsWithdrawing c.args.range pass know replicas know [])
          c.requires.serve
          (withdraws_at_once g.N.Names.setting c.args.range (Adds c.args.row.now) pass c.args.replicas know
          c.requires.begins);
      back = record {
        met = subst (λ (r : Range). HasMetRange g.N.BookName.book.leaves r (others_of r know) know c.give_back.new.know)
            (sym c.requires.range) c.give_back.ensures.met;
        whole = subst (λ (r : Range). range_history c.give_back.new.know.seen r ≡ history) (sym c.requires.range)
            c.give_back.ensures.whole;
      };
    }
