use Rattle.std.proofs.Common.{◌≡◌, ◌<◌, List, [], sym, subst}
use Rattle.history_book.specs.Seats.{times_range}
use Rattle.mon_topo.specs.RangeHistories.{serving}
use Rattle.mon_value.specs.Histories.{range_history}
use Rattle.mon_value.specs.Turns.{Turn}
use Rattle.mon_value.specs.declared.positions.Range.{Range}
use Rattle.mon_value.specs.declared.positions.SlotLeaf.{SlotLeaf}
use Rattle.owners.specs.Puts.{pass_of}
use Rattle.range_cell.proofs.BeginLemmas.{withdrawn_turns}
use Rattle.range_cell.specs.Calls.{HasMetRange, others_of}
use Rattle.range_cell.specs.Deeds.{turn_of}
use Rattle.range_cell.specs.Rest.{HaveJust}
use Rattle.range_cell.specs.Stages.{IsConcluding, IsThroughAt, IsWithdrawing}
use Rattle.range_cell.specs.Writes.{HasTurned}
use Rattle.range_cell.proofs.desks.RangeDesk.carry_out.Goals as goal

pub enter_leaves-requires : goal.enter_leaves-requires
enter_leaves-requires g c = record {
  begins = record { pass = pass_of c.args.know.now; begins = c.requires.begins };
  stocked = c.requires.stocked;
}

pub conclude-requires : goal.conclude-requires
conclude-requires g c =
    let setting = g.N.Names.setting in
    let know = c.args.know.now in
    let went = c.in-Ok.ensures in
    let entering = c.in-Ok.entering in
    let range = c.args.range in
    let history = c.args.self.now.replay.history in
    let pass = pass_of know in
    let turn = turn_of c.args.deed in
    record {
      held = c.requires.held;
      range = c.requires.range;
      machine = went.range;
      room = c.requires.room;
      through = subst (λ (t : Turn). IsConcluding setting range t history c.enter_leaves.new.know entering.machine.stage)
          (sym went.turn)
          (record {
            pass = pass;
            begun = know;
            through = subst (λ (replicas : List SlotLeaf). IsThroughAt range turn pass know replicas
                c.enter_leaves.new.know entering.machine.stage) c.requires.serve
                (went.through pass c.requires.begins);
            just = c.requires.turns;
            legal = c.requires.legal;
            home = c.requires.begins.home;
            takes = c.requires.takes;
          });
    }

pub returns-in-Ok-clause-ended : goal.returns-in-Ok-clause-ended
returns-in-Ok-clause-ended g c =
    let leaves = g.N.BookName.book.leaves in
    let know = c.args.know.now in
    let went = c.in-Ok.ensures in
    let entering = c.in-Ok.entering in
    let range = c.args.range in
    let history = c.args.self.now.replay.history in
    let pass = pass_of know in
    subst (λ (t : Turn). HasTurned leaves range t history pass know c.conclude.new.know c.conclude.result) went.turn
    (c.conclude.ensures.ended pass know
    (subst (λ (t : Turn). IsThroughAt range t pass know (serving history) c.enter_leaves.new.know
    entering.machine.stage) (sym went.turn)
    (subst (λ (replicas : List SlotLeaf). IsThroughAt range (turn_of c.args.deed) pass know replicas
    c.enter_leaves.new.know entering.machine.stage) c.requires.serve
    (went.through pass c.requires.begins))))

pub give_back-requires : goal.give_back-requires
give_back-requires g c =
    let know = c.args.know.now in
    let history = c.args.self.now.replay.history in
    let pass = pass_of know in
    let w = c.in-Err.ensures.withdrawn pass c.requires.begins in
    let gone = c.enter_leaves.new.know in
    record {
      held = c.requires.held;
      holds = subst (λ (r : Range). 0 < times_range r gone.purse.holds) c.requires.range w.held;
      turns = subst (λ (r : Range). HaveJust gone.seen r history) c.requires.range
          (withdrawn_turns c.args.range pass history know gone
          (subst (λ (replicas : List SlotLeaf). IsWithdrawing c.args.range pass know replicas gone []) c.requires.serve w)
          c.requires.turns);
    }

pub returns-in-Err-clause-ended : goal.returns-in-Err-clause-ended
returns-in-Err-clause-ended g c =
    let know = c.args.know.now in
    let history = c.args.self.now.replay.history in
    let pass = pass_of know in
    let gone = c.enter_leaves.new.know in
    record {
      mid = gone;
      withdrawn = subst (λ (replicas : List SlotLeaf). IsWithdrawing c.args.range pass know replicas gone [])
          c.requires.serve (c.in-Err.ensures.withdrawn pass c.requires.begins);
      back = record {
        met = subst (λ (r : Range). HasMetRange g.N.BookName.book.leaves r (others_of r gone) gone c.give_back.new.know)
            (sym c.requires.range) c.give_back.ensures.met;
        whole = subst (λ (r : Range). range_history c.give_back.new.know.seen r ≡ history) (sym c.requires.range)
            c.give_back.ensures.whole;
      };
    }
