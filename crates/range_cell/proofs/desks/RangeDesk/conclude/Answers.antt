use Rattle.std.proofs.Common.{◌≡◌, ◌<◌, ℕ, Some, List, refl, sym, ap, subst, ◌∙◌}
use Rattle.history_book.specs.Seats.{times_range}
use Rattle.mon_value.specs.declared.histories.RangeEntry.{RangeEntry}
use Rattle.mon_topo.specs.RangeHistories.{turn_ack}
use Rattle.mon_value.specs.declared.positions.Range.{Range}
use Rattle.write_core.specs.declared.marks.Mark.{Mark}
use Rattle.owners.specs.Puts.{number_or, pass_of}
use Rattle.range_cell.proofs.BeginLemmas.{may_acknowledge, none_taken}
use Rattle.range_cell.proofs.EndingLemmas.{ended_so, unavailable_end, written_end}
use Rattle.range_cell.specs.Calls.{HasEntered, HasMetRange, MayEnter, others_of}
use Rattle.range_cell.specs.Deeds.{turn_of}
use Rattle.range_cell.specs.Rest.{HaveJust}
use Rattle.mon_value.specs.Histories.{range_history}
use Rattle.write_core.specs.Marks.{ack_of}
use Rattle.write_core.specs.Program.{Acking, Locking, Marked, Stage, after, ask_of}
use Rattle.write_core.specs.declared.asks.WriteEnd.TheVariants as end
use Rattle.write_core.specs.declared.asks.WriteTold.TheVariants as told
use Rattle.range_cell.proofs.desks.RangeDesk.conclude.Goals as goal

pub tell-requires : goal.tell-requires
tell-requires g c =
    let t = c.requires.through.through in
    record { begun = λ is. by (sym t.stage_is ∙ is) }
  where
    by : {m : List Mark} → Acking (Marked m) ≡ Locking → ⊥
    by h = cc

pub finish-requires : goal.finish-requires
finish-requires g c =
    let t = c.requires.through.through in
    ap ask_of (c.tell.ensures.after ∙ ap (λ (s : Stage). after s told.Done) t.stage_is)

pub acknowledge-requires : goal.acknowledge-requires
acknowledge-requires g c =
    let setting = g.N.Names.setting in
    let here = c.requires.through in
    let t = here.through in
    let range = c.args.range in
    let own = c.args.self.now.owner.range in
    let know = c.args.know.now in
    let g0 = c.args.self.now.replay.history in
    let turn = turn_of c.args.entering.deed in
    let marks = t.marks in
    let writing = t.through.so_far.writing in
    let last = ended_so range marks c.tell.new.machine.range c.args.entering.machine.stage c.tell.new.machine.stage
    (end.Written c.in-Written.ack) t.stage_is c.tell.ensures.after
    (c.tell.ensures.range ∙ c.requires.machine) c.in-Written.ensures.end in
    let both = written_end range marks c.in-Written.ack last in
    let mine : pass_of know ≡ here.pass = ap (number_or 0) writing.number in
    let e_is : turn_ack here.pass turn (ack_of range marks) ≡ turn_ack (pass_of know) turn c.in-Written.ack =
    λ i. turn_ack (sym mine i) turn (both.1 i) in
    record {
      held = c.requires.held;
      holds = subst (λ (r : Range). 0 < times_range r know.purse.holds) c.requires.range writing.held;
      room = c.requires.room;
      number = writing.number ∙ ap (λ (n : ℕ). Some n) (sym mine);
      may = subst (λ (r : Range). MayEnter setting r g0 (turn_ack (pass_of know) turn c.in-Written.ack) know)
          c.requires.range
          (subst (λ (e : RangeEntry). MayEnter setting range g0 e know) e_is
          (may_acknowledge setting range turn here.pass g0 here.legal here.begun know here.just marks t.through
          both.0 here.home here.takes));
    }

pub returns-in-Written-clause-ended : goal.returns-in-Written-clause-ended
returns-in-Written-clause-ended g c pass begun t =
    let leaves = g.N.BookName.book.leaves in
    let range = c.args.range in
    let know = c.args.know.now in
    let g0 = c.args.self.now.replay.history in
    let turn = turn_of c.args.entering.deed in
    let marks = t.marks in
    let last = ended_so range marks c.tell.new.machine.range c.args.entering.machine.stage c.tell.new.machine.stage
    (end.Written c.in-Written.ack) t.stage_is c.tell.ensures.after
    (c.tell.ensures.range ∙ c.requires.machine) c.in-Written.ensures.end in
    let both = written_end range marks c.in-Written.ack last in
    let mine : pass_of know ≡ pass = ap (number_or 0) t.through.so_far.writing.number in
    let e_is : turn_ack (pass_of know) turn c.in-Written.ack ≡ turn_ack pass turn c.in-Written.ack =
    λ i. turn_ack (mine i) turn c.in-Written.ack in
    record {
      mid = know;
      marks = marks;
      through = t.through;
      some = both.0;
      ack_is = both.1;
      entered = subst (λ (e : RangeEntry). HasEntered leaves range g0 e know c.acknowledge.new.know) e_is
          (subst (λ (r : Range). HasEntered leaves r g0
          (turn_ack (pass_of know) turn c.in-Written.ack) know c.acknowledge.new.know)
          (sym c.requires.range) c.acknowledge.ensures.entered);
    }

pub give_back-requires : goal.give_back-requires
give_back-requires g c =
    let here = c.requires.through in
    let t = here.through in
    let range = c.args.range in
    let know = c.args.know.now in
    let g0 = c.args.self.now.replay.history in
    let marks = t.marks in
    let last = ended_so range marks c.tell.new.machine.range c.args.entering.machine.stage c.tell.new.machine.stage
    (end.Unavailable c.in-Unavailable.founds) t.stage_is c.tell.ensures.after
    (c.tell.ensures.range ∙ c.requires.machine) c.in-Unavailable.ensures.end in
    let both = unavailable_end range marks c.in-Unavailable.founds last in
    record {
      held = c.requires.held;
      holds = subst (λ (r : Range). 0 < times_range r know.purse.holds) c.requires.range
          t.through.so_far.writing.held;
      turns = subst (λ (r : Range). HaveJust know.seen r g0) c.requires.range
          (none_taken g.N.Names.setting range (turn_of c.args.entering.deed) here.pass g0 here.legal here.begun know
          here.just marks t.through both.0);
    }

pub returns-in-Unavailable-clause-ended : goal.returns-in-Unavailable-clause-ended
returns-in-Unavailable-clause-ended g c pass begun t =
    let leaves = g.N.BookName.book.leaves in
    let range = c.args.range in
    let know = c.args.know.now in
    let g0 = c.args.self.now.replay.history in
    let marks = t.marks in
    let last = ended_so range marks c.tell.new.machine.range c.args.entering.machine.stage c.tell.new.machine.stage
    (end.Unavailable c.in-Unavailable.founds) t.stage_is c.tell.ensures.after
    (c.tell.ensures.range ∙ c.requires.machine) c.in-Unavailable.ensures.end in
    let both = unavailable_end range marks c.in-Unavailable.founds last in (
      refl,
      record {
        mid = know;
        marks = marks;
        through = t.through;
        none = both.0;
        founds_are = both.1;
        back = record {
          met = subst (λ (r : Range). HasMetRange leaves r (others_of r know) know c.give_back.new.know)
              (sym c.requires.range) c.give_back.ensures.met;
          whole = subst (λ (r : Range). range_history c.give_back.new.know.seen r ≡ g0) (sym c.requires.range)
              c.give_back.ensures.whole;
        };
      },
    )
