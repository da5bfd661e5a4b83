use Rattle.std.proofs.Common.{◌≡◌, sym, ap, subst}
use Rattle.mon_value.specs.Turns.{Turn}
use Rattle.range_cell.proofs.BeginLemmas.{begin_needs, begins_at, begins_somewhere, withdraws_at_once}
use Rattle.range_cell.proofs.DeedLemmas.{stocked_less}
use Rattle.range_cell.proofs.OutcomeLemmas.{any_err}
use Rattle.range_cell.specs.Deeds.{IsStocked, turn_of}
use Rattle.range_cell.specs.Stages.{IsAt, IsSomewhere, IsThroughAt, needed}
use Rattle.range_cell.specs.declared.deeds.Deed.{Deed}
use Rattle.std.specs.Prelude.{length}
use Rattle.write_core.specs.Program.{Locking, Stage, after}
use Rattle.write_core.specs.declared.asks.WriteTold.TheVariants as told
use Rattle.range_cell.proofs.entering.enter_leaves.Goals as goal

pub write_through-requires : goal.write_through-requires
write_through-requires g c =
    let here = c.requires.begins in
    let range = c.args.range in
    let taken = c.in_ok-entering.ensures in
    let begun : Stage = after Locking (told.Slots c.args.replicas) in
    record {
      somewhere = subst (λ (s : Stage). IsSomewhere g.N.Names.setting range
          (turn_of c.in_ok-entering.entering.deed) c.args.know.now s) (sym taken.stage)
          (subst (λ (d : Deed). IsSomewhere g.N.Names.setting range (turn_of d) c.args.know.now begun) (sym taken.deed)
          (begins_somewhere g.N.Names.setting range (turn_of c.args.deed) here.pass c.args.replicas c.args.know.now
          here.begins));
      stocked = subst (λ (s : Stage). IsStocked (needed s) c.in_ok-entering.entering.deed) (sym taken.stage)
          (subst (λ (d : Deed). IsStocked (needed begun) d) (sym taken.deed)
          (stocked_less c.args.deed (length c.args.replicas) (needed begun) (begin_needs c.args.replicas)
          c.requires.stocked));
    }

pub returns-in_err-entering-clause-withdrawn : goal.returns-in_err-entering-clause-withdrawn
returns-in_err-entering-clause-withdrawn g c pass begins =
    any_err _ _
    (withdraws_at_once g.N.Names.setting c.args.range (turn_of c.args.deed) pass c.args.replicas c.args.know.now begins)

pub returns-in_err-write_through-clause-withdrawn : goal.returns-in_err-write_through-clause-withdrawn
returns-in_err-write_through-clause-withdrawn g c pass begins =
    let range = c.args.range in
    let know = c.args.know.now in
    let taken = c.in_ok-entering.ensures in
    any_err _ _
    (c.in_err-write_through.ensures.withdrawn pass know c.args.replicas begins.placed.apart
    (subst (λ (s : Stage). IsAt range (turn_of c.in_ok-entering.entering.deed) pass know c.args.replicas know s)
    (sym taken.stage)
    (subst (λ (d : Deed). IsAt range (turn_of d) pass know c.args.replicas know
    (after Locking (told.Slots c.args.replicas))) (sym taken.deed)
    (begins_at g.N.Names.setting range (turn_of c.args.deed) pass c.args.replicas know begins))))

pub returns-clause-through : goal.returns-clause-through
returns-clause-through g c pass begins =
    let range = c.args.range in
    let know = c.args.know.now in
    let taken = c.in_ok-entering.ensures in
    let same : turn_of c.in_ok-entering.entering.deed ≡ turn_of c.args.deed = ap turn_of taken.deed in
    subst (λ (t : Turn). IsThroughAt range t pass know c.args.replicas c.write_through.new.know
    c.write_through.new.machine.stage) same
    (c.in_ok-write_through.ensures.through pass know c.args.replicas begins.placed.apart
    (subst (λ (s : Stage). IsAt range (turn_of c.in_ok-entering.entering.deed) pass know c.args.replicas know s)
    (sym taken.stage)
    (subst (λ (d : Deed). IsAt range (turn_of d) pass know c.args.replicas know
    (after Locking (told.Slots c.args.replicas))) (sym taken.deed)
    (begins_at g.N.Names.setting range (turn_of c.args.deed) pass c.args.replicas know begins))))
