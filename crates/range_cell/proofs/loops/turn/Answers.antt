use Rattle.std.proofs.Common.{sym}
use Rattle.range_cell.proofs.DeedLemmas.{stocked_less}
use Rattle.range_cell.proofs.OutcomeLemmas.{any_err}
use Rattle.range_cell.proofs.MayCallLemmas.{may_put_at, may_reserve}
use Rattle.range_cell.specs.Deeds.{turn_of}
use Rattle.range_cell.specs.Stages.{needed}
use Rattle.range_cell.proofs.loops.turn.Goals as goal

pub ask_for_room-requires-clause-seen : goal.ask_for_room-requires-clause-seen
ask_for_room-requires-clause-seen g c =
    may_reserve g.N.Names.setting c.args.range (turn_of c.args.deed.now) c.args.know.now c.args.machine.now.stage
    c.in-Reserve.slot c.in-Reserve.leaf c.requires.somewhere (sym c.in-Reserve.ensures.ask)

pub returns-in_err-ask_for_room-in-Reserve-clause-refused : goal.returns-in_err-ask_for_room-in-Reserve-clause-refused
returns-in_err-ask_for_room-in-Reserve-clause-refused g c pass before replicas apart at =
    any_err c.from_residual.result _ (c.in_err-ask_for_room-in-Reserve.ensures.refused pass before replicas at)

pub returns-in_ok-ask_for_room-in-Reserve-clause-on : goal.returns-in_ok-ask_for_room-in-Reserve-clause-on
returns-in_ok-ask_for_room-in-Reserve-clause-on g c pass before replicas apart at =
    c.in_ok-ask_for_room-in-Reserve.ensures.on pass before replicas at

pub returns-in_ok-ask_for_room-in-Reserve-clause-stocked : goal.returns-in_ok-ask_for_room-in-Reserve-clause-stocked
returns-in_ok-ask_for_room-in-Reserve-clause-stocked g c =
    stocked_less c.args.deed.now (needed c.args.machine.now.stage) (needed c.ask_for_room.new.machine.stage)
    c.in_ok-ask_for_room-in-Reserve.ensures.needs c.requires.stocked

pub put_at-requires-clause-may : goal.put_at-requires-clause-may
put_at-requires-clause-may g c =
    may_put_at g.N.Names.setting c.args.range (turn_of c.args.deed.now) c.args.know.now c.args.machine.now.stage
    c.in-Enter.slot c.in-Enter.leaf c.requires.somewhere (sym c.in-Enter.ensures.ask)

pub returns-in-Enter-clause-on : goal.returns-in-Enter-clause-on
returns-in-Enter-clause-on g c pass before replicas apart at = c.put_at.ensures.on pass before replicas apart at
