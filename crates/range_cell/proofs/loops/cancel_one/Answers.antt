use Rattle.std.proofs.Common.{◌≡◌, rules, true, false}
use Rattle.range_cell.proofs.RoomBackLemmas.{cancelled, passed_by}
use Rattle.write_core.specs.Marks.{is_ready}
use Rattle.range_cell.proofs.loops.cancel_one.Goals as goal

pub returns-then-is_ready : goal.returns-then-is_ready
returns-then-is_ready g c =
    let ready : is_ready c.args.mark.fate ≡ true = search rules in
    record {
      back = λ range pass before replicas left w. cancelled range pass before replicas c.args.know.now
          c.args.mark left w c.cancel.new.know ready
          c.cancel.ensures.cancelled;
    }

pub returns-else-is_ready : goal.returns-else-is_ready
returns-else-is_ready g c =
    let not_ready : is_ready c.args.mark.fate ≡ false = search rules in
    record {
      back = λ range pass before replicas left w. passed_by range pass before replicas
          c.args.know.now c.args.mark left w not_ready;
    }
