use Rattle.std.proofs.Common.{sym, subst}
use Rattle.range_cell.specs.Stages.{IsWithdrawing}
use Rattle.write_core.specs.declared.marks.Mark.{Mark}
use Rattle.std.specs.Prelude.{List}
use Rattle.range_cell.proofs.loops.write_through.Goals as goal

pub cancel_all-requires : goal.cancel_all-requires
cancel_all-requires g c =
    let here = c.requires.somewhere in
    record {
      somewhere = record {
        range = c.args.range;
        pass = here.pass;
        before = here.before;
        replicas = here.replicas;
        placed = here.placed;
        is = subst (λ (marks : List Mark). IsWithdrawing c.args.range here.pass here.before here.replicas
            c.go_through.new.know marks)
            (sym c.marks.ensures.marks)
            (c.in-Err.ensures.refused here.pass here.before here.replicas here.placed.apart here.at);
      };
    }

pub returns-in-Err-clause-withdrawn : goal.returns-in-Err-clause-withdrawn
returns-in-Err-clause-withdrawn g c pass before replicas apart at =
    c.cancel_all.ensures.back c.args.range pass before replicas
    (subst (λ (marks : List Mark). IsWithdrawing c.args.range pass before replicas c.go_through.new.know marks)
    (sym c.marks.ensures.marks)
    (c.in-Err.ensures.refused pass before replicas apart at))
