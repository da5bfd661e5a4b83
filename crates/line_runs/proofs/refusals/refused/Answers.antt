use Rattle.std.proofs.Common.{◌≡◌, sym}
use Rattle.line_runs.proofs.Results.{ok_as}
use Rattle.line_runs.specs.Questions.{IsRefusedFor, refused_for}
use Rattle.line_runs.specs.declared.lines.LineRan.{LineRan}
use Rattle.run_traces.specs.declared.traces.LineFault.TheVariants as why
use Rattle.line_runs.proofs.refusals.refused.Goals as goal

pub returns-in-Some : goal.returns-in-Some
returns-in-Some c = record {
  refused = ok_as (λ (ran : LineRan). ran ≡ refused_for c.args.topology.now (why.Question c.in-Some.told))
      (IsRefusedFor c.args.topology.now c.args.fault) c.refused_for.result
      (λ ran is. record { told = c.in-Some.told; told_is = sym c.in-Some.ensures.told; ran_is = is })
      c.refused_for.ensures.ran;
}
