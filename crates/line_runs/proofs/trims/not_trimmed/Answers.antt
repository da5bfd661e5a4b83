use Rattle.std.proofs.Common.{◌≡◌, ◌∙◌, ap, sym}
use Rattle.line_runs.proofs.Results.{ok_as}
use Rattle.line_runs.specs.Controls.{IsNotTrimmedFor}
use Rattle.line_runs.specs.Questions.{refused_for}
use Rattle.line_runs.specs.declared.lines.LineRan.{LineRan}
use Rattle.line_runs.proofs.trims.not_trimmed.Goals as goal

pub returns-in-Some : goal.returns-in-Some
returns-in-Some c = record {
  refused = ok_as (λ (ran : LineRan). ran ≡ refused_for c.args.topology.now c.untrimmed.result)
      (IsNotTrimmedFor c.args.topology.now c.args.fault) c.refused_for.result
      (λ ran is. record {
        told = c.in-Some.told;
        told_is = sym c.in-Some.ensures.told;
        ran_is = is ∙ ap (refused_for c.args.topology.now) c.untrimmed.ensures.told;
      })
      c.refused_for.ensures.ran;
}
