use Rattle.std.proofs.Common.{Some, ap, ◌∙◌}
use Rattle.std.specs.Option.{option_map}
use Rattle.mon_value.specs.declared.rows.Point.{Point}
use Rattle.mon_fold.proofs.AlignmentLemmas.{slice_get-newest}
use Rattle.mon_fold.proofs.alignment.newest_value.Goals as goal

pub returns-in_ok-value-in-Some : goal.returns-in_ok-value-in-Some
returns-in_ok-value-in-Some c =
    ap Some c.in_ok-value-in-Some.ensures.value ∙ ap (option_map (λ (p : Point). p.value)) (c.in-Some.ensures.value
    ∙ slice_get-newest c.args.window.now)
