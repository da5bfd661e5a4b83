use Rattle.std.proofs.Common.{◌∙◌, ap}
use Rattle.mon_value.specs.Order.{sorted_rows}
use Rattle.mon_table.proofs.ReferenceLemmas.{sorted_references}
use Rattle.mon_table.proofs.printing.sorted_references.Goals as goal

pub returns : goal.returns
returns c =
    let sort = c.sort_unstable.ensures in
    record { order = sorted_references _ _ sort.permutation sort.sorted ∙ ap sorted_rows c.in_ok-ordered.ensures.rows }
