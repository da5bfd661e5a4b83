use Rattle.std.proofs.Common.{◌≡◌, to_z, of_z, ap, ◌∙◌, rules}
use Rattle.std.specs.Int.{w64}
use Rattle.mon_fold.specs.GroupKeys.{cells_seen}
use Rattle.mon_fold.proofs.grouping.GroupKey.copy.Goals as goal

pub returns : goal.returns
returns c =
    let key = c.args.self.now in
    let time : to_z w64 (of_z w64 key.time) ≡ key.time = search rules in
    let cells : cells_seen c.in_ok-from_slice.field-0.items ≡ cells_seen key.cells.items = ap cells_seen
    (c.in_ok-from_slice.ensures.items ∙ c.as_slice.ensures.value) in
    λ i. record { time = time i; cells = cells i }
