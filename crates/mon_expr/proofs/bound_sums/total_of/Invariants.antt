-- What was added up and what is left come to the total, and never to too much.
use Rattle.std.proofs.Common.{◌≡◌, ◌≤◌, ◌+◌, drop, Some}
use Rattle.std.specs.Prelude.{unsigned_abs}
use Rattle.std.specs.List.{AllByRecursion}
use Rattle.mon_value.specs.Values.{greatest_sum}
use Rattle.mon_expr.specs.BoundSums.{CanTake, sum_of_both, terms_size, terms_total}
use Rattle.mon_expr.proofs.bound_sums.total_of.Given as goal

abbrev pub invariant-loop-signed : goal.invariant-loop-signed
invariant-loop-signed l =
    (sum_of_both (Some l.total) (terms_total (drop l.signed-index l.terms) l.cells) ≡ terms_total l.terms l.cells)
    × (unsigned_abs l.total + terms_size (drop l.signed-index l.terms) l.cells ≤ greatest_sum)
    × AllByRecursion (λ signed. CanTake signed.term l.cells) (drop l.signed-index l.terms)
