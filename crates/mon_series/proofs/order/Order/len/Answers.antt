use Rattle.std.proofs.Common.{◌≡◌, ◌∙◌, length, ap, arith}
use Rattle.mon_series.specs.within.Orders.{places_of}
use Rattle.mon_series.proofs.OrderLemmas.{all_count}
use Rattle.mon_series.proofs.order.Order.len.Goals as goal

pub returns : goal.returns
returns c =
    let order = c.self.inside in
    let all = all_count order.runs.items order.last order.count c.self.invariant.ordered c.self.invariant.ends in
    let begins = c.self.invariant.begins in
    let count : order.count ≡ length (places_of order.runs.items order.last order.count) =
    omega (arith, all, begins) in
    record { count = count ∙ ap (λ seen. length seen.items) c.self.view_is }
