use Rattle.std.proofs.Common.{◌≡◌, ◌∙◌, ◌<◌, ◌-◌, Some, length, slice_get, sym, ap, arith, rules}
use Rattle.mon_series.specs.within.Orders.{IsShortPlace, place_in, places_of}
use Rattle.mon_series.proofs.OrderLemmas.{all_count, all_get}
use Rattle.mon_series.proofs.order.Order.get.Goals as goal

pub overflow_cast-number : goal.overflow_cast-number
overflow_cast-number c =
    let order = c.self.inside in
    let all = all_count order.runs.items order.last order.count c.self.invariant.ordered c.self.invariant.ends in
    let seen = ap (λ seen. length seen.items) c.self.view_is in
    let few = c.self.invariant.few in
    let begins = c.self.invariant.begins in
    let within = c.requires in
    let short : c.args.number < 4294967296 = omega (arith, all, seen, few, begins, within) in
    search rules

pub place-requires : goal.place-requires
place-requires c =
    let order = c.self.inside in
    let all = all_count order.runs.items order.last order.count c.self.invariant.ordered c.self.invariant.ends in
    let seen = ap (λ seen. length seen.items) c.self.view_is in
    let begins = c.self.invariant.begins in
    let requires = c.requires in
    let within : c.args.number < order.count = omega (arith, all, seen, begins, requires) in
    let runs = c.as_slice-runs.ensures.items in
    let item : slice_get (places_of order.runs.items order.last order.count) c.args.number
    ≡ Some (place_in c.run_at-run.result (c.args.number - c.run_at-run.result.first)) =
    ap (λ rs. slice_get (places_of rs order.last order.count) c.args.number) (sym runs)
    ∙ c.run_at-run.ensures.place order.count within in
    record {
      short = all_get IsShortPlace _ c.args.number _ c.self.invariant.short item;
    }

pub returns : goal.returns
returns c =
    let order = c.self.inside in
    let all = all_count order.runs.items order.last order.count c.self.invariant.ordered c.self.invariant.ends in
    let seen = ap (λ seen. length seen.items) c.self.view_is in
    let begins = c.self.invariant.begins in
    let requires = c.requires in
    let within : c.args.number < order.count = omega (arith, all, seen, begins, requires) in
    let runs = c.as_slice-runs.ensures.items in
    record {
      item = ap (λ seen. slice_get seen.items c.args.number) (sym c.self.view_is)
          ∙ ap (λ rs. slice_get (places_of rs order.last order.count) c.args.number) (sym runs)
          ∙ c.run_at-run.ensures.place order.count within ∙ ap (λ p. Some p) (sym c.place.ensures.place);
    }
