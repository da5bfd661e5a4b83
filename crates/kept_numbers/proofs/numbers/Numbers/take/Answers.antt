use Rattle.std.proofs.Common.{◌≡◌, ◌∙◌, ◌<◌, ◌≤◌, ◌-◌, None, Some, ap, subst, to_z, of_z, rules, arith}
use Rattle.std.specs.Int.{w128}
use Rattle.kept_numbers.specs.HowOften.{how_often}
use Rattle.kept_numbers.proofs.NumberLemmas.{IsWritten, taken_last, taken_some}
use Rattle.kept_numbers.proofs.numbers.Numbers.take.Goals as goal

pub returns-then-often-gt1 : goal.returns-then-often-gt1
returns-then-often-gt1 c numbers are =
    let entries = c.args.self.now.counts.entries in
    let new = c.lessen.new.counts.entries in
    let often = c.often-often.result in
    let more : 1 < often = omega (arith, c.if-often-gt1.true) in
    let same : to_z w128 (of_z w128 c.args.number) ≡ c.args.number = search rules in
    taken_some entries new c.args.number often (c.often-often.ensures ∙ ap (λ x. how_often x entries) same) more
    (subst (λ x. IsWritten entries new x (Some (often - 1))) same (λ z. c.lessen.ensures.0 z)) numbers are

pub returns-else-often-gt1 : goal.returns-else-often-gt1
returns-else-often-gt1 c numbers are =
    let entries = c.args.self.now.counts.entries in
    let new = c.remove.new.self.entries in
    let often = c.often-often.result in
    let few : often ≤ 1 = omega (arith, c.if-often-gt1.false) in
    let same : to_z w128 (of_z w128 c.args.number) ≡ c.args.number = search rules in
    taken_last entries new c.args.number often (c.often-often.ensures ∙ ap (λ x. how_often x entries) same) few
    (subst (λ x. IsWritten entries new x None) same (λ z. c.remove.ensures.updates.0 z)) numbers are
