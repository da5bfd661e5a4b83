use Rattle.std.proofs.Common.{◌≡◌, ◌∙◌, ◌+◌, Some, ap, subst, to_z, of_z, rules}
use Rattle.std.specs.Int.{w128}
use Rattle.kept_numbers.specs.HowOften.{how_often}
use Rattle.kept_numbers.proofs.NumberLemmas.{IsWritten, added}
use Rattle.kept_numbers.proofs.numbers.Numbers.add.Goals as goal

pub returns-clause-added : goal.returns-clause-added
returns-clause-added c numbers are =
    let entries = c.args.self.now.counts.entries in
    let new = c.insert.new.self.entries in
    let often = c.often-often.result in
    let same : to_z w128 (of_z w128 c.args.number) ≡ c.args.number = search rules in
    added entries new c.args.number numbers often (c.often-often.ensures ∙ ap (λ x. how_often x entries) same)
    (subst (λ x. IsWritten entries new x (Some (often + 1))) same (λ z. c.in_ok-insert.ensures.updates.0 z)) are
