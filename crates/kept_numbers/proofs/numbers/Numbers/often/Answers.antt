use Rattle.std.proofs.Common.{◌≡◌, ◌∙◌, ap, to_z, of_z, rules}
use Rattle.std.specs.Int.{w128}
use Rattle.std.specs.Prelude.{unwrap_or}
use Rattle.kept_numbers.specs.HowOften.{how_often}
use Rattle.kept_numbers.proofs.numbers.Numbers.often.Goals as goal

pub returns-in-Some : goal.returns-in-Some
returns-in-Some c =
    let same : to_z w128 (of_z w128 c.args.number) ≡ c.args.number = search rules in
    ap (λ o. unwrap_or o 0) c.in-Some.ensures.value ∙ ap (λ x. how_often x c.args.self.now.counts.entries) same

pub returns-in-None : goal.returns-in-None
returns-in-None c =
    let same : to_z w128 (of_z w128 c.args.number) ≡ c.args.number = search rules in
    ap (λ o. unwrap_or o 0) c.in-None.ensures.value ∙ ap (λ x. how_often x c.args.self.now.counts.entries) same
