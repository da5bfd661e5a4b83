use Rattle.std.proofs.Common.{◌≡◌, ◌∙◌, Some, ap, sym, to_z, of_z, rules}
use Rattle.std.specs.Int.{w128}
use Rattle.mon_value.specs.Groups.{greatest_of}
use Rattle.kept_numbers.proofs.NumberLemmas.{greatest, no_entries, nothing}
use Rattle.kept_numbers.proofs.numbers.Numbers.greatest.Goals as goal

pub returns-in-Some : goal.returns-in-Some
returns-in-Some c numbers are =
    let same : to_z w128 (of_z w128 c.copied.result) ≡ c.copied.result = search rules in
    ap Some (same ∙ c.copied.ensures)
    ∙ greatest c.args.self.now.counts.entries c.in-Some.number.now c.in-Some.field-0-1.now c.in-Some.ensures.value
    c.in-Some.ensures.greatest numbers are

pub returns-in-None : goal.returns-in-None
returns-in-None c numbers are =
    let entries = c.args.self.now.counts.entries in
    let none = no_entries entries (λ h. let some = c.in-None.ensures.variant.1 h in absurd cc) in
    sym (ap greatest_of (nothing entries numbers none are))
