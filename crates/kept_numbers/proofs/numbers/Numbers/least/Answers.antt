use Rattle.std.proofs.Common.{◌≡◌, ◌∙◌, Some, ap, sym, to_z, of_z, rules}
use Rattle.std.specs.Int.{w128}
use Rattle.mon_value.specs.Groups.{least_of}
use Rattle.kept_numbers.proofs.NumberLemmas.{least, no_entries, nothing}
use Rattle.kept_numbers.proofs.numbers.Numbers.least.Goals as goal

pub returns-in-Some : goal.returns-in-Some
returns-in-Some c numbers are =
    let same : to_z w128 (of_z w128 c.copied.result) ≡ c.copied.result = search rules in
    ap Some (same ∙ c.copied.ensures)
    ∙ least c.args.self.now.counts.entries c.in-Some.number.now c.in-Some.field-0-1.now c.in-Some.ensures.value
    c.in-Some.ensures.least numbers are

pub returns-in-None : goal.returns-in-None
returns-in-None c numbers are =
    let entries = c.args.self.now.counts.entries in
    let none = no_entries entries (λ h. let some = c.in-None.ensures.variant.1 h in absurd cc) in
    sym (ap least_of (nothing entries numbers none are))
