use Rattle.std.proofs.Common.{◌≡◌, None, Some, subst, to_z, of_z, rules}
use Rattle.std.specs.Int.{w128}
use Rattle.std.specs.BTreeMap.{Updates}
use Rattle.std.specs.Map.{lookup}
use Rattle.std.specs.Ordering.{int_cmp}
use Rattle.kept_numbers.specs.HowOften.{is_number}
use Rattle.kept_numbers.proofs.NumberLemmas.{settled, there}
use Rattle.kept_numbers.proofs.numbers.lessen.Goals as goal

pub returns : goal.returns
returns c =
    let entries = c.args.counts.now.entries in
    let same : to_z w128 (of_z w128 c.args.number) ≡ c.args.number = search rules in
    subst (λ x. Updates int_cmp c.args.counts.now c.insert.new.self x (Some c.args.often)) same
    (settled c.insert.result c.insert.ensures.updates c.insert.ensures.absent
    (λ none. there (lookup (is_number c.args.number) entries) c.requires
    (subst (λ x. lookup (is_number x) entries ≡ None) same none)))
