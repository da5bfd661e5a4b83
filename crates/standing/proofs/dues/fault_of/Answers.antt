use Rattle.std.proofs.Common.{rules, ◌≡◌, ◌∙◌, ℤ, Option, to_z, of_z, w64, ap}
use Rattle.std.specs.Option.{option_or}
use Rattle.standing.specs.DueLists.{backwards, due_count, too_many}
use Rattle.standing.specs.declared.faults.DueFault.{DueFault}
use Rattle.standing.proofs.dues.fault_of.Goals as goal

pub returns-in-Some : goal.returns-in-Some
returns-in-Some c =
    let same : to_z w64 (of_z w64 c.args.moment) ≡ c.args.moment = search rules in
    record {
      fault = ap (λ (first : Option DueFault). option_or first
          (too_many (due_count c.args.last c.args.moment c.args.queries.now)))
          (c.in-Some.ensures.fault ∙ ap (backwards c.args.last) same);
    }

pub returns-in-None : goal.returns-in-None
returns-in-None c =
    let same : to_z w64 (of_z w64 c.args.moment) ≡ c.args.moment = search rules in
    record {
      fault = c.too_many.ensures.fault
          ∙ ap (λ (z : ℤ). too_many (due_count c.args.last z c.args.queries.now)) same
          ∙ ap (λ (first : Option DueFault). option_or first
          (too_many (due_count c.args.last c.args.moment c.args.queries.now)))
          (c.in-None.ensures.fault ∙ ap (backwards c.args.last) same);
    }
