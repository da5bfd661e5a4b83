use Rattle.std.proofs.Common.{rules, ◌≡◌, ◌∙◌, ℤ, to_z, of_z, w64, ap, sym}
use Rattle.standing.specs.DueLists.{due_count, too_many}
use Rattle.standing.proofs.CountLemmas.{many, not_many}
use Rattle.standing.proofs.dues.too_many.Goals as goal

pub returns-in-Some : goal.returns-in-Some
returns-in-Some c =
    let moment : ℤ = to_z w64 (of_z w64 c.args.moment) in
    let same : moment ≡ c.args.moment = search rules in
    record {
      fault = sym (not_many (due_count c.args.last moment c.args.queries.now) c.in-Some.field-0 c.in-Some.ensures.left)
          ∙ ap (λ (z : ℤ). too_many (due_count c.args.last z c.args.queries.now)) same;
    }

pub returns-in-None : goal.returns-in-None
returns-in-None c =
    let moment : ℤ = to_z w64 (of_z w64 c.args.moment) in
    let same : moment ≡ c.args.moment = search rules in
    record {
      fault = sym (many (due_count c.args.last moment c.args.queries.now) c.in-None.ensures.left)
          ∙ ap (λ (z : ℤ). too_many (due_count c.args.last z c.args.queries.now)) same;
    }
