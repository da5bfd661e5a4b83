use Rattle.std.proofs.Common.{rules, ◌≡◌, ◌∙◌, ◌<◌, ◌+◌, ℕ, ℤ, MatchOption, to_z, of_z, w64, subst, ap, arith}
use Rattle.standing.specs.DueLists.{due_count, seconds}
use Rattle.standing.proofs.QuietLemmas.{none_due}
use Rattle.standing.proofs.dues.room_behind.Goals as goal

pub returns-then-unsigned_abs-next : goal.returns-then-unsigned_abs-next
returns-then-unsigned_abs-next c =
    let same : to_z w64 (of_z w64 c.args.moment) ≡ c.args.moment = search rules in
    let value : c.unsigned_abs.result ≡ seconds c.args.moment = c.unsigned_abs.ensures.value ∙ ap seconds same in
    let below : seconds c.args.moment < c.args.next = subst (λ n. n < c.args.next) value c.if-unsigned_abs-next.true in
    let none : due_count c.args.last c.args.moment c.args.block.now ≡ 0 =
    none_due c.args.last c.args.moment c.args.next c.args.block.now below c.requires.quiet in
    record { left = omega (arith, none) }

pub returns : goal.returns
returns c =
    let room : ℕ = c.args.room in
    let same : to_z w64 (of_z w64 c.args.moment) ≡ c.args.moment = search rules in
    record {
      left = subst (λ (z : ℤ). MatchOption c.room_behind_each.result (room < due_count c.args.last z c.args.block.now)
          (λ left. left + due_count c.args.last z c.args.block.now ≡ room)) same c.room_behind_each.ensures.left;
    }
