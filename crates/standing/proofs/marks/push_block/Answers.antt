use Rattle.std.proofs.Common.{rules, ◌≡◌, ◌∙◌, ◌<◌, ◌++◌, [], List, to_z, of_z, w64, subst, ap, sym, append-nil}
use Rattle.standing.specs.DueLists.{Mark, marks_from, seconds}
use Rattle.standing.proofs.QuietLemmas.{none_marked}
use Rattle.standing.proofs.marks.push_block.Goals as goal

pub returns-then-unsigned_abs-next : goal.returns-then-unsigned_abs-next
returns-then-unsigned_abs-next c =
    let same : to_z w64 (of_z w64 c.args.moment) ≡ c.args.moment = search rules in
    let value : c.unsigned_abs.result ≡ seconds c.args.moment = c.unsigned_abs.ensures.value ∙ ap seconds same in
    let below : seconds c.args.moment < c.args.next = subst (λ n. n < c.args.next) value c.if-unsigned_abs-next.true in
    let none : marks_from c.args.first c.args.last c.args.moment c.args.block.now ≡ [] =
    none_marked c.args.first c.args.last c.args.moment c.args.next c.args.block.now below c.requires.quiet in
    record {
      marks = sym (append-nil c.args.marks.now.items)
          ∙ ap (λ (ms : List Mark). c.args.marks.now.items ++ ms) (sym none);
    }
