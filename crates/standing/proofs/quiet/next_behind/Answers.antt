use Rattle.standing.proofs.QuietLemmas.{all_behind}
use Rattle.standing.proofs.quiet.next_behind.Goals as goal

pub returns-then-unsigned_abs-next : goal.returns-then-unsigned_abs-next
returns-then-unsigned_abs-next c = record {
  quiet = all_behind c.args.last c.args.moment c.args.next c.args.queries.now c.requires.lawful c.requires.onward
      c.requires.quiet;
}
