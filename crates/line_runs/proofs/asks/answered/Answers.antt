use Rattle.std.proofs.Common.{rules, ◌≡◌, to_z, of_z, w64}
use Rattle.line_runs.proofs.Printed.{printed_at}
use Rattle.line_runs.proofs.asks.answered.Goals as goal

pub returns-in-Ok-clause-printed : goal.returns-in-Ok-clause-printed
returns-in-Ok-clause-printed g c =
    let same : to_z w64 (of_z w64 c.args.moment) ≡ c.args.moment = search rules in
    printed_at c.args.store.now c.args.what (to_z w64 (of_z w64 c.args.moment)) c.args.moment c.args.text.now
    c.args.p.now c.args.answer.trace c.ran_question.result c.in-Ok.text same c.ran_question.ensures.trace
    c.ran_question.ensures.text c.in-Ok.ensures.text
