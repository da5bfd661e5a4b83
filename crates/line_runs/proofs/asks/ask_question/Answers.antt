use Rattle.std.proofs.Common.{rules, ◌≡◌, ℤ, [], IfOk, subst, to_z, of_z, w64}
use Rattle.line_runs.specs.LineWrites.{LineWrote, ran_line}
use Rattle.line_runs.specs.Questions.{question}
use Rattle.line_runs.proofs.asks.ask_question.Goals as goal
use Rattle.run_traces.specs.declared.line_files.LineFiles.{LineFiles}

pub returns-clause-wrote : goal.returns-clause-wrote
returns-clause-wrote g c =
    let asked = c.args.asked.now in
    let same : to_z w64 (of_z w64 asked.moment) ≡ asked.moment = search rules in
    subst (λ (at : ℤ). IfOk c.ask.result (λ ran. (content : LineFiles) → LineWrote c.args.store.now
    (ran_line (question asked.how at asked.text) content ran.trace []) ran.text c.args.p.now c.ask.new.p)) same
    c.ask.ensures.wrote
